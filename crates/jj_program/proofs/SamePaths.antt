-- Lists with the same members have the same visits.
use Rattle.std.proofs.Common.{◌≡◌, Bool, List, [], ◌∷◌, ◌++◌, refl, if◌then◌else◌}
use Rattle.jj_paths.specs.Paths.{Name, Path}
use Rattle.jj_paths.specs.Orders.{path_eq}
use Rattle.jj_matchers.specs.VisitSpecs.{VisitSpec, specific}
use Rattle.jj_matchers.specs.PathLists.{HasSamePaths, is_below, is_at_or_below, files_spec, prefix_spec}

same_specific : (dirs dirs' files files' : Name → Bool) → ((name : Name) → dirs name ≡ dirs' name) → ((name : Name) → files name ≡ files' name) → specific dirs files ≡ specific dirs' files'
same_specific dirs dirs' files files' same_dirs same_files = λ i. specific (λ name. (same_dirs name) i) (λ name. (same_files name) i)

same_choice : (a b : Bool) (x x' y y' : VisitSpec) → a ≡ b → x ≡ x' → y ≡ y' → (if a then x else y) ≡ (if b then x' else y')
same_choice a b x x' y y' e f g = λ i. if (e i) then (f i) else (g i)

pub same_files_answer : (xs ys : List Path) → HasSamePaths xs ys → (dir : Path) → files_spec xs dir ≡ files_spec ys dir
same_files_answer xs ys same dir =
    same_choice _ _ _ _ _ _ (same (is_below dir)) (same_specific _ _ _ _ (λ name. same (is_below (dir ++ name ∷ []))) (λ name. same (path_eq (dir ++ name ∷ [])))) refl

pub same_prefix_answer : (xs ys : List Path) → HasSamePaths xs ys → (dir : Path) → prefix_spec xs dir ≡ prefix_spec ys dir
same_prefix_answer xs ys same dir =
    same_choice _ _ _ _ _ _ (same (λ prefix. is_at_or_below prefix dir)) refl
    (same_choice _ _ _ _ _ _ (same (is_below dir)) (same_specific _ _ _ _ (λ name. same (is_at_or_below (dir ++ name ∷ []))) (λ name. same (path_eq (dir ++ name ∷ [])))) refl)
