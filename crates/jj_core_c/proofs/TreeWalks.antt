-- The files that a walk finds by a list of paths, and the directories that it enters.
use Rattle.std.proofs.Common.{◌≡◌, ◌≢◌, ◌∙◌, Bool, true, List, [], ◌∷◌, ◌++◌, length, refl, sym, ap, subst, arith, if◌then◌else◌}
use Rattle.std.specs.Prelude.{◌↔◌, Contains}
use Rattle.std.proofs.lemmas.List.Elements.{Contains-append_right}
use Rattle.jj_paths.specs.Paths.{Name, Path}
use Rattle.jj_paths.specs.Tree.{Tree}
use Rattle.jj_paths.specs.Orders.{path_eq}
use Rattle.jj_matchers.specs.Laws.{FindsMarks}
use Rattle.jj_matchers.specs.Marks.{IsMarkedTree}
use Rattle.jj_matchers.specs.PathLists.{HasSamePaths, is_below, is_at_or_below, files_spec, prefix_spec}
use Rattle.jj_matchers.specs.VisitSpecs.{VisitSpec, specific}
use Rattle.jj_matchers.specs.Walk.{entered_by, files_of}
use Rattle.jj_core_c.specs.TreeWalks.{AreContained, AreFoundFlags, FindsListed}

-- a walk finds the accepted files below the root, for any description of the accepted paths
module _ (files : List Path) (tree : Tree Bool) (found : List Path) (accepts : Path → Bool) (Has : Path → Type 0) where
  pub found_files : FindsMarks → IsMarkedTree files tree → found ≡ files_of accepts tree → ((path : Path) → (accepts path ≡ true) ↔ Has path)
      → (path : Path) → Contains found path ↔ (Contains files path × (path ≢ []) × Has path)
  found_files finds made is has path =
      let all = finds files tree made accepts path in (
        (λ h. let file = all.0 (subst (λ l. Contains l path) is h) in (file.0, file.1, (has path).0 file.2)),
        (λ (listed, not_root, member). subst (λ l. Contains l path) (sym is) (all.1 (listed, not_root, (has path).1 member))),
      )

same_specific : (dirs dirs' files files' : Name → Bool) → ((name : Name) → dirs name ≡ dirs' name) → ((name : Name) → files name ≡ files' name) → specific dirs files ≡ specific dirs' files'
same_specific dirs dirs' files files' same_dirs same_files = λ i. specific (λ name. (same_dirs name) i) (λ name. (same_files name) i)

same_choice : (a b : Bool) (x x' y y' : VisitSpec) → a ≡ b → x ≡ x' → y ≡ y' → (if a then x else y) ≡ (if b then x' else y')
same_choice a b x x' y y' e f g = λ i. if (e i) then (f i) else (g i)

-- lists with the same paths have the same visits
pub same_files_visit : (xs ys : List Path) → HasSamePaths xs ys → (dir : Path) → files_spec xs dir ≡ files_spec ys dir
same_files_visit xs ys same dir =
    same_choice _ _ _ _ _ _ (same (is_below dir)) (same_specific _ _ _ _ (λ name. same (is_below (dir ++ name ∷ []))) (λ name. same (path_eq (dir ++ name ∷ [])))) refl

pub same_prefix_visit : (xs ys : List Path) → HasSamePaths xs ys → (dir : Path) → prefix_spec xs dir ≡ prefix_spec ys dir
same_prefix_visit xs ys same dir =
    same_choice _ _ _ _ _ _ (same (λ prefix. is_at_or_below prefix dir)) refl
    (same_choice _ _ _ _ _ _ (same (is_below dir)) (same_specific _ _ _ _ (λ name. same (is_at_or_below (dir ++ name ∷ []))) (λ name. same (path_eq (dir ++ name ∷ [])))) refl)

-- with equal visits, a walk enters equally many directories
pub same_entered : (tree : Tree Bool) (entered : List Path) (visits by : Path → VisitSpec) → entered ≡ entered_by visits tree → ((dir : Path) → visits dir ≡ by dir)
    → length entered ≡ length (entered_by by tree)
same_entered tree entered visits by is same =
    let all : visits ≡ by = λ i dir. same dir i in
    ap length is ∙ ap (λ (v : Path → VisitSpec). length (entered_by v tree)) all

here : {X : Type 0} (x : X) (xs : List X) → Contains (x ∷ xs) x
here x xs = (0, (omega arith), refl)

later : {X : Type 0} (x : X) (xs : List X) (y : X) → Contains xs y → Contains (x ∷ xs) y
later x xs y is_in = Contains-append_right (x ∷ []) xs y is_in

-- the flags of files that are among those found
flags_within : (prefixes : Bool) (listed files found some : List Path) (flags : List Bool) → FindsListed prefixes listed files found → ((path : Path) → Contains some path → Contains files path)
    → AreContained found some flags → AreFoundFlags prefixes listed some flags
flags_within prefixes listed files found [] [] finds within all = tt
flags_within prefixes listed files found [] (flag ∷ flags) finds within all = absurd all
flags_within prefixes listed files found (file ∷ some) [] finds within all = absurd all
flags_within prefixes listed files found (file ∷ some) (flag ∷ flags) finds within all =
    let h = finds file in (
      ((λ yes. let file' = h.0 (all.0.0 yes) in (file'.1, file'.2)), (λ (not_root, member). all.0.1 (h.1 (within file (here file some), not_root, member)))),
      flags_within prefixes listed files found some flags finds (λ path is_in. within path (later file some path is_in)) all.1,
    )

pub found_flags : (prefixes : Bool) (listed files found : List Path) (flags : List Bool) → FindsListed prefixes listed files found → AreContained found files flags
    → AreFoundFlags prefixes listed files flags
found_flags prefixes listed files found flags finds all = flags_within prefixes listed files found files flags finds (λ path is_in. is_in) all
