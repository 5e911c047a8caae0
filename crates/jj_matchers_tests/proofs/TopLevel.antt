-- Soundness of the visits of the matcher of top-level names, and the paths that it accepts.
use Rattle.std.proofs.Common.{◌≡◌, Bool, true, false, not, List, [], ◌∷◌, Contains, get_or, refl, ap, sym, subst, ◌∙◌, if◌then◌else◌}
use Rattle.std.specs.Prelude.{◌↔◌, IsTrue}
use mathlib.Core.Bool.{false≢true}
use Rattle.std.specs.Str.{bytes_eq}
use Rattle.std.proofs.lemmas.List.Folds.{Any-from_list_any, list_any_at}
use Rattle.std.proofs.lemmas.Slice.Eq.{bytes_eq-Decides}
use Rattle.jj_paths.specs.Paths.{Name, Path}
use Rattle.jj_matchers.specs.VisitSpecs.{IsSound, all_recursively, nothing}
use Rattle.jj_matchers.specs.Visits.{has_names, is_among}
use Rattle.jj_matchers_tests.specs.TopLevel.{starts_among, top_level_spec}

module _ (names : List Name) where
  abbrev every : Path → Bool
  every path = true

  -- the visit is everything at or below one of the names, and nothing below another name
  pub all_below : (dir : Path) → starts_among names dir ≡ true → (all_recursively ≡ top_level_spec names dir) × IsSound (starts_among names) every dir all_recursively
  all_below [] h = absurd (false≢true h)
  all_below (first ∷ rest) h = (ap (λ b. if b then all_recursively else nothing) (sym h), λ name more. (h, refl))

  pub none_below : (dir : Path) → starts_among names dir ≡ false → has_names dir ≡ true → (nothing ≡ top_level_spec names dir) × IsSound (starts_among names) every dir nothing
  none_below [] h below = absurd (false≢true below)
  none_below (first ∷ rest) h below = (ap (λ b. if b then all_recursively else nothing) (sym h), λ name more. h)

  pub at_root : (dir : Path) → has_names dir ≡ false → dir ≡ []
  at_root [] e = refl
  at_root (first ∷ rest) e = absurd (false≢true (sym e))

  -- `is_among` decides membership
  decides : (name : Name) → (is_among names name ≡ true) ↔ Contains names name
  decides name = (
    (λ h. let found = Any-from_list_any (bytes_eq name) names h in
        (found.0, found.2, subst (λ n. get_or names found.0 n ≡ n) (sym ((bytes_eq-Decides name found.1).0 found.4)) found.3)),
    (λ h. list_any_at (bytes_eq name) names h.0 name h.1 ((bytes_eq-Decides name (get_or names h.0 name)).1 (sym h.2))),
  )

  no_first : (name : Name) (rest : Path) → [] ≡ name ∷ rest → ⊥
  no_first name rest e = cc

  first_same : (a b : Name) (xs ys : Path) → a ∷ xs ≡ b ∷ ys → a ≡ b
  first_same a b xs ys e = cc

  -- the accepted paths, in terms of list membership
  pub starts_with : (path : Path) → (starts_among names path ≡ true) ↔ ((name : Name) × (rest : Path) × (path ≡ name ∷ rest) × Contains names name)
  starts_with [] = ((λ h. absurd (false≢true h)), (λ found. absurd (no_first found.0 found.1 found.2)))
  starts_with (first ∷ rest) = (
    (λ h. (first, rest, refl, (decides first).0 h)),
    (λ found. let same = first_same first found.0 rest found.1 found.2 in (decides first).1 (subst (Contains names) (sym same) found.3)),
  )

-- a path has a first name if it is not the root
pub below_root : (is_root : Bool) (path : Path) → IsTrue is_root ↔ (path ≡ []) → not is_root ≡ has_names path
below_root true [] told = refl
below_root true (first ∷ rest) told = let root : first ∷ rest ≡ [] = told.0 refl in cc
below_root false [] told = absurd (false≢true (told.1 refl))
below_root false (first ∷ rest) told = refl

-- a marked path that starts with a name is not the root
pub no_root : (path : Path) (name : Name) (rest : Path) → path ≡ name ∷ rest → path ≡ [] → ⊥
no_root path name rest is root = let both : name ∷ rest ≡ [] = sym is ∙ root in cc
