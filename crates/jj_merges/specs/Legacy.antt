-- The legacy form of a conflict: a list of removes and a list of adds, of any lengths.
-- Cited by contracts of public items: legacy_terms.
use Rattle.std.specs.Prelude.{◌≡◌, ℕ, List, [], ◌∷◌, Option, Some, None, refl}

module _ {T : Type 0} where
  -- a remove, an add, and so on; the shorter list is padded with `None`
  abbrev pub legacy_pairs : List T → List T → List (Option T)
  legacy_pairs [] [] = []
  legacy_pairs [] (a ∷ ys) = None ∷ Some a ∷ legacy_pairs [] ys
  legacy_pairs (r ∷ xs) [] = Some r ∷ None ∷ legacy_pairs xs []
  legacy_pairs (r ∷ xs) (a ∷ ys) = Some r ∷ Some a ∷ legacy_pairs xs ys

  -- the terms of the merge of removes xs and adds ys
  abbrev pub legacy_terms : List T → List T → List (Option T)
  legacy_terms xs [] = None ∷ legacy_pairs xs []
  legacy_terms xs (a ∷ ys) = Some a ∷ legacy_pairs xs ys

example_legacy_terms : legacy_terms {T = ℕ} (1 ∷ []) [] ≡ None ∷ Some 1 ∷ None ∷ []
example_legacy_terms = refl
