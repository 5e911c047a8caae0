-- How a map changes, as the list of its entries.
-- Cited by contracts of public items: PutsEntry, UpdatesEntry.
use Rattle.std.specs.Prelude.{◌≡◌, Bool, List, ◌∷◌, Option, Some, MatchOption, cond}
use Rattle.std.specs.List.Sorted.{IsPermutation}
use Rattle.std.specs.Map.{lookup, set_value}

module _ {K V : Type 0} (eq : K → K → Bool) where
  -- `after` has this value at k, and the value of `before` at each other key
  abbrev pub UpdatesEntry : List (K × V) → List (K × V) → K → V → Type 0
  UpdatesEntry before after k v = (q : K)
      → lookup (eq q) after ≡ cond (eq k q) (Some v) (lookup (eq q) before)

  -- the entries after v was inserted at k, which had the value `old`: either the value changed, or
  -- there is one more entry somewhere
  abbrev pub PutsEntry : List (K × V) → List (K × V) → K → V → Option V → Type 0
  PutsEntry before after k v old = MatchOption old (IsPermutation ((k, v) ∷ before) after)
      (λ _. after ≡ set_value (eq k) before v)
