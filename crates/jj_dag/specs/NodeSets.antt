-- How a set of keys changes, as the list of its keys.
-- Cited by contracts of public items: PutsKey, Updates.
use Rattle.std.specs.Prelude.{◌≡◌, Bool, List, ◌∷◌, cond, MatchBool}
use Rattle.std.specs.List.Sorted.{IsPermutation}
use Rattle.std.specs.Set.{is_member}

module _ {K : Type 0} where
  -- `after` has k exactly if b is true, and each other key exactly if `before` has it
  abbrev pub Updates : (K → K → Bool) → List K → List K → K → Bool → Type 0
  Updates eq before after k b = (q : K)
      → is_member eq after q ≡ cond (eq k q) b (is_member eq before q)

  -- the keys after k is inserted: there is one more somewhere if it was added
  abbrev pub PutsKey : List K → List K → K → Bool → Type 0
  PutsKey before after k added = MatchBool added (IsPermutation (k ∷ before) after) (after ≡ before)
