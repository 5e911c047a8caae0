-- The specification of prefix lookup, for any encoding of ids as strings.
-- Cited by contracts of public items: IsLookupResult, sum_of.
use Rattle.std.specs.Prelude.{◌≡◌, ◌≢◌, ℕ, List, [], ◌∷◌, IsTrue, Contains, nat_eq}
use Rattle.std.specs.Borrow.{Bor}
use Rattle.std.specs.List.{starts_with}
use Rattle.jj_ids.specs.Resolution.{sum}
use Rattle.jj_ids.specs.declared.object_id.prefix_resolution.PrefixResolution.{PrefixResolution}
use Rattle.jj_ids.specs.declared.object_id.prefix_resolution.PrefixResolution.TheVariants.{NoMatch, SingleMatch, AmbiguousMatch}

-- the encoding of the id starts with the prefix
abbrev pub EncodesWithPrefix : (List ℕ → List ℕ) → List ℕ → List ℕ → Type 0
EncodesWithPrefix encode id prefix = IsTrue (starts_with nat_eq (encode id) prefix)

-- the result of a lookup: no id starts with the prefix; or exactly this one does; or two different
-- ids do
abbrev pub IsLookupResult : (List ℕ → List ℕ) → List (List ℕ) → List ℕ
    → PrefixResolution (Bor (List ℕ)) → Type 0
IsLookupResult encode ids prefix NoMatch = (id : List ℕ) → Contains ids id
    → ¬ EncodesWithPrefix encode id prefix
IsLookupResult encode ids prefix (SingleMatch only) = Contains ids only.now
    × EncodesWithPrefix encode only.now prefix
    × ((id : List ℕ) → Contains ids id → EncodesWithPrefix encode id prefix → id ≡ only.now)
IsLookupResult encode ids prefix AmbiguousMatch = (first second : List ℕ)
    × Contains ids first × EncodesWithPrefix encode first prefix
    × Contains ids second × EncodesWithPrefix encode second prefix × (first ≢ second)

-- the sum of results: `NoMatch` if there are none
abbrev pub sum_of : {T : Type 0} → List (PrefixResolution T) → PrefixResolution T
sum_of [] = NoMatch
sum_of (x ∷ xs) = sum x (sum_of xs)
