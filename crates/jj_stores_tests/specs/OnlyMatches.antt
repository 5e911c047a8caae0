-- Ids that are the only match of a prefix.
-- Cited by contracts of public items: IsOnlyMatch.
use Rattle.std.specs.Prelude.{◌≡◌, ℕ, List}
use Rattle.jj_backend.specs.Objects.{ById}
use Rattle.jj_stores.specs.OpStores.{IsMatch}

-- the prefix matches this id and no other
abbrev pub IsOnlyMatch : {V : Type 0} → ById V → List ℕ → List ℕ → Type 0
IsOnlyMatch values prefix id = IsMatch values prefix id
    × ((other : List ℕ) → IsMatch values prefix other → other ≡ id)
