-- Stores with objects added.
-- Cited by contracts of public items: IsExtended.
use Rattle.std.specs.Prelude.{◌≡◌, ℕ, List, Some}
use Rattle.jj_backend.specs.Objects.{ById, Objects}

-- the later map has each entry of the earlier one
abbrev pub IsPart : {V : Type 0} → ById V → ById V → Type 0
IsPart {V} earlier later = (id : List ℕ) (value : V) → earlier id ≡ Some value
    → later id ≡ Some value

-- the later store has each object of the earlier one, under the same id
pub record IsExtended (earlier later : Objects) : Type 0 where
  pub files : IsPart earlier.files later.files
  pub symlinks : IsPart earlier.symlinks later.symlinks
  pub copies : IsPart earlier.copies later.copies
  pub trees : IsPart earlier.trees later.trees
  pub commits : IsPart earlier.commits later.commits
