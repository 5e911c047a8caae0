-- Names of refs that a record can have: one to a line.
-- Cited by contracts of public items: IsRefName.
use Rattle.std.specs.Prelude.{◌≢◌, ℕ, List, All}

-- the name has no line feed
abbrev pub IsRefName : List ℕ → Type 0
IsRefName name = All (λ byte. byte ≢ 10) name
