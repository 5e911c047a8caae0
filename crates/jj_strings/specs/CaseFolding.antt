-- ASCII case folding of strings.
-- Cited by contracts of public items through StringSets.
use Rattle.std.specs.Prelude.{ℕ, List, map}
use Rattle.std.specs.Char.{to_ascii_lowercase}

-- the bytes in ASCII lower case
abbrev pub lowercase : List ℕ → List ℕ
lowercase bytes = map to_ascii_lowercase bytes
