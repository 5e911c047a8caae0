-- Long case-insensitive substrings, which are searched with a table.
-- Machinery of private functions and fields.
use Rattle.std.specs.Prelude.{ℕ, if◌then◌else◌, nat_lt, List, length, Option, None, Some}
use Rattle.std.specs.Option.{ForSome}
use Rattle.jj_strings.specs.KmpTable.{IsBorderTable}
use Rattle.jj_strings.specs.CaseFolding.{lowercase}
use Rattle.jj_strings.specs.StringSets.{Pattern, substring_i}

-- the needle of such a pattern
abbrev pub long_needle : Pattern → Option (List ℕ)
long_needle (substring_i text) = if nat_lt 4096 (length text) then Some text else None
long_needle p = None

-- for such a pattern, the table of the needle
abbrev pub HasBorders : Pattern → List ℕ → Type 0
HasBorders p borders = ForSome (long_needle p) (λ text. IsBorderTable (lowercase text) borders)
