-- The digits of each hex alphabet.
-- Machinery of private functions and fields.
use Rattle.std.specs.Prelude.{ℕ, List}
use Rattle.jj_content.specs.Hex.{hex_digits, reverse_hex_digits}
use Rattle.jj_content.specs.declared.hex_util.Digits.{Digits}
use Rattle.jj_content.specs.declared.hex_util.Digits.TheVariants.{Forward, Reverse}

-- the digits of an alphabet
abbrev pub digits_of : Digits → List ℕ
digits_of Forward = hex_digits
digits_of Reverse = reverse_hex_digits
