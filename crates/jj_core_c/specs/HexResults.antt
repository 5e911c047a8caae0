-- Results of the calls on hex.
-- Cited by contracts of public items: IsDecodingCause, IsPrefixCause, ReportsPrefix,
-- WritesDecoded, alphabet.
use Rattle.std.specs.Prelude.{◌≡◌, ◌<◌, ◌/◌, ℕ, List, length, Bool, true, false, nat_eq, ⊤, if◌then◌else◌}
use Rattle.std.specs.List.{starts_with}
use Rattle.std.specs.Str.{str_to_ascii_lowercase}
use Rattle.jj_content.specs.Hex.{DecodesTo, encode_with, hex_digits, is_hex, is_whole_hex, reverse_hex_digits}
use Rattle.jj_core_c.specs.declared.error.Error.{Error}
use Rattle.jj_core_c.specs.declared.error.Error.TheVariants.{Memory, Length, Syntax}
use Rattle.jj_core_c.specs.Buffers.{Writes}

-- the digits of hex, or of reverse hex
abbrev pub alphabet : Bool → List ℕ
alphabet false = hex_digits
alphabet true = reverse_hex_digits

-- the bytes that the digits encode are written
abbrev pub WritesDecoded : (digits text old new : List ℕ) → ℕ → Type 0
WritesDecoded digits text old new n = (bytes : List ℕ) × DecodesTo digits text bytes
    × Writes old new bytes n

-- the cause of an error of decoding: the argument that it rejects, or memory ran out
abbrev pub IsDecodingCause : (digits text : List ℕ) (room : ℕ) → Error → Type 0
IsDecodingCause digits text room Memory = ⊤
IsDecodingCause digits text room Length = room < length text / 2
IsDecodingCause digits text room Syntax = is_whole_hex digits text ≡ false
IsDecodingCause digits text room other = ⊥

-- the encoding of the id begins with the prefix in lower case
abbrev pub begins_with : (digits id prefix : List ℕ) → Bool
begins_with digits id prefix =
    starts_with nat_eq (encode_with digits id) (str_to_ascii_lowercase prefix)

-- the prefix consists of digits, and the number is 1 if the id begins with it, else 0
abbrev pub ReportsPrefix : (digits prefix id : List ℕ) → ℕ → Type 0
ReportsPrefix digits prefix id n = (is_hex digits prefix ≡ true)
    × (n ≡ (if begins_with digits id prefix then 1 else 0))

-- the cause of an error of parsing a prefix: the argument that it rejects, or memory ran out
abbrev pub IsPrefixCause : (digits prefix : List ℕ) → Error → Type 0
IsPrefixCause digits prefix Memory = ⊤
IsPrefixCause digits prefix Syntax = is_hex digits prefix ≡ false
IsPrefixCause digits prefix other = ⊥
