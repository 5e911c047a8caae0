-- The command `hash`: the digest of each line's bytes, which are in hex or are the content of
-- strings.
-- Cited by contracts of public items through LineFaults, Program.
use Rattle.std.specs.Prelude.{◌≡◌, ℕ, ◌+◌, ◌*◌, List, [], ◌∷◌, ◌++◌, flat_map, Option, None, Some, ok_or, option_and_then, option_map, Result, Ok, length, ⊤}
use Rattle.std.specs.List.{concat}
use Rattle.jj_content.specs.Blake2b.{blake2b}
use Rattle.jj_content.specs.Content.{string_content, list_content}
use Rattle.jj_content.specs.Hex.{hex, hex_digits, digit_value}
use Rattle.jj_program.specs.declared.fault.Fault.{Fault}
use Rattle.jj_program.specs.declared.fault.LineFault.{LineFault}
use Rattle.jj_program.specs.declared.fault.LineFault.TheVariants.{BadHex}
use Rattle.jj_program.specs.declared.hash_command.HashInput.{HashInput}
use Rattle.jj_program.specs.declared.hash_command.HashInput.TheVariants.{Raw, Text, List as List', Merge}
use Rattle.jj_program.specs.declared.hash_command.TheConstants.{HASH_FORMS}
use Rattle.jj_program.specs.Forms.{form_line, table}
use Rattle.jj_program.specs.Lines.{lines_of, after_lines, result_and_then}
use Rattle.jj_merges.specs.Merge.{IsOdd}

-- decodes hex of either case
abbrev pub bytes_of_hex : List ℕ → Option (List ℕ)
bytes_of_hex [] = Some []
bytes_of_hex (alone ∷ []) = None
bytes_of_hex (high ∷ low ∷ text) =
    option_and_then (λ h. option_and_then (λ l. option_map (λ bytes. (h * 16 + l) ∷ bytes)
    (bytes_of_hex text)) (digit_value hex_digits low)) (digit_value hex_digits high)

-- the digest of the value that a line with these fields describes: the bytes of a hex string, or
-- the content of a string, of a list of strings or of a merge of strings
abbrev pub hashed : HashInput → List (List ℕ) → Result (List ℕ) LineFault
hashed Raw fields = ok_or (option_map blake2b (bytes_of_hex (concat fields))) BadHex
hashed Text fields = Ok (blake2b (flat_map string_content fields))
hashed List' fields = Ok (blake2b (list_content string_content fields))
hashed Merge fields = Ok (blake2b (list_content string_content fields))

-- the output of a line: its digest, or its fault
abbrev pub hash_line : List (List ℕ) → Result (List ℕ) LineFault
hash_line fields =
    result_and_then (form_line (table HASH_FORMS) fields) (λ line. hashed line.0 line.2)

-- a line of 128 hex digits
abbrev pub digest_line : List ℕ → List ℕ
digest_line digest = hex digest ++ 10 ∷ []

-- appends the digest of a line to the output
abbrev pub hash_step : List ℕ → List (List ℕ) → Result (List ℕ) LineFault
hash_step output fields = result_and_then (hash_line fields)
    (λ digest. Ok (output ++ digest_line digest))

-- the digests of all lines, or the first fault
abbrev pub hash_output : List ℕ → Result (List ℕ) Fault
hash_output text = after_lines hash_step 1 [] (lines_of text)

-- a line of an input has this number of fields
abbrev pub HasSize : HashInput → List (List ℕ) → Type 0
HasSize Raw fields = length fields ≡ 1
HasSize Text fields = length fields ≡ 1
HasSize List' fields = ⊤
HasSize Merge fields = IsOdd (length fields)
