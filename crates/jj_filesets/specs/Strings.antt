-- Strings of an expression: words, quoted strings and raw strings. A reading function returns the
-- bytes of the string and the rest of the expression after it, or an error with its offset, which
-- is the length of the expression less that of its rest.
use Rattle.std.specs.Prelude.{◌≡◌, ℕ, ◌+◌, ◌-◌, ◌*◌, ◌%◌, Bool, not, ◌==◌, ◌&&◌, ◌||◌, nat_le, if◌then◌else◌, List, [], ◌∷◌, length, Option, Some, None, Result, Ok, Err}
use Rattle.jj_filesets.specs.declared.fileset.error.FilesetParseError.{FilesetParseError}
use Rattle.jj_filesets.specs.declared.fileset.error.FilesetParseError.TheVariants.{Syntax, Memory}
use Rattle.jj_filesets.specs.declared.fileset.error.FilesetParseErrorKind.TheVariants.{UnclosedString, InvalidEscape, ExpectedString}
use Rattle.jj_filesets.specs.declared.fileset.quoting.Escape.{Escape}
use Rattle.jj_filesets.specs.declared.fileset.quoting.Escape.TheVariants.{Outside, Backslash, HighDigit, LowDigit}
use Rattle.jj_filesets.specs.declared.fileset.quoting.QuotedByte.{QuotedByte}
use Rattle.jj_filesets.specs.declared.fileset.quoting.QuotedByte.TheVariants.{End, Literal, Within, Invalid}

-- 1. Results.

-- the error is that of the specified result, or is `Memory`
abbrev pub Fails : {Y : Type 0} → FilesetParseError → Result Y FilesetParseError → Type 0
Fails Memory read = Unit {0}
Fails (Syntax at kind) read = read ≡ Err (Syntax at kind)

-- the result is the specified one, unless memory ran out
abbrev pub IsResultOf : {X Y : Type 0} → (X → Y) → Result X FilesetParseError
    → Result Y FilesetParseError → Type 0
IsResultOf view (Ok x) read = read ≡ Ok (view x)
IsResultOf view (Err error) read = Fails error read

-- 2. Words.

-- tab, line feed, vertical tab, form feed, carriage return, space
abbrev pub is_space : ℕ → Bool
is_space b = (nat_le 9 b && nat_le b 13) || b == 32

-- the string without the white space before it
abbrev pub without_space : List ℕ → List ℕ
without_space [] = []
without_space (b ∷ bs) = if is_space b then without_space bs else b ∷ bs

-- none of white space and `( ) | & ~ : " '`
abbrev pub is_word_byte : ℕ → Bool
is_word_byte b = not (is_space b) && not (b == 40) && not (b == 41) && not (b == 124)
    && not (b == 38) && not (b == 126) && not (b == 58) && not (b == 34) && not (b == 39)

-- the longest prefix of word bytes, and the rest
abbrev pub word : List ℕ → List ℕ × List ℕ
word [] = ([], [])
word (b ∷ bs) = if is_word_byte b then (b ∷ (word bs).0, (word bs).1) else ([], b ∷ bs)

-- 3. Strings in quotes.

-- the string with one more byte before it
abbrev pub with_byte : ℕ → Result (List ℕ × List ℕ) FilesetParseError
    → Result (List ℕ × List ℕ) FilesetParseError
with_byte b (Ok (bytes, rest)) = Ok (b ∷ bytes, rest)
with_byte b (Err error) = Err error

-- a raw string after its opening quote, which is at `start`
abbrev pub raw : ℕ → List ℕ → Result (List ℕ × List ℕ) FilesetParseError
raw start [] = Err (Syntax start UnclosedString)
raw start (b ∷ bs) = if b == 39 then Ok ([], bs) else with_byte b (raw start bs)

-- the value of a hex digit
abbrev pub hex_value : ℕ → Option ℕ
hex_value b =
    if nat_le 48 b && nat_le b 57 then Some (b - 48)
    else (if nat_le 97 b && nat_le b 102 then Some (b - 97 + 10)
    else (if nat_le 65 b && nat_le b 70 then Some (b - 65 + 10) else None))

-- the byte after a backslash: `"`, `\`, `t`, `r`, `n`, `0`, `e`, or `x` before two hex digits
abbrev pub escaped_byte : ℕ → QuotedByte
escaped_byte b =
    if b == 34 || b == 92 then Literal b
    else (if b == 116 then Literal 9
    else (if b == 114 then Literal 13
    else (if b == 110 then Literal 10
    else (if b == 48 then Literal 0
    else (if b == 101 then Literal 27
    else (if b == 120 then Within HighDigit else Invalid))))))

-- the state after the first hex digit of an escape, if it is one
abbrev pub high_digit : Option ℕ → QuotedByte
high_digit (Some high) = Within (LowDigit high)
high_digit None = Invalid

-- the byte of an escape's two hex digits, if the second is one
abbrev pub low_digit : ℕ → Option ℕ → QuotedByte
low_digit high (Some low) = Literal ((16 * high + low) % 256)
low_digit high None = Invalid

-- the automaton of quoted strings
abbrev pub quoted_byte : Escape → ℕ → QuotedByte
quoted_byte Outside b =
    if b == 34 then End else (if b == 92 then Within Backslash else Literal b)
quoted_byte Backslash b = escaped_byte b
quoted_byte HighDigit b = high_digit (hex_value b)
quoted_byte (LowDigit high) b = low_digit high (hex_value b)

abbrev pub after_quoted_byte : QuotedByte → List ℕ
    → (Escape → Result (List ℕ × List ℕ) FilesetParseError) → ℕ
    → Result (List ℕ × List ℕ) FilesetParseError
after_quoted_byte End bs next at = Ok ([], bs)
after_quoted_byte (Literal c) bs next at = with_byte c (next Outside)
after_quoted_byte (Within escape) bs next at = next escape
after_quoted_byte Invalid bs next at = Err (Syntax at InvalidEscape)

-- a quoted string after its opening quote, which is at `start`
abbrev pub quoted : ℕ → ℕ → Escape → List ℕ → Result (List ℕ × List ℕ) FilesetParseError
quoted total start escape [] = Err (Syntax start UnclosedString)
quoted total start escape (b ∷ bs) = after_quoted_byte (quoted_byte escape b) bs
    (λ next. quoted total start next bs) (total - length (b ∷ bs))

-- the quoted string, raw string or word at the start
abbrev pub string_at : ℕ → List ℕ → Result (List ℕ × List ℕ) FilesetParseError
string_at total [] = Err (Syntax (total - 0) ExpectedString)
string_at total (b ∷ bs) =
    if b == 34 then quoted total (total - length (b ∷ bs)) Outside bs
    else (if b == 39 then raw (total - length (b ∷ bs)) bs
    else (if is_word_byte b then Ok (word (b ∷ bs))
    else Err (Syntax (total - length (b ∷ bs)) ExpectedString)))
