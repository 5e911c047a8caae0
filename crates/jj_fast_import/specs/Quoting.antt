-- Paths in double quotes.
use Rattle.std.specs.Prelude.{ℕ, ◌+◌, ◌-◌, ◌*◌, ◌/◌, ◌%◌, Bool, not, ◌==◌, ◌&&◌, ◌||◌, nat_le, nat_lt, if◌then◌else◌, List, [], ◌∷◌, ◌++◌, length, Option, Some, None}
use Rattle.std.specs.List.{flat_map, list_all}
use Rattle.jj_fast_import.specs.declared.quoting.Escape.{Escape}
use Rattle.jj_fast_import.specs.declared.quoting.Escape.TheVariants.{Outside, Backslash, FirstDigit, SecondDigit}
use Rattle.jj_fast_import.specs.declared.quoting.QuotedByte.{QuotedByte}
use Rattle.jj_fast_import.specs.declared.quoting.QuotedByte.TheVariants.{End, Literal, Within, Invalid}
use Rattle.jj_fast_import.specs.Words.{with_byte}

-- 1. Reading.

-- the value of an octal digit
abbrev pub octal_digit : ℕ → Option ℕ
octal_digit b = if nat_le 48 b && nat_le b 55 then Some (b - 48) else None

-- the byte after a backslash
abbrev pub escaped_byte : ℕ → QuotedByte
escaped_byte b =
    if b == 34 || b == 92 then Literal b
    else (if b == 97 then Literal 7
    else (if b == 98 then Literal 8
    else (if b == 116 then Literal 9
    else (if b == 110 then Literal 10
    else (if b == 118 then Literal 11
    else (if b == 102 then Literal 12
    else (if b == 114 then Literal 13
    else (if nat_le 48 b && nat_le b 51 then Within (FirstDigit (b - 48)) else Invalid))))))))

abbrev pub second_digit : ℕ → Option ℕ → QuotedByte
second_digit digits None = Invalid
second_digit digits (Some digit) = Within (SecondDigit (digits % 8 * 8 + digit))

abbrev pub third_digit : ℕ → Option ℕ → QuotedByte
third_digit digits None = Invalid
third_digit digits (Some digit) = Literal (digits % 32 * 8 + digit)

-- the automaton of quoted paths
abbrev pub quoted_byte : Escape → ℕ → QuotedByte
quoted_byte Outside b = if b == 34 then End else (if b == 92 then Within Backslash else Literal b)
quoted_byte Backslash b = escaped_byte b
quoted_byte (FirstDigit digits) b = second_digit digits (octal_digit b)
quoted_byte (SecondDigit digits) b = third_digit digits (octal_digit b)

abbrev pub after_quoted_byte : QuotedByte → List ℕ → (Escape → Option (List ℕ × List ℕ))
    → Option (List ℕ × List ℕ)
after_quoted_byte End bs next = Some ([], bs)
after_quoted_byte (Literal c) bs next = with_byte c (next Outside)
after_quoted_byte (Within escape) bs next = next escape
after_quoted_byte Invalid bs next = None

-- the path after an opening quote, and the bytes after the closing one
abbrev pub unquoted : Escape → List ℕ → Option (List ℕ × List ℕ)
unquoted escape [] = None
unquoted escape (b ∷ bs) =
    after_quoted_byte (quoted_byte escape b) bs (λ next. unquoted next bs)

-- 2. Writing.

-- a backslash and this letter, for the bytes that have one
abbrev pub letter_of : ℕ → Option ℕ
letter_of b =
    if b == 34 || b == 92 then Some b
    else (if b == 7 then Some 97
    else (if b == 8 then Some 98
    else (if b == 9 then Some 116
    else (if b == 10 then Some 110
    else (if b == 11 then Some 118
    else (if b == 12 then Some 102
    else (if b == 13 then Some 114 else None)))))))

-- the byte itself if it is printable ASCII, else three octal digits
abbrev pub plain_or_octal : ℕ → List ℕ
plain_or_octal b =
    if nat_le 32 b && nat_lt b 127 then b ∷ []
    else 92 ∷ (48 + b / 64) ∷ (48 + b / 8 % 8) ∷ (48 + b % 8) ∷ []

abbrev pub escape_by : Option ℕ → ℕ → List ℕ
escape_by (Some letter) b = 92 ∷ letter ∷ []
escape_by None b = plain_or_octal b

-- a byte of a quoted path, as Git writes it
abbrev pub escape_of : ℕ → List ℕ
escape_of b = escape_by (letter_of b) b

-- a printable ASCII character that is no space, quote or backslash
abbrev pub is_plain : ℕ → Bool
is_plain b = nat_lt 32 b && nat_lt b 127 && not (b == 34) && not (b == 92)

-- a path that needs no quotes
abbrev pub is_plain_path : List ℕ → Bool
is_plain_path path = not (length path == 0) && list_all is_plain path

-- a path in double quotes
abbrev pub quoted : List ℕ → List ℕ
quoted path = 34 ∷ flat_map escape_of path ++ 34 ∷ []
