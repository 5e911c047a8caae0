-- Names of files in unified diffs, as Git writes them.
-- Cited by contracts of public items: name_line.
use Rattle.std.specs.Prelude.{ℕ, ◌+◌, ◌/◌, ◌%◌, Bool, not, ◌==◌, ◌&&◌, ◌||◌, nat_le, nat_lt, if◌then◌else◌, List, [], ◌∷◌, ◌++◌, Option, Some, None}
use Rattle.std.specs.List.{flat_map, list_all, list_any}

-- the letter after a backslash, for the bytes that have one
abbrev pub letter_of : ℕ → Option ℕ
letter_of b =
    if b == 34 || b == 92 then Some b
    else (if b == 7 then Some 97
    else (if b == 8 then Some 98
    else (if b == 9 then Some 116
    else (if b == 10 then Some 110
    else (if b == 11 then Some 118
    else (if b == 12 then Some 102
    else (if b == 13 then Some 114 else None)))))))

-- the byte itself if it is printable ASCII, else a backslash and three octal digits
abbrev pub plain_or_octal : ℕ → List ℕ
plain_or_octal b =
    if nat_le 32 b && nat_lt b 127 then b ∷ []
    else 92 ∷ (48 + b / 64) ∷ (48 + b / 8 % 8) ∷ (48 + b % 8) ∷ []

abbrev pub escape_by : Option ℕ → ℕ → List ℕ
escape_by (Some letter) b = 92 ∷ letter ∷ []
escape_by None b = plain_or_octal b

-- a byte of a quoted name
abbrev pub escape_of : ℕ → List ℕ
escape_of b = escape_by (letter_of b) b

-- a byte that needs no quotes: printable ASCII, but no quote and no backslash
abbrev pub is_plain : ℕ → Bool
is_plain b = nat_le 32 b && nat_lt b 127 && not (b == 34) && not (b == 92)

-- `a/` or `b/` and the path, in double quotes and escaped as in C
abbrev pub quoted : List ℕ → List ℕ → List ℕ
quoted side path = 34 ∷ side ++ flat_map escape_of path ++ 34 ∷ []

-- `a/` or `b/` and the path, in quotes if the path needs them
abbrev pub side_name : List ℕ → List ℕ → List ℕ
side_name side path = if list_all is_plain path then side ++ path else quoted side path

-- a TAB after a name with a space
abbrev pub tab_after : List ℕ → List ℕ
tab_after path = if list_any (λ b. b == 32) path then 9 ∷ [] else []

-- the line that names one side of the file
abbrev pub name_line : List ℕ → List ℕ → List ℕ → List ℕ
name_line first side path = first ++ side_name side path ++ tab_after path ++ 10 ∷ []
