-- Commits as fields that end in NUL.
-- Cited by contracts of public items: IsFieldsFault, lines_of_fields.
use Rattle.std.specs.Prelude.{◌≡◌, ℕ, ◌==◌, ◌+◌, ◌||◌, Bool, List, [], ◌∷◌, if◌then◌else◌, Result, Ok, Err}
use Rattle.std.specs.Result.{result_map_both}
use Rattle.jj_log.specs.declared.fault.Fault.{Fault}
use Rattle.jj_log.specs.declared.fault.Fault.TheVariants.{Fields}
use Rattle.jj_log.specs.declared.fields.Place.{Place}
use Rattle.jj_log.specs.declared.fields.Place.TheVariants.{Start, Name, Parents, Label}

-- where the byte after this one is; a NUL ends a field
abbrev pub after_byte : Place → ℕ → Place
after_byte Start byte = if byte == 0 then Parents else Name
after_byte Name byte = if byte == 0 then Parents else Name
after_byte Parents byte = if byte == 0 then Label else Parents
after_byte Label byte = if byte == 0 then Start else Label

-- the end of a name and of parents is a TAB, that of a label an LF
abbrev pub line_byte : Place → ℕ → ℕ
line_byte Label byte = if byte == 0 then 10 else byte
line_byte place byte = if byte == 0 then 9 else byte

-- no field has an LF, and only a label a TAB
abbrev pub breaks : Place → ℕ → Bool
breaks Label byte = byte == 10
breaks place byte = byte == 10 || byte == 9

-- the lines of the commits from this offset on, or the offset of the first byte that breaks a
-- field, or of the end within a commit
abbrev pub lines_of_fields : Place → (at : ℕ) → List ℕ → Result (List ℕ) ℕ
lines_of_fields Start at [] = Ok []
lines_of_fields place at [] = Err at
lines_of_fields place at (byte ∷ bytes) = if breaks place byte then Err at
    else result_map_both (λ lines. line_byte place byte ∷ lines) (λ end. end)
    (lines_of_fields (after_byte place byte) (at + 1) bytes)

-- the fault has the offset at which the input is not of commits
abbrev pub IsFieldsFault : List ℕ → Fault → Type 0
IsFieldsFault input (Fields at) = lines_of_fields Start 0 input ≡ Err at
IsFieldsFault input fault = ⊥
