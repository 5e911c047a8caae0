-- The hunks of a byte string with conflict markers, line by line. A hunk is the list of its terms.
-- Cited by contracts of public items: has_conflict, parsed.
use Rattle.std.specs.Prelude.{ℕ, ◌+◌, ◌-◌, ◌/◌, ◌%◌, Bool, true, false, not, List, [], ◌∷◌, ◌++◌, ◌==◌, ◌&&◌, ◌||◌, if◌then◌else◌, length, take, fold, Option, Some, None}
use Rattle.jj_conflicts.specs.Lines.{split_lines}
use Rattle.jj_conflicts.specs.Markers.{marker_of, has_note}

-- ---- the terms of one conflict

-- the finished terms, the lines of the current term so far, whether that is noted as one that does
-- not end in LF, and whether all markers were the expected ones
pub record Terms : Type 0 where
  pub finished : List (List ℕ)
  pub current : List ℕ
  pub noted : Bool
  pub valid : Bool

-- the term of a section's lines
abbrev pub term_of : Bool → List ℕ → List ℕ
term_of noted lines = if noted then take (length lines - 1) lines else lines

-- the character of the marker after i finished terms and the current one
abbrev pub separator_byte : Bool → ℕ → ℕ
separator_byte is_git i =
    if is_git then (if i == 0 then 124 else if i == 1 then 61 else 0)
    else if i % 2 == 0 then 45 else 43

-- the characters of the markers between the terms of a style
abbrev pub is_separator : Bool → ℕ → Bool
is_separator is_git byte =
    if is_git then byte == 124 || byte == 61 else byte == 43 || byte == 45

abbrev pub with_separator : Bool → ℕ → Terms → List ℕ → Terms
with_separator is_git byte s line =
    if byte == separator_byte is_git (length s.finished)
    then record {
      finished = s.finished ++ term_of s.noted s.current ∷ [];
      current = [];
      noted = has_note line;
      valid = s.valid;
    }
    else record s { valid = false }

abbrev pub with_line : ℕ → Bool → Terms → List ℕ → Terms
with_line n is_git s line =
    if is_separator is_git (marker_of n line) then with_separator is_git (marker_of n line) s line
    else record s { current = s.current ++ line }

-- the state after these lines of a conflict
abbrev pub with_lines : ℕ → Bool → Terms → List (List ℕ) → Terms
with_lines n is_git s lines = fold (with_line n is_git) s lines

-- the terms after the marker line of the first
abbrev pub first_term : List ℕ → Terms
first_term line = record { finished = []; current = []; noted = has_note line; valid = true }

-- the note of Git's last term is in the line that ends the conflict
abbrev pub last_noted : Bool → Terms → List ℕ → Bool
last_noted is_git s end = if is_git then has_note end else s.noted

-- a merge of this number of sides has as many terms as are finished, and the current one
abbrev pub has_sides : ℕ → ℕ → Bool
has_sides sides finished = (finished % 2 == 0) && (finished / 2 + 1 == sides)

-- the terms of a conflict, if all markers were the expected ones and it has this number of sides
abbrev pub finished_terms : ℕ → Bool → Terms → List ℕ → Option (List (List ℕ))
finished_terms sides is_git s end =
    if s.valid && has_sides sides (length s.finished)
    then Some (s.finished ++ term_of (last_noted is_git s end) s.current ∷ [])
    else None

-- ---- the sections of one conflict in the diff style

-- the finished terms; the marker character of the current section (0 if there is none), and its
-- lines of the base and of the side; whether it is noted as one that does not end in LF, and if all
-- lines were the expected ones
pub record Sections : Type 0 where
  pub terms : List (List ℕ)
  pub byte : ℕ
  pub base : List ℕ
  pub side : List ℕ
  pub noted : Bool
  pub valid : Bool

abbrev pub is_odd : ℕ → Bool
is_odd k = k % 2 == 1

-- A comparison before the side that is written verbatim has a side and the base after it; one after
-- that side has a base and the side after it.
abbrev pub section_terms : ℕ → Bool → List ℕ → List ℕ → List (List ℕ)
section_terms byte odd base side =
    if byte == 0 then [] else if byte == 43 then side ∷ []
    else if odd then base ∷ side ∷ [] else side ∷ base ∷ []

-- the terms up to the current section
abbrev pub done_terms : Sections → List (List ℕ)
done_terms s = s.terms ++ section_terms s.byte (is_odd (length s.terms))
    (term_of s.noted s.base) (term_of s.noted s.side)

-- one side is written verbatim
abbrev pub with_section : Sections → ℕ → List ℕ → Sections
with_section s byte line = record {
  terms = done_terms s;
  byte = byte;
  base = [];
  side = [];
  noted = has_note line;
  valid = s.valid && not (byte == 43 && is_odd (length (done_terms s)));
}

-- a line of a comparison: of both with a space, of the base with a -, of the side with a +; an
-- empty line is of both
abbrev pub with_diff_line : Sections → List ℕ → Sections
with_diff_line s [] = s
with_diff_line s (b ∷ bs) =
    if b == 32 then record s { base = s.base ++ bs; side = s.side ++ bs }
    else if b == 45 then record s { base = s.base ++ bs }
    else if b == 43 then record s { side = s.side ++ bs }
    else if b == 10 then record s { base = s.base ++ b ∷ bs; side = s.side ++ b ∷ bs }
    else record s { valid = false }

-- the byte begins the marker of a section: `%` of a comparison or `+` of a side
abbrev pub is_section_byte : ℕ → Bool
is_section_byte byte = byte == 37 || byte == 43

abbrev pub with_section_line : ℕ → Sections → List ℕ → Sections
with_section_line n s line =
    if is_section_byte (marker_of n line) then with_section s (marker_of n line) line
    else if s.byte == 43 then record s { side = s.side ++ line }
    else with_diff_line s line

-- the state before the first section
abbrev pub no_sections : Sections
no_sections =
    record { terms = []; byte = 0; base = []; side = []; noted = false; valid = true }

-- a merge of this number of sides has k terms
abbrev pub has_terms : ℕ → ℕ → Bool
has_terms sides k = is_odd k && (k / 2 + 1 == sides)

-- the terms of a conflict, if all lines were the expected ones and it has this number of sides
abbrev pub sections_outcome : ℕ → Sections → Option (List (List ℕ))
sections_outcome sides s =
    if s.valid && has_terms sides (length (done_terms s)) then Some (done_terms s) else None

-- the terms of a conflict from the lines of its sections
abbrev pub section_lines : ℕ → ℕ → List (List ℕ) → Option (List (List ℕ))
section_lines n sides lines =
    sections_outcome sides (fold (with_section_line n) no_sections lines)

-- ---- the terms of one conflict in any style

abbrev pub first_some : Option (List (List ℕ)) → Option (List (List ℕ))
    → Option (List (List ℕ))
first_some (Some terms) other = Some terms
first_some None other = other

-- In Git's style the first term follows the line that starts the conflict. In the diff style the
-- first section may be a side, as in the snapshot style, which is tried first.
abbrev pub terms_after : ℕ → ℕ → List ℕ → List (List ℕ) → List ℕ → Option (List (List ℕ))
terms_after n sides start [] end = None
terms_after n sides start (line ∷ lines) end =
    if marker_of n line == 37 then section_lines n sides (line ∷ lines)
    else if marker_of n line == 43
    then first_some (finished_terms sides false (with_lines n false (first_term line) lines) end)
    (section_lines n sides (line ∷ lines))
    else finished_terms sides true (with_lines n true (first_term start) (line ∷ lines)) end

-- the terms of the lines from the one that starts the conflict to before the one that ends it
abbrev pub terms_of : ℕ → ℕ → List (List ℕ) → List ℕ → Option (List (List ℕ))
terms_of n sides [] end = None
terms_of n sides (start ∷ lines) end = terms_after n sides start lines end

-- ---- hunks

-- the hunks so far, the resolved content after them, and the lines of the conflict that was started
pub record Hunks : Type 0 where
  pub hunks : List (List (List ℕ))
  pub resolved : List ℕ
  pub pending : List ℕ

-- a resolved hunk, unless it is empty
abbrev pub resolved_hunk : List ℕ → List (List (List ℕ))
resolved_hunk [] = []
resolved_hunk (b ∷ bs) = ((b ∷ bs) ∷ []) ∷ []

abbrev pub with_conflict : Hunks → List ℕ → Option (List (List ℕ)) → Hunks
with_conflict s line (Some terms) = record {
  hunks = s.hunks ++ resolved_hunk s.resolved ++ terms ∷ [];
  resolved = [];
  pending = [];
}
with_conflict s line None = record {
  hunks = s.hunks;
  resolved = s.resolved ++ s.pending ++ line;
  pending = [];
}

abbrev pub after_start : Hunks → List ℕ → Hunks
after_start s line =
    record { hunks = s.hunks; resolved = s.resolved ++ s.pending; pending = line }

abbrev pub is_null : List ℕ → Bool
is_null [] = true
is_null (b ∷ bs) = false

-- A line that starts a conflict makes the lines of an unfinished one resolved content. Markers
-- outside
-- of conflicts are content.
abbrev pub with_text_line : ℕ → ℕ → Hunks → List ℕ → Hunks
with_text_line n sides s line =
    if marker_of n line == 60 then after_start s line
    else if is_null s.pending then record s { resolved = s.resolved ++ line }
    else if marker_of n line == 62
    then with_conflict s line (terms_of n sides (split_lines s.pending) line)
    else record s { pending = s.pending ++ line }

-- the state before the first line: no hunk was found
abbrev pub no_hunks : Hunks
no_hunks = record { hunks = []; resolved = []; pending = [] }

-- the hunks that were found, and the lines after the last one as a resolved hunk
abbrev pub all_hunks : Hunks → List (List (List ℕ))
all_hunks s = s.hunks ++ resolved_hunk (s.resolved ++ s.pending)

-- the hunks that the state machine finds in the lines of a string
abbrev pub parsed : ℕ → ℕ → List ℕ → List (List (List ℕ))
parsed n sides text = all_hunks (fold (with_text_line n sides) no_hunks (split_lines text))
