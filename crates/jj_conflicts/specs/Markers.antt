-- Marker lines: a run of one of seven characters at the start of a line, white space, and a label.
-- Cited by contracts of public items: chosen_marker_len.
use Rattle.std.specs.Prelude.{ℕ, ◌+◌, Bool, true, List, [], ◌∷◌, ◌++◌, ◌==◌, ◌&&◌, ◌||◌, not, if◌then◌else◌, nat_lt, nat_le, nat_eq, length, drop, replicate, codes, max, fold}
use Rattle.std.specs.List.{prefix_len, ends_with, list_any}
use Rattle.std.specs.Char.{is_ascii_whitespace}
use Rattle.jj_conflicts.specs.Lines.{split_lines}

-- < > + - % | =
abbrev pub is_marker_byte : ℕ → Bool
is_marker_byte b =
    b == 60 || b == 62 || b == 43 || b == 45 || b == 37 || b == 124 || b == 61

-- the number of times that the marker character at the start of a line is repeated there
abbrev pub run_length : List ℕ → ℕ
run_length [] = 0
run_length (b ∷ bs) = if is_marker_byte b then prefix_len (λ c. c == b) (b ∷ bs) else 0

-- the longest run at the start of a line
abbrev pub longest_run : List ℕ → ℕ
longest_run text = fold (λ longest line. max longest (run_length line)) 0 (split_lines text)

-- at least a length, and by two more than each run of the terms
abbrev pub marker_len_of_terms : ℕ → List (List ℕ) → ℕ
marker_len_of_terms n terms = fold (λ len term. max len (longest_run term + 2)) n terms

-- at least 7, and by two more than each run of the hunks' terms
abbrev pub chosen_marker_len : List (List (List ℕ)) → ℕ
chosen_marker_len hunks = fold marker_len_of_terms 7 hunks

-- nothing follows, or white space does
abbrev pub is_blank_next : List ℕ → Bool
is_blank_next [] = true
is_blank_next (b ∷ bs) = is_ascii_whitespace b

abbrev pub first_or_zero : List ℕ → ℕ
first_or_zero [] = 0
first_or_zero (b ∷ bs) = b

-- the line begins with a marker of at least n bytes, followed by a blank or the end
abbrev pub is_marker : ℕ → List ℕ → Bool
is_marker n line = nat_lt 0 (run_length line) && nat_le n (run_length line)
    && is_blank_next (drop (run_length line) line)

-- the marker character of a line that begins with at least n of them, or else 0
abbrev pub marker_of : ℕ → List ℕ → ℕ
marker_of n line = if is_marker n line then first_or_zero line else 0

-- the note at the end of a marker line whose term does not end in LF
abbrev pub note : List ℕ
note = codes " (no terminating newline)"

-- the line ends in the note that its term does not end in LF
abbrev pub has_note : List ℕ → Bool
has_note line = ends_with nat_eq line (codes " (no terminating newline)\n")

-- a label is written if it is not empty, has no LF, and does not end as the note does
abbrev pub is_shown : ℕ → ℕ → List ℕ → Bool
is_shown byte n label = nat_lt 0 (length label) && not (list_any (λ b. b == 10) label)
    && not (has_note (replicate n byte ++ 32 ∷ [] ++ label ++ 10 ∷ []))

-- the label after a space, or nothing if it is left out
abbrev pub shown_label : ℕ → ℕ → List ℕ → List ℕ
shown_label byte n label = if is_shown byte n label then 32 ∷ label else []

-- the note that a term does not end in LF, if this is so
abbrev pub note_if : Bool → List ℕ
note_if noted = if noted then note else []

-- a marker of n bytes, the label after a space, and the note if it applies
abbrev pub marker_line : ℕ → ℕ → List ℕ → Bool → List ℕ
marker_line byte n label noted =
    replicate n byte ++ shown_label byte n label ++ note_if noted ++ 10 ∷ []
