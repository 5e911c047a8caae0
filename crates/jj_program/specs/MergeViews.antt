-- Merges of borrowed strings as private functions see them.
-- Machinery of private functions and fields.
use Rattle.std.specs.Prelude.{ℕ, ◌<◌, List, ◌≡◌, ◌+◌, Bool, true, false, not, Option, Some, None, count_by, drop, length, slice_index_or}
use Rattle.std.specs.Cmp.Lexicographic.{slice_cmp}
use Rattle.std.specs.Ordering.{nat_cmp}
use Rattle.std.specs.declared.cmp.Ordering.{Ordering}
use Rattle.jj_merges.specs.Merge.{adds, removes}
use Rattle.jj_program.specs.Lines.{Text}
use Rattle.std.specs.Str.{bytes_eq}
use Rattle.jj_merges.specs.declared.merge.SameChange.{SameChange}
use Rattle.jj_merges.specs.Resolution.{ResolvesTo}

-- equality of bytes
abbrev pub text_eq : Text → Text → Bool
text_eq x y = bytes_eq x.now y.now

-- the lexicographic order of bytes
abbrev pub text_cmp : Text → Text → Ordering
text_cmp x y = slice_cmp nat_cmp x.now y.now

-- a value that differs from these bytes
abbrev pub is_other : Option Text → List ℕ → Bool
is_other None bytes = false
is_other (Some x) bytes = not (bytes_eq x.now bytes)

-- the two merges have equal signed counts
abbrev pub HaveCountsOf : List Text → List Text → List Text → List Text → Type 0
HaveCountsOf adds removes other_adds other_removes = (v : Text) →
    count_by (text_eq v) adds + count_by (text_eq v) other_removes
    ≡ count_by (text_eq v) other_adds + count_by (text_eq v) removes

-- the string that the merge resolves to, if there is one
abbrev pub IsTextOutcome : SameChange → List Text → Option Text → Type 0
IsTextOutcome same_change terms (Some v) = ResolvesTo text_eq same_change terms v
IsTextOutcome same_change terms None = (v : Text) → ¬ ResolvesTo text_eq same_change terms v

-- the outcome of all merges with the signed counts of these sides
abbrev pub ResolvesSides : SameChange → List Text → List Text → Option Text → Type 0
ResolvesSides same_change own_adds own_removes outcome = (terms : List Text)
    → HaveCountsOf own_adds own_removes (adds terms) (removes terms)
    → IsTextOutcome same_change terms outcome

-- the string at index i is not among those from index j on
abbrev pub IsUnmatched : List Text → ℕ → List Text → ℕ → Type 0
IsUnmatched xs i ys j = (i < length xs)
    × ((d : Text) → count_by (text_eq (slice_index_or xs i d)) (drop j ys) ≡ 0)

-- the strings at these indices are equal
abbrev pub IsMatched : List Text → ℕ → List Text → ℕ → Type 0
IsMatched xs i ys j = (i < length xs) × (j < length ys)
    × ((d e : Text) → text_eq (slice_index_or xs i d) (slice_index_or ys j e) ≡ true)
