-- Ranges of a byte string, and the left parts of hunks.
-- Cited by contracts of public items: IsContiguous, left_parts, parts_at, Covers, IsLineAt,
-- IsWordAt, Ascends, HasIndex, byte_range.
use Rattle.std.specs.Prelude.{◌≡◌, ◌≢◌, ◌⊎◌, ℕ, ◌+◌, ◌-◌, ◌<◌, ◌≤◌, true, false, List, [], ◌∷◌, length, map, slice_index}
use Rattle.std.specs.List.{slice_index_or, slice_range}
use Rattle.std.specs.declared.ops.Range.{Range}
use Rattle.jj_diff.specs.declared.diff.hunks.DiffHunk.{DiffHunk}
use Rattle.jj_diff.specs.Hunks.{row_of}
use Rattle.jj_diff.specs.Tokens.{is_word_byte}

-- the bytes in each range
abbrev pub parts_at : List ℕ → List (Range ℕ) → List (List ℕ)
parts_at text = map (λ range. slice_range text range.start range.end)

-- part 0 of each hunk
abbrev pub left_parts : List DiffHunk → List (List ℕ)
left_parts = map (λ hunk. slice_index_or (row_of hunk) 0 [])

-- each range starts where the one before it ends
abbrev pub IsContiguous : ℕ → List (Range ℕ) → Type 0
IsContiguous start [] = Unit {0}
IsContiguous start (range ∷ ranges) =
    (range.start ≡ start) × (start ≤ range.end) × IsContiguous range.end ranges

-- the first range starts at `start`, each other one where the one before it ends, and the last one
-- ends at `end`
abbrev pub Covers : ℕ → ℕ → List (Range ℕ) → Type 0
Covers start end [] = start ≡ end
Covers start end (range ∷ ranges) =
    (range.start ≡ start) × (start < range.end) × Covers range.end end ranges

-- a line: LF is its last byte and no other one, or it has none and is the last line
pub record IsLineAt (text : List ℕ) (range : Range ℕ) : Type 0 where
  pub inner : (k : ℕ) → range.start ≤ k → k + 1 < range.end → slice_index text k ≢ 10
  pub last : (slice_index text (range.end - 1) ≡ 10) ⊎ (range.end ≡ length text)

-- a longest run of bytes of words
pub record IsWordAt (text : List ℕ) (range : Range ℕ) : Type 0 where
  pub some : range.start < range.end
  pub within : range.end ≤ length text
  pub bytes : (k : ℕ) → range.start ≤ k → k < range.end
      → is_word_byte (slice_index text k) ≡ true
  pub before : (range.start ≡ 0) ⊎ (is_word_byte (slice_index text (range.start - 1)) ≡ false)
  pub after : (range.end ≡ length text) ⊎ (is_word_byte (slice_index text range.end) ≡ false)

-- the first range starts at `start` or later, and each other one where the one before it ends or
-- later
abbrev pub Ascends : ℕ → List (Range ℕ) → Type 0
Ascends start [] = Unit {0}
Ascends start (range ∷ ranges) = (start ≤ range.start) × Ascends range.end ranges

-- the index is in the range
abbrev pub HasIndex : ℕ → Range ℕ → Type 0
HasIndex k range = (range.start ≤ k) × (k < range.end)

-- the range of the byte at this index
abbrev pub byte_range : ℕ → Range ℕ
byte_range k = record { start = k; end = k + 1 }
