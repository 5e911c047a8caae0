-- Ranges of tokens in a byte string.
-- Cited by contracts of public items: word_ranges, ranges_between, starts_with_word.
use Rattle.std.specs.Prelude.{ℕ, Bool, List, [], ◌∷◌, length, filter, slice_index}
use Rattle.std.specs.List.{range_with_len}
use Rattle.std.specs.declared.ops.Range.{Range}
use Rattle.jj_diff.specs.Tokens.{is_word_byte, is_word_end}

-- the ranges that end at these ends: the first begins at `start`, and each other one where the one
-- before it ends
abbrev pub ranges_between : ℕ → List ℕ → List (Range ℕ)
ranges_between start [] = []
ranges_between start (end ∷ ends) = record { start = start; end = end } ∷ ranges_between end ends

-- the ranges of words and of single other bytes
abbrev pub word_ranges : List ℕ → List (Range ℕ)
word_ranges text = ranges_between 0 (filter (is_word_end text) (range_with_len 1 (length text)))

-- the range begins with a byte of a word
abbrev pub starts_with_word : List ℕ → Range ℕ → Bool
starts_with_word text range = is_word_byte (slice_index text range.start)

-- Machinery of private functions.

-- the last of these ends, or `start`
abbrev pub last_end : ℕ → List ℕ → ℕ
last_end start [] = start
last_end start (end ∷ ends) = last_end end ends
