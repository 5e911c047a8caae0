-- Ends of tokens in a byte string.
-- Cited by contracts of public items: is_line_end, is_word_end; by the trait of tokenizers:
-- TokenEnds, IsTokenizer; by tokenizers that look at two bytes: ends_where.
use Rattle.std.specs.Prelude.{◌≡◌, ◌⊎◌, ◌==◌, ◌||◌, ◌+◌, ◌-◌, ◌≤◌, ℕ, Bool, true, not, List, length, nat_le, slice_index}
use Rattle.std.specs.List.{slice_range}
use Rattle.std.specs.Char.{is_ascii_alphanumeric}

-- whether a token ends after so many bytes of a byte string
abbrev pub TokenEnds : Type 0
TokenEnds = List ℕ → ℕ → Bool

-- no token is only partly in the prefix of this length
abbrev pub IsCut : TokenEnds → List ℕ → ℕ → Type 0
IsCut is_end text len = (len ≡ 0) ⊎ (is_end text len ≡ true)

-- A token ends where the byte string ends. A part that starts and ends between tokens has no
-- other ends of tokens than the byte string has there.
pub record IsTokenizer (is_end : TokenEnds) : Type 0 where
  pub whole : (text : List ℕ) → IsCut is_end text (length text)
  pub inner : (text : List ℕ) (start end n : ℕ) → end ≤ length text → start + n ≤ end
      → IsCut is_end text start → IsCut is_end text end
      → IsCut is_end (slice_range text start end) n → IsCut is_end text (start + n)

-- each end of a token before is one now
abbrev pub AreEndsToo : TokenEnds → TokenEnds → Type 0
AreEndsToo before now = (text : List ℕ) (len : ℕ) → before text len ≡ true → now text len ≡ true

-- the prefix of this length is the whole string, or is split from the byte after it
abbrev pub ends_where : (ℕ → ℕ → Bool) → TokenEnds
ends_where splits text end =
    end == length text || splits (slice_index text (end - 1)) (slice_index text end)

-- the prefix of this length ends a line: it ends in LF or is the whole string
abbrev pub is_line_end : TokenEnds
is_line_end text end = slice_index text (end - 1) == 10 || end == length text

-- ASCII letters, digits and the underscore, and bytes of other characters
abbrev pub is_word_byte : ℕ → Bool
is_word_byte byte = is_ascii_alphanumeric byte || byte == 95 || nat_le 128 byte

-- the prefix of this length ends a word or a single other byte
abbrev pub is_word_end : TokenEnds
is_word_end text end = end == length text || not (is_word_byte (slice_index text (end - 1)))
    || not (is_word_byte (slice_index text end))
