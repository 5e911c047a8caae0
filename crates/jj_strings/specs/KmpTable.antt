-- The table of a Knuth-Morris-Pratt search. A border of a string is shorter than it, and both its
-- prefix and its suffix.
-- Machinery of private functions and fields.
use Rattle.std.specs.Prelude.{◌≡◌, ℕ, ◌+◌, ◌-◌, ◌<◌, ◌≤◌, List, length, slice_index}

-- the prefix of the needle of this length is a suffix of the first `at` bytes
pub record PrefixEndsAt (bytes : List ℕ) (at : ℕ) (needle : List ℕ) (len : ℕ) : Type 0 where
  pub in_text : len ≤ length needle
  pub fits : len ≤ at
  pub reads : (k : ℕ) → k < len → slice_index bytes (at - len + k) ≡ slice_index needle k

-- no longer prefix is
pub record IsLongestPrefixAt (bytes : List ℕ) (at : ℕ) (needle : List ℕ) (len : ℕ) : Type 0 where
  pub ends : PrefixEndsAt bytes at needle len
  pub longest : (other : ℕ) → PrefixEndsAt bytes at needle other → other ≤ len

-- `len` is the length of the longest border of the prefix of length `prefix`
pub record IsLongestBorder (needle : List ℕ) (prefix len : ℕ) : Type 0 where
  pub shorter : len < prefix
  pub ends : PrefixEndsAt needle prefix needle len
  pub longest : (other : ℕ) → other < prefix → PrefixEndsAt needle prefix needle other → other ≤ len

-- the lengths of the longest borders of the nonempty prefixes, by increasing length
abbrev pub AreBorders : List ℕ → List ℕ → Type 0
AreBorders needle borders = (k : ℕ) → k < length borders
    → IsLongestBorder needle (k + 1) (slice_index borders k)

-- a table for all prefixes
pub record IsBorderTable (needle borders : List ℕ) : Type 0 where
  pub len : length borders ≡ length needle
  pub each : AreBorders needle borders
