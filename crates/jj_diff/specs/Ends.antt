-- Common starts and ends of all inputs of a comparison.
-- Cited by contracts of public items: IsCommonStart, IsCommonEnd.
use Rattle.std.specs.Prelude.{◌≡◌, ℕ, ◌+◌, ◌-◌, ◌<◌, ◌≤◌, List, [], length, take, drop}
use Rattle.std.specs.List.{slice_index_or}
use Rattle.jj_diff.specs.Tokens.{IsCut, TokenEnds}

-- the first n bytes of all inputs are equal, and whole tokens of each
pub record IsCommonStart (is_end : TokenEnds) (inputs : List (List ℕ)) (n : ℕ) : Type 0 where
  pub some : 0 < length inputs
  pub within : (i : ℕ) → i < length inputs → n ≤ length (slice_index_or inputs i [])
  pub equal : (i : ℕ) → i < length inputs
      → take n (slice_index_or inputs i []) ≡ take n (slice_index_or inputs 0 [])
  pub cuts : (i : ℕ) → i < length inputs → IsCut is_end (slice_index_or inputs i []) n

-- the last n bytes of all inputs
abbrev pub suffix : ℕ → List ℕ → List ℕ
suffix n text = drop (length text - n) text

-- the last n bytes of all inputs are equal, whole tokens of each, and after the first `start` bytes
pub record IsCommonEnd (is_end : TokenEnds) (inputs : List (List ℕ)) (start n : ℕ)
    : Type 0 where
  pub some : 0 < length inputs
  pub within : (i : ℕ) → i < length inputs → start + n ≤ length (slice_index_or inputs i [])
  pub equal : (i : ℕ) → i < length inputs
      → suffix n (slice_index_or inputs i []) ≡ suffix n (slice_index_or inputs 0 [])
  pub cuts : (i : ℕ) → i < length inputs
      → IsCut is_end (slice_index_or inputs i []) (length (slice_index_or inputs i []) - n)

-- Machinery of private functions.

-- the first n bytes of the first k inputs are equal
pub record IsEqualStartOf (inputs : List (List ℕ)) (k n : ℕ) : Type 0 where
  pub within : (i : ℕ) → i < k → n ≤ length (slice_index_or inputs i [])
  pub equal : (i : ℕ) → i < k
      → take n (slice_index_or inputs i []) ≡ take n (slice_index_or inputs 0 [])

abbrev pub IsEqualStart : List (List ℕ) → ℕ → Type 0
IsEqualStart inputs = IsEqualStartOf inputs (length inputs)

-- the last n bytes of the first k inputs are equal, and after the first `start` bytes of all inputs
pub record IsEqualEndOf (inputs : List (List ℕ)) (start k n : ℕ) : Type 0 where
  pub within : (i : ℕ) → i < length inputs → start + n ≤ length (slice_index_or inputs i [])
  pub equal : (i : ℕ) → i < k
      → suffix n (slice_index_or inputs i []) ≡ suffix n (slice_index_or inputs 0 [])

abbrev pub IsEqualEnd : List (List ℕ) → ℕ → ℕ → Type 0
IsEqualEnd inputs start = IsEqualEndOf inputs start (length inputs)

-- n is at most the length of each input
abbrev pub IsWithin : List (List ℕ) → ℕ → Type 0
IsWithin inputs n = (i : ℕ) → i < length inputs → n ≤ length (slice_index_or inputs i [])

-- each input has a cut after the first n bytes
abbrev pub AreStartCuts : TokenEnds → List (List ℕ) → ℕ → Type 0
AreStartCuts is_end inputs n =
    (i : ℕ) → i < length inputs → IsCut is_end (slice_index_or inputs i []) n

-- each input has a cut before the last n bytes
abbrev pub AreEndCuts : TokenEnds → List (List ℕ) → ℕ → Type 0
AreEndCuts is_end inputs n = (i : ℕ) → i < length inputs
    → IsCut is_end (slice_index_or inputs i []) (length (slice_index_or inputs i []) - n)
