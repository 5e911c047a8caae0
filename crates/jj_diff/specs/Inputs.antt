-- Inputs of a comparison, rows of parts of them, and ranges in them.
use Rattle.std.specs.Prelude.{◌≡◌, ℕ, ◌<◌, ◌≤◌, List, [], length, map, slice_index}
use Rattle.std.specs.List.{concat, slice_index_or, slice_range}
use Rattle.std.specs.Borrow.{Bor}

-- the byte strings
abbrev pub bytes_of : List (Bor (List ℕ)) → List (List ℕ)
bytes_of = map (λ r. r.now)

-- part i of each row, concatenated
abbrev pub side : ℕ → List (List (List ℕ)) → List ℕ
side i rows = concat (map (λ row. slice_index_or row i []) rows)

-- from `starts` to `ends` are ranges within the inputs
pub record AreRanges (inputs : List (List ℕ)) (starts ends : List ℕ) : Type 0 where
  pub starts_len : length starts ≡ length inputs
  pub ends_len : length ends ≡ length inputs
  pub ordered : (i : ℕ) → i < length inputs → slice_index starts i ≤ slice_index ends i
  pub within : (i : ℕ) → i < length inputs
      → slice_index ends i ≤ length (slice_index_or inputs i [])

-- the row is the part of each input from `starts` to `ends`
pub record AreParts (inputs : List (List ℕ)) (starts ends : List ℕ) (row : List (List ℕ))
    : Type 0 where
  pub len : length row ≡ length inputs
  pub parts : (i : ℕ) → i < length inputs → slice_index_or row i []
      ≡ slice_range (slice_index_or inputs i []) (slice_index starts i) (slice_index ends i)

-- all parts of the row are equal
abbrev pub AreEqual : List (List ℕ) → Type 0
AreEqual row = (i : ℕ) → i < length row → slice_index_or row i [] ≡ slice_index_or row 0 []

-- all parts of the row have one canonical form
abbrev pub AreEqualBy : (List ℕ → List ℕ) → List (List ℕ) → Type 0
AreEqualBy form row =
    (i : ℕ) → i < length row → form (slice_index_or row i []) ≡ form (slice_index_or row 0 [])

-- some part of the row is not empty
abbrev pub IsNonempty : List (List ℕ) → Type 0
IsNonempty row = (i : ℕ) × (i < length row) × (0 < length (slice_index_or row i []))

-- all parts of the row are empty
abbrev pub IsEmpty : List (List ℕ) → Type 0
IsEmpty row = (i : ℕ) → i < length row → slice_index_or row i [] ≡ []
