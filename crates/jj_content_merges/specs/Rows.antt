-- Rows that are cut from the inputs, from left to right. Machinery of private functions.
use Rattle.std.specs.Prelude.{◌≡◌, ◌⊎◌, ℕ, ◌<◌, ◌≤◌, List, [], ◌∷◌, ◌++◌, length, map, take, All, slice_index}
use Rattle.std.specs.List.{slice_index_or}
use Rattle.std.specs.Borrow.{Bor}
use Rattle.std.specs.Global.{Global}
use Rattle.std.specs.declared.vec.Vec.{Vec}
use Rattle.jj_diff.specs.Inputs.{bytes_of, side, AreParts}
use Rattle.jj_diff.specs.Tokens.{IsCut, TokenEnds}

-- a part of each input
abbrev pub parts_of : Vec (Bor (List ℕ)) Global → List (List ℕ)
parts_of row = bytes_of row.items

abbrev pub rows_of : List (Vec (Bor (List ℕ)) Global) → List (List (List ℕ))
rows_of = map parts_of

-- the columns of the rows, joined, are the inputs up to `at`, and no row cuts a token
pub record IsPrefixSplit (is_end : TokenEnds) (inputs : List (List ℕ))
    (rows : List (List (List ℕ))) (at : List ℕ) : Type 0 where
  pub len : length at ≡ length inputs
  pub within : (i : ℕ) → i < length inputs
      → slice_index at i ≤ length (slice_index_or inputs i [])
  pub width : All (λ row. length row ≡ length inputs) rows
  pub sides : (i : ℕ) → i < length inputs
      → side i rows ≡ take (slice_index at i) (slice_index_or inputs i [])
  pub cuts : (k i : ℕ) → k ≤ length rows → i < length inputs
      → IsCut is_end (slice_index_or inputs i []) (length (side i (take k rows)))

-- a row more, the part of each input from `starts` to `ends`, or none, if it is empty
abbrev pub IsNextRow : List (List ℕ) → List (List (List ℕ)) → List ℕ → List ℕ
    → List (List (List ℕ)) → Type 0
IsNextRow inputs rows starts ends after = ((starts ≡ ends) × (after ≡ rows))
    ⊎ ((row : List (List ℕ)) × AreParts inputs starts ends row × (after ≡ rows ++ row ∷ []))
