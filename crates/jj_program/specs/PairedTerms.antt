-- Pairs of an add and an equal remove that cancel, by a flag for each term of a merge: whether it
-- remains.
-- Machinery of private functions and fields.
use Rattle.std.specs.Prelude.{ℕ, ◌≡◌, ◌≢◌, ◌+◌, ◌<◌, ◌%◌, Bool, true, false, List, [], ◌∷◌, if◌then◌else◌, length, slice_index_or}
use Rattle.jj_merges.specs.Merge as merge
use Rattle.jj_program.specs.Lines.{Text}
use Rattle.jj_program.specs.MergeViews.{text_eq, HaveCountsOf}

abbrev mutual
  -- the adds that are left
  pub left_adds : List Bool → List Text → List Text
  left_adds [] xs = []
  left_adds (b ∷ bs) [] = []
  left_adds (b ∷ bs) (x ∷ xs) = if b then x ∷ left_removes bs xs else left_removes bs xs

  -- the removes that are left
  pub left_removes : List Bool → List Text → List Text
  left_removes [] xs = []
  left_removes (b ∷ bs) [] = []
  left_removes (b ∷ bs) (x ∷ xs) = left_adds bs xs

-- The terms that are left have the signed counts of all.
pub record AreLeftOf (terms : List Text) (left : List Bool) : Type 0 where
  pub size : length left ≡ length terms
  pub counts : HaveCountsOf (left_adds left terms) (left_removes left terms)
      (merge.adds terms) (merge.removes terms)
  pub lengths : length (left_adds left terms)
      ≡ length (left_removes left terms) + length terms % 2

-- one of the terms at i and k is an add, and the other an equal remove
abbrev pub AreOpposite : List Text → ℕ → ℕ → Type 0
AreOpposite terms i k = (i % 2 ≢ k % 2)
    × ((d : Text) → text_eq (slice_index_or terms i d) (slice_index_or terms k d) ≡ true)

-- the term at i comes before that at k, cancels with it and is left
abbrev pub IsLeftOpposite : List Text → List Bool → ℕ → ℕ → Type 0
IsLeftOpposite terms left k i = (i < k) × (slice_index_or left i false ≡ true)
    × AreOpposite terms i k
