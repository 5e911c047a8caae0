-- When a list of indices is left by a cancellation of adds with equal removes.
-- Cited by contracts of public items: IsCancellation.
use Rattle.std.specs.Prelude.{◌≡◌, ◌≢◌, AllPairs, ℕ, ◌+◌, ◌<◌, Bool, true, false, List, ◌++◌, length, map, All, IsPermutation, slice_index}
use Rattle.std.specs.List.Sorted.{IsStrictlyIncreasing}
use Rattle.jj_merges.specs.Merge as merge
use Rattle.jj_merges.specs.Simplify.{SideIndices, equal_at, split_indices}

-- `same a r`: the add at index a equals the remove at index r
module _ (same : ℕ → ℕ → Bool) where
  -- t is s without pairs of an add and an equal remove; of equal removes the first ones are dropped
  pub record CancelsPairs (s t : SideIndices) : Type 0 where
    pub pairs : List (ℕ × ℕ)
    pub adds : IsPermutation s.adds (t.adds ++ map (λ p. p.0) pairs)
    pub removes : IsPermutation s.removes (t.removes ++ map (λ p. p.1) pairs)
    pub equal : All (λ p. same p.0 p.1 ≡ true) pairs
    pub first : All (λ p. All (λ r. same p.0 r ≡ true → p.1 < r) t.removes) pairs

  -- no add equals a remove
  abbrev pub HasNoEqualPair : SideIndices → Type 0
  HasNoEqualPair s = (i j : ℕ) → i < length s.adds → j < length s.removes
      → same (slice_index s.adds i) (slice_index s.removes j) ≡ false

module _ {T : Type 0} (eq : T → T → Bool) where
  -- The laws of `simplified_indices`: the indices are distinct, with one add more than removes. The
  -- dropped terms are pairs of an add and an equal remove. No remaining add equals a remaining
  -- remove. Removes stay in order.
  pub record IsCancellation (m : List T) (indices : List ℕ) : Type 0 where
    pub one_more : length (merge.adds indices) ≡ length (merge.removes indices) + 1
    pub pairs : CancelsPairs (equal_at eq m) (split_indices (length m))
        (record { adds = merge.adds indices; removes = merge.removes indices })
    pub disjoint : HasNoEqualPair (equal_at eq m) (record
        { adds = merge.adds indices; removes = merge.removes indices })
    pub distinct : AllPairs (λ p q. p ≢ q) indices
    pub in_order : IsStrictlyIncreasing (merge.removes indices)
