-- The state of a cancellation of adds with equal removes.
-- Machinery of private functions and fields.
use Rattle.std.specs.Prelude.{◌≡◌, ◌==◌, ◌||◌, ◌<◌, ◌≤◌, ◌+◌, ◌*◌, ◌-◌, ◌%◌, Bool, ℕ, zero, suc, List, [], ◌∷◌, ◌++◌, if◌then◌else◌, drop, length, map, nat_le, slice_index}
use Rattle.jj_merges.specs.Merge.{interleave}
use Rattle.jj_merges.specs.Simplify.{SideIndices}

-- the remove at this index is of this class
abbrev pub IsRemoveOf : List ℕ → ℕ → ℕ → Type 0
IsRemoveOf classes class index = (index % 2 ≡ 1) × (slice_index classes index ≡ class)

-- the first remove of the class from index `start` on; the number of terms if there is none
abbrev pub IsFirstFrom : List ℕ → ℕ → ℕ → ℕ → Type 0
IsFirstFrom classes class start index = (start ≤ index) × (index ≤ length classes)
    × (index < length classes → IsRemoveOf classes class index)
    × ((other : ℕ) → start ≤ other → other < index → ¬ IsRemoveOf classes class other)

-- the next remove of the same class after each remove from index `start` on
abbrev pub AreNextsFrom : ℕ → List ℕ → List ℕ → Type 0
AreNextsFrom start classes nexts = (index : ℕ) → start ≤ index → index < length classes
    → index % 2 ≡ 1
    → IsFirstFrom classes (slice_index classes index) (index + 1) (slice_index nexts index)

-- the first remove of each class from index `start` on
abbrev pub AreHeadsFrom : ℕ → List ℕ → List ℕ → Type 0
AreHeadsFrom start classes heads = (class : ℕ) → class < length classes
    → IsFirstFrom classes class start (slice_index heads class)

-- the index of the remove at a position, counted from 1
abbrev pub remove_at : ℕ → ℕ
remove_at position = 2 * position - 1

-- The position is left: it has no remove, or one that is not before the first of its class that
-- is left.
abbrev pub is_left : List ℕ → List ℕ → ℕ → Bool
is_left classes heads position = (position == 0)
    || nat_le (slice_index heads (slice_index classes (remove_at position))) (remove_at position)

-- the positions below n that pass a test
abbrev pub positions_below : ℕ → (ℕ → Bool) → List ℕ
positions_below zero test = []
positions_below (suc n) test = positions_below n test ++ (if test n then n ∷ [] else [])

-- the adds at these positions, and the removes before them; position 0 has none
abbrev pub sides_at : List ℕ → List ℕ → SideIndices
sides_at adds positions = record {
  adds = map (slice_index adds) positions;
  removes = drop 1 (map remove_at positions);
}

-- the adds and removes that are left
abbrev pub sides_left : List ℕ → List ℕ → List ℕ → SideIndices
sides_left classes heads adds =
    sides_at adds (positions_below (length adds) (is_left classes heads))

-- the indices of the terms that are left, adds and removes interleaved
abbrev pub indices_left : List ℕ → List ℕ → List ℕ → List ℕ
indices_left classes heads adds =
    let sides = sides_left classes heads adds in interleave sides.adds sides.removes
