-- The invariant of a sparse set.
-- Machinery of private functions and fields.
use Rattle.std.specs.Prelude.{◌≡◌, ◌<◌, ℕ, List, length, get_or}

-- the list `indices` has at each member its index in `members`
abbrev pub IsSparseSet : List ℕ → List ℕ → Type 0
IsSparseSet members indices = (k : ℕ) → k < length members
    → (get_or members k 0 < length indices) × (get_or indices (get_or members k 0) 0 ≡ k)
