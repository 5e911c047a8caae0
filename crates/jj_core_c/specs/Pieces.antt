-- Joined lists: the pieces of a list, in order, and the index at which each ends.
-- Cited by contracts of public items: are_ends, pieces_of.
use Rattle.std.specs.Prelude.{ℕ, zero, suc, slice_index, List, [], ◌∷◌, slice_range, Bool, true, nat_le, ◌&&◌}

-- the pieces that begin at `start` or later
abbrev pub pieces_from : {X : Type 0} → List X → ℕ → List ℕ → List (List X)
pieces_from items start [] = []
pieces_from items start (end ∷ ends) = slice_range items start end ∷ pieces_from items end ends

-- the pieces of a list
abbrev pub pieces_of : {X : Type 0} → List X → List ℕ → List (List X)
pieces_of items ends = pieces_from items 0 ends

-- the index at which the piece at an index begins; the first one begins at `start`
abbrev pub start_of : ℕ → List ℕ → ℕ → ℕ
start_of start ends zero = start
start_of start ends (suc index) = slice_index ends index

-- the ends do not descend, begin at `start` or later, and are at most `len`
abbrev pub are_ends_from : ℕ → ℕ → List ℕ → Bool
are_ends_from len start [] = true
are_ends_from len start (end ∷ ends) =
    (nat_le start end && nat_le end len) && are_ends_from len end ends

-- the ends divide a list of this length into pieces
abbrev pub are_ends : ℕ → List ℕ → Bool
are_ends len ends = are_ends_from len 0 ends
