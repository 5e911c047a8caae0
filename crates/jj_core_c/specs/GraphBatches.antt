-- Many questions to one graph: their results are joined lists.
-- Cited by contracts of public items: AreCommonOfEach, AreHeadsOfEach, ArePairs, AreSets,
-- FailsBoth, IsBatchCause, WritesJoined.
use Rattle.std.specs.Prelude.{◌≡◌, ◌<◌, ◌+◌, ◌⊎◌, ℕ, List, [], ◌∷◌, length, true, false, ⊤}
use Rattle.std.specs.List.{AllZip, flat_map, zip}
use Rattle.jj_dag.specs.ArrayGraphs.{HasCycle}
use Rattle.jj_dag.specs.Graph.{Graph}
use Rattle.jj_core_c.specs.declared.error.Error.{Error}
use Rattle.jj_core_c.specs.declared.error.Error.TheVariants.{Memory, Ends, Length, Node, Cycle}
use Rattle.jj_core_c.specs.declared.joined_lists.JoinedLists.{JoinedLists}
use Rattle.jj_core_c.specs.ArrayGraphs.{AreAscendingCommon, AreAscendingHeads, AreBelow, graph_of}
use Rattle.jj_core_c.specs.Buffers.{Writes}
use Rattle.jj_core_c.specs.Pieces.{are_ends, pieces_of}

-- the concatenation of lists
abbrev pub joined : List (List ℕ) → List ℕ
joined lists = flat_map (λ list. list) lists

-- the index at which each of the lists ends, if the first one begins at `start`
abbrev pub ends_of : (start : ℕ) → List (List ℕ) → List ℕ
ends_of start [] = []
ends_of start (list ∷ lists) = (start + length list) ∷ ends_of (start + length list) lists

-- the joined lists are these
abbrev pub Joins : List (List ℕ) → JoinedLists → Type 0
Joins found lists = (lists.items.items ≡ joined found) × (lists.ends.items ≡ ends_of 0 found)

-- the lists are written to a buffer, and their ends to another
abbrev pub WritesLists : List (List ℕ) → (old new old_ends new_ends : List ℕ) → ℕ → Type 0
WritesLists found old new old_ends new_ends n = Writes old new (joined found) n
    × Writes old_ends new_ends (ends_of 0 found) (length found)

-- lists that are results are written
abbrev pub WritesJoined : (AreResults : List (List ℕ) → Type 0)
    → (old new old_ends new_ends : List ℕ) → ℕ → Type 0
WritesJoined AreResults old new old_ends new_ends n = (found : List (List ℕ)) × AreResults found
    × WritesLists found old new old_ends new_ends n

-- a buffer has no room for the lists or for their ends
abbrev pub LacksRoom : List (List ℕ) → (room end_room : ℕ) → Type 0
LacksRoom found room end_room = (room < length (joined found)) ⊎ (end_room < length found)

-- the only error is that a buffer has no room
abbrev pub IsRoomCause : List (List ℕ) → (room end_room : ℕ) → Error → Type 0
IsRoomCause found room end_room Length = LacksRoom found room end_room
IsRoomCause found room end_room other = ⊥

-- the error has a cause, and both buffers are unchanged
abbrev pub FailsBoth : (old new old_ends new_ends : List ℕ) → (Error → Type 0) → Error → Type 0
FailsBoth old new old_ends new_ends IsCause error = IsCause error × (new ≡ old)
    × (new_ends ≡ old_ends)

-- the ends divide a list of nodes into sets
abbrev pub AreSets : (nodes ends : List ℕ) → Type 0
AreSets nodes ends = are_ends (length nodes) ends ≡ true

-- the ends divide both lists into as many sets
abbrev pub ArePairs : (set1 ends1 set2 ends2 : List ℕ) → Type 0
ArePairs set1 ends1 set2 ends2 = AreSets set1 ends1 × AreSets set2 ends2
    × (length ends1 ≡ length ends2)

-- the heads of each set, in ascending order
abbrev pub AreHeadsOfEach : Graph → (nodes ends : List ℕ) → List (List ℕ) → Type 0
AreHeadsOfEach graph nodes ends found =
    AllZip (AreAscendingHeads graph) (pieces_of nodes ends) found

-- the closest common nodes of each pair of sets, in ascending order
abbrev pub AreCommonOfEach : Graph → (set1 ends1 set2 ends2 : List ℕ) → List (List ℕ) → Type 0
AreCommonOfEach graph set1 ends1 set2 ends2 found =
    AllZip (λ (sets : List ℕ × List ℕ). AreAscendingCommon graph sets.0 sets.1)
    (zip (pieces_of set1 ends1) (pieces_of set2 ends2)) found

-- the arrays are no acyclic graph, the sets are no sets of its nodes, or a buffer is too short
abbrev pub IsBatchCause : (targets ends : List ℕ) (AreDivided AreNodes : Type 0)
    (AreResults : List (List ℕ) → Type 0) (room end_room : ℕ) → Error → Type 0
IsBatchCause targets ends AreDivided AreNodes AreResults room end_room Memory = ⊤
IsBatchCause targets ends AreDivided AreNodes AreResults room end_room Ends =
    (are_ends (length targets) ends ≡ false) ⊎ (¬ AreDivided)
IsBatchCause targets ends AreDivided AreNodes AreResults room end_room Node =
    (¬ (AreBelow (length ends) targets)) ⊎ (¬ AreNodes)
IsBatchCause targets ends AreDivided AreNodes AreResults room end_room Cycle =
    HasCycle (graph_of targets ends)
IsBatchCause targets ends AreDivided AreNodes AreResults room end_room Length =
    (found : List (List ℕ)) × AreResults found × LacksRoom found room end_room
IsBatchCause targets ends AreDivided AreNodes AreResults room end_room other = ⊥
