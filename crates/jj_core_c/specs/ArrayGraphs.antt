-- Graphs in two arrays, and the causes of errors of walks over them.
-- Cited by contracts of public items: AreAscendingCommon, AreAscendingHeads, AreBelow,
-- IsAcyclicGraph, IsWalkCause, WritesFound, graph_of.
use Rattle.std.specs.Prelude.{◌≡◌, ◌<◌, ◌⊎◌, ℕ, List, [], length, true, false, get_or, All, ⊤}
use Rattle.std.specs.List.Sorted.{IsStrictlyIncreasing}
use Rattle.jj_dag.specs.ArrayGraphs.{HasCycle}
use Rattle.jj_dag.specs.CommonNodes.{AreClosestCommon}
use Rattle.jj_dag.specs.Graph.{AreMaximalElements, Graph}
use Rattle.jj_core_c.specs.declared.error.Error.{Error}
use Rattle.jj_core_c.specs.declared.error.Error.TheVariants.{Memory, Ends, Length, Node, Cycle}
use Rattle.jj_core_c.specs.Buffers.{Writes}
use Rattle.jj_core_c.specs.Pieces.{are_ends, pieces_of}

-- the graph in which a node has the targets that the piece at its index lists
abbrev pub graph_of : (targets ends : List ℕ) → Graph
graph_of targets ends node = get_or (pieces_of targets ends) node []

-- all are nodes of a graph with n nodes
abbrev pub AreBelow : ℕ → List ℕ → Type 0
AreBelow n nodes = All (λ node. node < n) nodes

-- the arrays are those of a graph
abbrev pub AreArrays : (targets ends : List ℕ) → Type 0
AreArrays targets ends = (are_ends (length targets) ends ≡ true) × AreBelow (length ends) targets

-- the arrays are those of a graph without cycles
abbrev pub IsAcyclicGraph : (targets ends : List ℕ) → Type 0
IsAcyclicGraph targets ends = AreArrays targets ends × (¬ (HasCycle (graph_of targets ends)))

-- the heads of some nodes, in ascending order
abbrev pub AreAscendingHeads : Graph → (nodes heads : List ℕ) → Type 0
AreAscendingHeads graph nodes heads = AreMaximalElements graph nodes heads
    × IsStrictlyIncreasing heads

-- the closest common nodes of two sets, in ascending order
abbrev pub AreAscendingCommon : Graph → (set1 set2 common : List ℕ) → Type 0
AreAscendingCommon graph set1 set2 common = AreClosestCommon graph set1 set2 common
    × IsStrictlyIncreasing common

-- a result is written
abbrev pub WritesFound : (List ℕ → Type 0) → (old new : List ℕ) → ℕ → Type 0
WritesFound IsResult old new n = (found : List ℕ) × IsResult found × Writes old new found n

-- the arrays are no acyclic graph
abbrev pub IsGraphCause : (targets ends : List ℕ) → Error → Type 0
IsGraphCause targets ends Memory = ⊤
IsGraphCause targets ends Ends = are_ends (length targets) ends ≡ false
IsGraphCause targets ends Node = ¬ (AreBelow (length ends) targets)
IsGraphCause targets ends Cycle = HasCycle (graph_of targets ends)
IsGraphCause targets ends other = ⊥

-- the arrays are no acyclic graph, the starts are no nodes, or the buffer has no room for a result
abbrev pub IsWalkCause : (targets ends : List ℕ) (AreStarts : Type 0)
    (IsResult : List ℕ → Type 0) (room : ℕ) → Error → Type 0
IsWalkCause targets ends AreStarts IsResult room Memory = ⊤
IsWalkCause targets ends AreStarts IsResult room Ends = are_ends (length targets) ends ≡ false
IsWalkCause targets ends AreStarts IsResult room Node =
    (¬ (AreBelow (length ends) targets)) ⊎ (¬ AreStarts)
IsWalkCause targets ends AreStarts IsResult room Cycle = HasCycle (graph_of targets ends)
IsWalkCause targets ends AreStarts IsResult room Length = (found : List ℕ) × IsResult found
    × (room < length found)
IsWalkCause targets ends AreStarts IsResult room other = ⊥
