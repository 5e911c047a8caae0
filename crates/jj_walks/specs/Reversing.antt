-- The result and the error of `reverse_graph` in terms of its input.
-- Cited by contracts of public items: InputFails, ReturnsReversed.
use Rattle.std.specs.Prelude.{◌≡◌, Bool, List, [], ◌∷◌, ◌++◌, map, Option, Result}
use Rattle.std.specs.declared.result.Result.TheVariants.{Ok, Err}
use Rattle.std.specs.Fn.{Shared, FnReturnsAt}
use Rattle.std.specs.Global.{Global}
use Rattle.std.specs.Iterator.{Drains, Yields}
use Rattle.std.specs.declared.vec.Vec.{Vec}
use denote.Ref.{Bor}
use Rattle.jj_walks.specs.declared.graph.GraphEdge.{GraphEdge}
use Rattle.jj_walks.specs.Reversed.{HasEdgesById, reversed_graph, edge_lists}

-- a node with its edges, as the input yields it
abbrev pub GraphNode : Type 0 → Type 0 → Type 0
GraphNode N ID = N × Vec (GraphEdge ID) Global

-- the input yielded nodes and ended, and for the ids that `as_id` returns, the list is the reverse
-- of their graph
abbrev pub ReturnsReversed : {N ID E I F : Type 0} → Shared F (Bor N × Unit {0}) (Bor ID)
    → (I → Option (Result (GraphNode N ID) E) → I → Type 0) → (ID → ID → Type 0) → (ID → ID → Bool)
    → I → F → Vec (GraphNode N ID) Global → Type 0
ReturnsReversed {N} {ID} ids steps clone eq input as_id v = (nodes : List (GraphNode N ID))
    × Drains steps input (map Ok nodes)
    × ((id : N → ID) → ((x : N) (r : Bor ID) → FnReturnsAt ids as_id x r → r.now ≡ id x)
    → HasEdgesById clone id (reversed_graph eq id (edge_lists nodes)) (edge_lists v.items))

-- the input yielded nodes and then this error
abbrev pub InputFails : {N ID E I : Type 0} → (I → Option (Result (GraphNode N ID) E) → I → Type 0)
    → I → E → Type 0
InputFails {N} {ID} {E} {I} steps input error = (nodes : List (GraphNode N ID)) × (t : I)
    × Yields steps input (map Ok nodes ++ Err error ∷ []) t
