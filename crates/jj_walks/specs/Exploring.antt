-- Exploring a graph from several starts until every explored node reaches one frontier node, and
-- the explored nodes in topological order.
-- Machinery of private functions and fields.
use Rattle.std.specs.Prelude.{◌≡◌, ℕ, ◌≤◌, Bool, List, [], Option, map, length, Result, IfOk, MatchOption}
use Rattle.std.specs.Fn.{Shared, Mut}
use Rattle.std.specs.Global.{Global}
use Rattle.std.specs.declared.alloc.AllocError.{AllocError}
use Rattle.std.specs.declared.iter.IntoIterator as into
use Rattle.std.specs.declared.iter.Iterator as iter
use Rattle.std.specs.declared.vec.Vec.{Vec}
use denote.Ref.{Bor}
use Rattle.jj_dag.specs.declared.greatest_order.IndexedGraph.{IndexedGraph}
use Rattle.jj_walks.specs.declared.look_ahead.Chunk.{Chunk}
use Rattle.jj_dag.specs.declared.closures.Closures.{Closures}
use Rattle.jj_dag.specs.declared.walk_error.WalkError.{WalkError}
use Rattle.jj_walks.specs.Chunks.{IsChunkOfMany, IsChunkOfAnyGraph}
use Rattle.jj_dag.specs.Expanding.{StillImplements, InModels, graph_at, whole}
use Rattle.jj_dag.specs.Collecting.{IsFilled}
use Rattle.jj_dag.specs.Graph.{ReachedFrom, ReachesCycle}
use Rattle.jj_walks.specs.LookingAhead.{HasLooked}
use Rattle.jj_dag.specs.Outcomes.{IfFails}

module _ {T ID E F N U J : Type 0} (eq : ID → ID → Bool)
    (ids : Shared F (Bor T × Unit {0}) (Result ID AllocError)) (lists : Mut N (Bor T × Unit {0}) U)
    (value : into.Ghosts U (Result T E) J) (items : iter.Ghosts J (Result T E)) where
  -- `neighbors_fn` may fail with this error for a node that these reach
  abbrev pub FailsBelow : Closures F N → List T → E → Type 0
  FailsBelow s starts error = (x : T)
      × (graph_at eq ids lists value items s.id_fn s.neighbors_fn).fails x error
      × InModels eq ids lists value items s starts
      (λ walk nodes. ReachedFrom walk.graph nodes (walk.node x))

  -- the explored nodes, with the ids of the neighbors of each, and at most one frontier node
  abbrev pub HasExplored : Closures F N → List T → (ID → Option ℕ)
      → IndexedGraph T ID × Vec T Global → Type 0
  HasExplored s starts find r = (filled : IsFilled find r.0)
      × (filled.visited ≡ [] → r.1.items ≡ []) × (length r.1.items ≤ 1)
      × InModels eq ids lists value items s starts (λ walk nodes.
      HasLooked walk (whole walk) nodes find r.1.items filled.visited
      (map (λ v. v.items) r.0.neighbor_ids.items))

  pub record ExploresFrom (s t : Closures F N) (starts : List T) (find : ID → Option ℕ)
      (r : Result (IndexedGraph T ID × Vec T Global) (WalkError E)) : Type 0 where
    pub graph : StillImplements eq ids lists value items s t
    pub explored : IfOk r (HasExplored s starts find)
    pub failed : IfFails r (FailsBelow s starts)

  -- a chunk of the reachable nodes; or a reachable node, and a cycle is reachable
  abbrev pub HasChunk : Closures F N → List T → Chunk T → Type 0
  HasChunk s starts chunk = InModels eq ids lists value items s starts
      (λ walk nodes. MatchOption chunk.stuck
      (IsChunkOfMany walk.graph nodes (map walk.node chunk.nodes.items)
      (map walk.node chunk.left.items)
      × IsChunkOfAnyGraph walk.graph nodes (map walk.node chunk.nodes.items)
      (map walk.node chunk.left.items))
      (λ x. ReachedFrom walk.graph nodes (walk.node x) × ReachesCycle walk.graph nodes))

  pub record TakesChunk (s t : Closures F N) (starts : List T) (r : Result (Chunk T) (WalkError E))
      : Type 0 where
    pub graph : StillImplements eq ids lists value items s t
    pub chunk : IfOk r (HasChunk s starts)
    pub failed : IfFails r (FailsBelow s starts)
