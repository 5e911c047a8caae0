-- The results of expanding one node, and all nodes that several starts reach.
-- Cited by contracts of public items: CollectsFrom, ListsNode.
use Rattle.std.specs.Prelude.{◌≡◌, ℕ, Bool, true, List, [], Option, map, Result, IfOk}
use Rattle.std.specs.declared.result.Result.TheVariants.{Ok}
use Rattle.std.specs.Fn.{Shared, Mut}
use Rattle.std.specs.Global.{Global}
use Rattle.std.specs.Iterator.{IsFiniteIterable}
use Rattle.std.specs.declared.alloc.AllocError.{AllocError}
use Rattle.std.specs.declared.iter.IntoIterator as into
use Rattle.std.specs.declared.iter.Iterator as iter
use Rattle.std.specs.declared.vec.Vec.{Vec}
use denote.Ref.{Bor}
use Rattle.jj_dag.specs.declared.greatest_order.IndexedGraph.{IndexedGraph}
use Rattle.jj_dag.specs.declared.closures.Closures.{Closures}
use Rattle.jj_dag.specs.declared.walk_error.WalkError.{WalkError}
use Rattle.jj_dag.specs.ClosureGraph.{CallsLead, ClosureGraph, IsWalkable, graph_of_items}
use Rattle.jj_dag.specs.Collecting.{IsCollecting, IsFilled}
use Rattle.jj_dag.specs.FallibleGraphs.{FallibleGraph}
use Rattle.jj_dag.specs.Graph.{ReachedFrom}
use Rattle.jj_dag.specs.Outcomes.{IfFails}
use Rattle.jj_dag.specs.Walk.{AreNodes, GraphModel}

-- a model's lists, of which no item fails
abbrev pub whole : {T ID : Type 0} → GraphModel T ID → FallibleGraph (Unit {0})
whole walk a = map (λ b. Ok b) (walk.graph a)

module _ {T ID E F N U J : Type 0} (eq : ID → ID → Bool)
    (ids : Shared F (Bor T × Unit {0}) (Result ID AllocError)) (lists : Mut N (Bor T × Unit {0}) U)
    (value : into.Ghosts U (Result T E) J) (items : iter.Ghosts J (Result T E)) where
  -- the graph of the closures, when `neighbors_fn` is this
  abbrev pub graph_at : F → N → ClosureGraph T ID E
  graph_at = graph_of_items eq ids lists value items

  -- the closures implement what they implemented, and may be called again
  pub record StillImplements (s t : Closures F N) : Type 0 where
    pub id_fn : t.id_fn ≡ s.id_fn
    pub walkable : IsWalkable ids lists
        (IsFiniteIterable value.into_iter_gives items.can_next items.remaining) t.id_fn
        t.neighbors_fn
    pub calls : CallsLead lists s.neighbors_fn t.neighbors_fn
    pub implemented : (walk : GraphModel T ID) → (graph_at s.id_fn s.neighbors_fn).implements walk
        → (graph_at s.id_fn t.neighbors_fn).implements walk

  -- these are the neighbors of the node
  abbrev pub ListsNeighbors : Closures F N → T → Vec T Global → Type 0
  ListsNeighbors s node v = (walk : GraphModel T ID)
      → (graph_at s.id_fn s.neighbors_fn).implements walk → walk.is_node (walk.node node) ≡ true
      → map walk.node v.items ≡ walk.graph (walk.node node)

  -- the neighbors of the node, or an error that may be returned for it
  pub record ListsNode (s t : Closures F N) (node : T) (r : Result (Vec T Global) (WalkError E))
      : Type 0 where
    pub graph : StillImplements s t
    pub listed : IfOk r (ListsNeighbors s node)
    pub failed : IfFails r ((graph_at s.id_fn s.neighbors_fn).fails node)

  -- P of each model that the closures implement, and of these nodes in it
  abbrev pub InModels : Closures F N → List T → (GraphModel T ID → List ℕ → Type 0) → Type 0
  InModels s starts P = (walk : GraphModel T ID)
      → (graph_at s.id_fn s.neighbors_fn).implements walk → AreNodes walk (map walk.node starts)
      → P walk (map walk.node starts)

  -- the nodes that these reach were collected, with the ids of the neighbors of each
  abbrev pub HasCollected : Closures F N → List T → (ID → Option ℕ) → IndexedGraph T ID → Type 0
  HasCollected s starts find found = (filled : IsFilled find found)
      × InModels s starts (λ walk nodes. IsCollecting walk (whole walk) nodes find []
      filled.visited (map (λ v. v.items) found.neighbor_ids.items))

  pub record CollectsFrom (s : Closures F N) (starts : List T) (find : ID → Option ℕ)
      (r : Result (IndexedGraph T ID) (WalkError E)) : Type 0 where
    pub collected : IfOk r (HasCollected s starts find)
    pub failed : IfFails r (λ error. (x : T)
        × (graph_at s.id_fn s.neighbors_fn).fails x error
        × InModels s starts (λ walk nodes. ReachedFrom walk.graph nodes (walk.node x)))
