-- Walks over a graph of which no node fails: the results in plain words of graphs.
-- Cited by contracts of public items: ChunkIsNext, ClosestAreMaximal, HeadsAreMaximal,
-- OkOrderIsTopological, OkReverseIsTopological, OrderIsGreatest, OrderIsTopological,
-- PlainHeadsAreMaximal, ReverseIsTopological, YieldsOkPreorder, YieldsPreorder,
-- YieldsTopologicalOrder.
use Rattle.std.specs.Prelude.{◌≡◌, ◌⊎◌, ◌++◌, ℕ, Bool, List, [], map, reverse, Option, Result, IfOk}
use Rattle.std.specs.declared.result.Result.TheVariants.{Ok}
use Rattle.std.specs.declared.alloc.AllocError.{AllocError}
use Rattle.std.specs.declared.iter.IntoIterator as into
use Rattle.std.specs.declared.iter.Iterator as iter
use Rattle.std.specs.Fn.{Shared, Mut}
use Rattle.std.specs.Iterator.{Count, Drains}
use denote.Ref.{Bor}
use Rattle.std.specs.Global.{Global}
use Rattle.std.specs.HashSet.{HashSet}
use Rattle.std.specs.declared.cmp.Ordering.{Ordering}
use Rattle.std.specs.declared.vec.Vec.{Vec}
use Rattle.smallvec.specs.SmallVec.{SmallVec}
use Rattle.jj_dag.specs.ClosureGraph.{ClosureGraph, InEachModel, InEachModelOfTwo, IsCycleError, IsInputError, IsMadeBesideCycle, IsNeighborsError, IsNeighborsErrorOfTwo, Listing, list_of_items}
use Rattle.jj_dag.specs.CommonNodes.{AreClosestCommon, HasNoCommonCycle}
use Rattle.jj_dag.specs.Found.{AreClosestNodes, AreHeads}
use Rattle.jj_dag.specs.Graph.{AreMaximalElements, IsAcyclicFrom, IsGreatestTopologicalOrder, IsPreorder, IsTopologicalOrder, ReachedFrom}
use Rattle.jj_dag.specs.GreatestOrder.{IsGreatestOrder}
use Rattle.jj_dag.specs.Orders.{IsWholePostorder}
use Rattle.jj_dag.specs.Outcomes.{IfFails}
use Rattle.jj_dag.specs.Walk.{AreNodes, DrainsTo, IsOrderedLike, GraphModel, IsEqualityOfNodes}
use Rattle.jj_dag.specs.declared.walk_error.WalkError.{WalkError}
use Rattle.jj_walks.specs.declared.depth_first.DepthFirst.{DepthFirst}
use Rattle.jj_walks.specs.declared.depth_first.DepthFirstOk.{DepthFirstOk}
use Rattle.jj_walks.specs.declared.topo_order_lazy.TopoOrderReverseLazy.{TopoOrderReverseLazy}
use Rattle.jj_dag.specs.Expanding.{graph_at}
use Rattle.jj_walks.specs.Chunks.{IsNextChunk}
use Rattle.jj_walks.specs.DfsOkSteps.{StartsWalk, Steps as OkSteps}
use Rattle.jj_walks.specs.DfsSteps.{IsLeftOf, Steps}
use Rattle.jj_walks.specs.Expansions.{ImplementsItems}
use Rattle.jj_walks.specs.LazySteps.{StartsOrder, Steps as LazySteps}

module _ {T ID E : Type 0} (g : GraphModel T ID) where
  -- The closures define the graph: they implement it, and fail for no node that the starts reach.
  -- So each list that is returned for such a node is that of its neighbors.
  pub record DefinesGraph (graph : ClosureGraph T ID E) (starts : List ℕ) : Type 0 where
    pub implements : graph.implements g
    pub never_fails : (x : T) (e : E) → ReachedFrom g.graph starts (g.node x) → graph.fails x e → ⊥

  -- the iterable yields these nodes, and does not fail
  pub record YieldsStarts (start : Listing T E) (starts : List ℕ) : Type 0 where
    pub nodes : AreNodes g starts
    pub yields : (xs : List T) → start.yields xs → map g.node xs ≡ starts
    pub never_fails : (e : E) → start.fails e → ⊥

-- P of the value, or memory ran out
abbrev pub IsOkOrMemory : {V E : Type 0} → Result V (WalkError E) → (V → Type 0) → Type 0
IsOkOrMemory r P = IfOk r P × IfFails r (λ _. ⊥)

module _ {T ID E : Type 0} (graph : ClosureGraph T ID E) (start : Listing T E) where
  -- `topo_order_reverse_ord` over an acyclic graph: the greatest topological order of the nodes
  -- that the starts reach; the lexicographically greatest one if they are numbered in the order of
  -- their values
  abbrev pub OrderIsGreatest : (T → T → Ordering) → (T → E → Type 0)
      → Result (Vec T Global) (WalkError E) → Type 0
  OrderIsGreatest cmp made r =
      IfOk r (λ v. InEachModel graph start (λ g starts.
      IsGreatestOrder cmp g starts v.items))
      → IfFails r (λ e. IsInputError graph start e
      ⊎ IsMadeBesideCycle made graph start e)
      → (g : GraphModel T ID) (starts : List ℕ) → DefinesGraph g graph starts
      → YieldsStarts g start starts → IsAcyclicFrom g.graph starts
      → IsOkOrMemory r (λ v. IsGreatestOrder cmp g starts v.items
      × (IsOrderedLike g cmp → IsGreatestTopologicalOrder g.graph starts (map g.node v.items)))

  -- `topo_order_forward` over an acyclic graph: the reverse of a topological order
  abbrev pub OrderIsTopological : {K : Type 0} → (T → K → Type 0)
      → Result (Vec T Global) (WalkError K) → Type 0
  OrderIsTopological made r =
      IfOk r (λ v. InEachModel graph start (λ g starts.
      IsWholePostorder g.graph starts (map g.node v.items)))
      → IfFails r (IsCycleError made graph start)
      → (g : GraphModel T ID) (starts : List ℕ) → DefinesGraph g graph starts
      → YieldsStarts g start starts → IsAcyclicFrom g.graph starts
      → IsOkOrMemory r (λ v. IsTopologicalOrder g.graph starts (reverse (map g.node v.items)))

  -- `topo_order_reverse` over an acyclic graph: a topological order
  abbrev pub ReverseIsTopological : {K : Type 0} → (T → K → Type 0)
      → Result (Vec T Global) (WalkError K) → Type 0
  ReverseIsTopological made r =
      IfOk r (λ v. InEachModel graph start (λ g starts.
      IsWholePostorder g.graph starts (reverse (map g.node v.items))))
      → IfFails r (IsCycleError made graph start)
      → (g : GraphModel T ID) (starts : List ℕ) → DefinesGraph g graph starts
      → YieldsStarts g start starts → IsAcyclicFrom g.graph starts
      → IsOkOrMemory r (λ v. IsTopologicalOrder g.graph starts (map g.node v.items))

  -- `topo_order_forward_ok` over an acyclic graph: the reverse of a topological order
  abbrev pub OkOrderIsTopological : (T → E → Type 0) → Result (Vec T Global) (WalkError E) → Type 0
  OkOrderIsTopological made r =
      IfOk r (λ v. InEachModel graph start (λ g starts.
      IsWholePostorder g.graph starts (map g.node v.items)))
      → IfFails r (λ e. IsInputError graph start e ⊎ IsCycleError made graph start e)
      → (g : GraphModel T ID) (starts : List ℕ) → DefinesGraph g graph starts
      → YieldsStarts g start starts → IsAcyclicFrom g.graph starts
      → IsOkOrMemory r (λ v. IsTopologicalOrder g.graph starts (reverse (map g.node v.items)))

  -- `topo_order_reverse_ok` over an acyclic graph: a topological order
  abbrev pub OkReverseIsTopological : (T → E → Type 0) → Result (Vec T Global) (WalkError E)
      → Type 0
  OkReverseIsTopological made r =
      IfOk r (λ v. InEachModel graph start (λ g starts.
      IsWholePostorder g.graph starts (reverse (map g.node v.items))))
      → IfFails r (λ e. IsInputError graph start e ⊎ IsCycleError made graph start e)
      → (g : GraphModel T ID) (starts : List ℕ) → DefinesGraph g graph starts
      → YieldsStarts g start starts → IsAcyclicFrom g.graph starts
      → IsOkOrMemory r (λ v. IsTopologicalOrder g.graph starts (map g.node v.items))

  -- `heads` of `dag_walk` over an acyclic graph, as below; it only fails out of memory
  abbrev pub PlainHeadsAreMaximal : {S : Type 0} → (T → T → Bool)
      → Result (HashSet T S) AllocError → Type 0
  PlainHeadsAreMaximal eq r =
      IfOk r (λ heads. InEachModel graph start (λ g starts. AreHeads eq g starts heads.keys))
      → (g : GraphModel T ID) (starts : List ℕ) → DefinesGraph g graph starts
      → YieldsStarts g start starts → IsAcyclicFrom g.graph starts → IsEqualityOfNodes g eq
      → IfOk r (λ heads. AreMaximalElements g.graph starts (map g.node heads.keys))

  -- `heads` over an acyclic graph with equal values only for one node: exactly the starts that no
  -- other start reaches, each once
  abbrev pub HeadsAreMaximal : {S : Type 0} → (T → T → Bool)
      → Result (HashSet T S) (WalkError E) → Type 0
  HeadsAreMaximal eq r =
      IfOk r (λ heads. InEachModel graph start (λ g starts. AreHeads eq g starts heads.keys))
      → IfFails r (IsInputError graph start)
      → (g : GraphModel T ID) (starts : List ℕ) → DefinesGraph g graph starts
      → YieldsStarts g start starts → IsAcyclicFrom g.graph starts → IsEqualityOfNodes g eq
      → IsOkOrMemory r (λ heads. AreMaximalElements g.graph starts (map g.node heads.keys))

  -- `closest_common_nodes` where no common node is on a cycle: exactly the common nodes that no
  -- other common node reaches, each once
  abbrev pub ClosestAreMaximal : Listing T E → Result (Vec T Global) (WalkError E) → Type 0
  ClosestAreMaximal second r =
      IfOk r (λ v. InEachModelOfTwo graph start second (λ g set1 set2.
      AreClosestNodes g set1 set2 v.items))
      → IfFails r (IsNeighborsErrorOfTwo graph start second)
      → (g : GraphModel T ID) (set1 set2 : List ℕ) → DefinesGraph g graph (set1 ++ set2)
      → YieldsStarts g start set1 → YieldsStarts g second set2 → HasNoCommonCycle g.graph set1 set2
      → IsOkOrMemory r (λ v. AreClosestCommon g.graph set1 set2 (map g.node v.items))

  -- `topo_order_reverse_chunked` over an acyclic graph: the next chunk of a topological order
  abbrev pub ChunkIsNext : (T → E → Type 0) → List T
      → Result (SmallVec T) (WalkError E) → Type 0
  ChunkIsNext made left r =
      IfOk r (λ chunk. InEachModel graph start (λ g starts.
      IsNextChunk g.graph starts (map g.node chunk.items) (map g.node left)))
      → IfFails r (λ e. IsNeighborsError graph start e
      ⊎ IsMadeBesideCycle made graph start e)
      → (g : GraphModel T ID) (starts : List ℕ) → DefinesGraph g graph starts
      → YieldsStarts g start starts → IsAcyclicFrom g.graph starts
      → IsOkOrMemory r (λ chunk. IsNextChunk g.graph starts (map g.node chunk.items)
      (map g.node left))

-- a complete run of `dfs` without an error yields the depth-first preorder of the graph
module _ {T ID E F N U S : Type 0} (ids : Shared F (Bor T × Unit {0}) (Result ID AllocError))
    (lists : Mut N (Bor T × Unit {0}) U) (eq : ID → ID → Bool) (becomes : U → S → Type 0)
    (steps : S → Option T → S → Type 0) (can : S → Type 0) (left : S → Count)
    (graph : ClosureGraph T ID E) (start : Listing T E) where
  -- `dfs`: a complete run yields a depth-first preorder of the nodes that the starts reach
  abbrev pub YieldsPreorder : DepthFirst T ID F N → List T → Type 0
  YieldsPreorder it yielded =
      InEachModel graph start (λ g starts. IsLeftOf ids lists g eq becomes steps starts [] it)
      → Drains (Steps ids lists eq becomes steps can left) it (map (λ x. Ok x) yielded)
      → InEachModel graph start (λ g starts. IsPreorder g.graph starts (map g.node yielded))

-- a complete run of `dfs_ok` without an error yields the depth-first preorder of the graph
module _ {T ID E F N U S II I : Type 0}
    (ids : Shared F (Bor T × Unit {0}) (Result ID AllocError)) (lists : Mut N (Bor T × Unit {0}) U)
    (eq : ID → ID → Bool) (becomes : U → S → Type 0) (steps : S → Option (Result T E) → S → Type 0)
    (can : S → Type 0) (left : S → Count) (first : into.Ghosts II (Result T E) I)
    (first_items : iter.Ghosts I (Result T E)) (id_fn : F) (neighbors_fn : N) (start : II) where
  -- `dfs_ok`: a complete run without an error yields a depth-first preorder of the nodes that the
  -- starts reach
  abbrev pub YieldsOkPreorder : DepthFirstOk T ID E F N → List T → Type 0
  YieldsOkPreorder it yielded =
      StartsWalk ids lists eq becomes steps first first_items id_fn neighbors_fn start it
      → Drains (OkSteps ids lists eq becomes steps can left) it (map (λ x. Ok x) yielded)
      → (g : GraphModel T ID) (starts : List ℕ)
      → ImplementsItems g eq ids lists (DrainsTo becomes steps) id_fn neighbors_fn
      → YieldsStarts g (list_of_items first first_items start) starts
      → IsPreorder g.graph starts (map g.node yielded)

-- a complete run of `topo_order_reverse_lazy` without an error yields a topological order of the
-- graph, in which the starts reach no cycle
module _ {T ID E F N C U J : Type 0} (eq : ID → ID → Bool)
    (ids : Shared F (Bor T × Unit {0}) (Result ID AllocError)) (lists : Mut N (Bor T × Unit {0}) U)
    (value : into.Ghosts U (Result T E) J) (items : iter.Ghosts J (Result T E))
    (cycles : Mut C (T × Unit {0}) E) (start : Listing T E) (id_fn : F) (neighbors_fn : N)
    (cycle_fn : C) where
  -- `topo_order_reverse_lazy`: a complete run without an error yields a topological order of the
  -- nodes that the starts reach, and these reach no cycle
  abbrev pub YieldsTopologicalOrder : TopoOrderReverseLazy T ID E F N C → List T → Type 0
  YieldsTopologicalOrder it yielded =
      StartsOrder eq ids lists value items cycles start id_fn neighbors_fn cycle_fn it
      → Drains (LazySteps eq ids lists value items cycles) it (map (λ x. Ok x) yielded)
      → InEachModel (graph_at eq ids lists value items id_fn neighbors_fn) start
      (λ g starts. IsTopologicalOrder g.graph starts (map g.node yielded)
      × IsAcyclicFrom g.graph starts)
