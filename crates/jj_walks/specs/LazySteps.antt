-- The steps of the iterator `TopoOrderReverseLazy`, which produces a topological order lazily.
-- Cited by contracts of public items: CanGo, StartsOrder, Steps, items_left.
use Rattle.std.specs.Prelude.{◌≡◌, ◌⊎◌, ℕ, ◌+◌, ◌-◌, ◌^◌, ◌==◌, Bool, true, false, cond, List, [], ◌∷◌, ◌++◌, map, reverse, Option, None, Some, Result, Err, MatchOption, MatchResult, eqb}
use Rattle.std.specs.Fn.{Shared, Mut, Called}
use Rattle.std.specs.HashSet.{contains, hash_set_len}
use Rattle.std.specs.Iterator.{IsFiniteIterable}
use Rattle.std.specs.List.{IsDistinct, list_any}
use Rattle.std.specs.declared.alloc.AllocError.{AllocError}
use Rattle.std.specs.declared.iter.IntoIterator as into
use Rattle.std.specs.declared.iter.Iterator as iter
use denote.Ref.{Bor}
use denote.Param.Always.{always_mut}
use Rattle.jj_walks.specs.declared.lazy_order.LazyOrder.{LazyOrder}
use Rattle.jj_walks.specs.declared.topo_order_lazy.TopoOrderReverseLazy.{TopoOrderReverseLazy}
use Rattle.jj_dag.specs.declared.walk_error.WalkError.{WalkError}
use Rattle.jj_dag.specs.declared.walk_error.WalkError.TheVariants.{Node}
use Rattle.jj_walks.specs.Chunks.{IsOrderPrefix, ContinuesFrom}
use Rattle.jj_walks.specs.NodeLists.{list_of_nodes}
use Rattle.jj_dag.specs.Expanding.{StillImplements, graph_at}
use Rattle.jj_dag.specs.ClosureGraph.{InEachModel, IsMadeBesideCycle, IsNeighborsError, IsWalkable, Listing}
use Rattle.jj_dag.specs.Errors.{IfNode}
use Rattle.jj_dag.specs.Graph.{IsAcyclicFrom, IsTopologicalOrder}
use Rattle.jj_walks.specs.GroupedSteps.{is_last}
use Rattle.jj_dag.specs.Walk.{AreNodes, GraphModel}

-- an upper bound on the items to come: each node inserts an id into a set of fewer than 2^63, and
-- an error ends the order
abbrev pub items_left : {T ID E F N C : Type 0} → TopoOrderReverseLazy T ID E F N C → ℕ
items_left s = cond s.has_ended 0 (1 + (2 ^ 63 - hash_set_len s.order.emitted))

-- no node is ready, and none is left to expand
abbrev pub IsExhausted : {T ID E F N C : Type 0} → LazyOrder T ID E F N C → Type 0
IsExhausted s = (s.ready.items ≡ []) × (s.start.items ≡ []) × (s.failed ≡ None)

-- this error comes next
abbrev pub FailsNext : {T ID E F N C : Type 0} → E → LazyOrder T ID E F N C → Type 0
FailsNext error s = (s.ready.items ≡ []) × (s.failed ≡ Some error)

-- the nodes that were yielded and those that are ready, in order
abbrev pub yielded_or_ready : {T ID E F N C : Type 0} → (T → ℕ) → List T → LazyOrder T ID E F N C
    → List ℕ
yielded_or_ready node yielded s = map node (yielded ++ reverse s.ready.items)

-- In a model: each node was yielded once, these and the ready ones begin an order of the reachable
-- nodes, and unless a list failed, it continues from the nodes that are left.
pub record IsLeftIn {T ID E F N C : Type 0} (w : GraphModel T ID) (eq : ID → ID → Bool)
    (starts : List ℕ) (yielded : List T) (s : LazyOrder T ID E F N C) : Type 0 where
  pub knows : (i : ID) → w.is_node (w.id i) ≡ true
      → contains eq s.emitted i ≡ list_any (λ a. w.id i == a) (map w.node yielded)
  pub once : IsDistinct eqb (map w.node yielded)
  pub begun : IsOrderPrefix w.graph starts (yielded_or_ready w.node yielded s)
  pub rest : s.failed ≡ None
      → ContinuesFrom w.graph starts (yielded_or_ready w.node yielded s) (map w.node s.start.items)

module _ {T ID E F N C U J : Type 0} (eq : ID → ID → Bool)
    (ids : Shared F (Bor T × Unit {0}) (Result ID AllocError)) (lists : Mut N (Bor T × Unit {0}) U)
    (value : into.Ghosts U (Result T E) J) (items : iter.Ghosts J (Result T E)) where
  -- s is the rest of an order from these starts by these closures that has yielded these nodes; an
  -- error that is to come is one that `neighbors_fn` may return for a node that the starts reach
  pub record IsLeftOf (id_fn : F) (neighbors_fn : N) (on_cycle : C) (starts yielded : List T)
      (s : LazyOrder T ID E F N C) : Type 0 where
    pub graph : StillImplements eq ids lists value items
        (record { id_fn = id_fn; neighbors_fn = neighbors_fn }) s.graph
    pub cycle_fn : s.cycle_fn ≡ on_cycle
    pub failed : (error : E) → s.failed ≡ Some error → IsNeighborsError
        (graph_at eq ids lists value items id_fn neighbors_fn) (list_of_nodes starts) error
    pub models : (w : GraphModel T ID)
        → (graph_at eq ids lists value items id_fn neighbors_fn).implements w
        → AreNodes w (map w.node starts) → IsLeftIn w eq (map w.node starts) yielded s

  module _ (cycles : Mut C (T × Unit {0}) E) where
    -- the closures may always be called, and each list of neighbors is finite
    pub record CanGo (s : LazyOrder T ID E F N C) : Type 0 where
      pub graph : IsWalkable ids lists
          (IsFiniteIterable value.into_iter_gives items.can_next items.remaining) s.graph.id_fn
          s.graph.neighbors_fn
      pub cycle_fn : always_mut cycles s.cycle_fn

    -- `neighbors_fn` may return the error for a node that the starts reach; or `cycle_fn` made it
    -- of such a node, and the starts reach a cycle
    abbrev pub IsCause : F → N → C → List T → E → Type 0
    IsCause id_fn neighbors_fn on_cycle starts error =
        IsNeighborsError (graph_at eq ids lists value items id_fn neighbors_fn)
        (list_of_nodes starts) error
        ⊎ IsMadeBesideCycle (λ x e. (after : C) × Called cycles on_cycle (x, tt) e after)
        (graph_at eq ids lists value items id_fn neighbors_fn)
        (list_of_nodes starts) error

    -- t is the rest of each order that s is the rest of, and has a ready node, if any is to come
    abbrev pub Refills : LazyOrder T ID E F N C → LazyOrder T ID E F N C → Type 0
    Refills s t = (id_fn : F) (neighbors_fn : N) (on_cycle : C) (starts yielded : List T)
        → IsLeftOf id_fn neighbors_fn on_cycle starts yielded s
        → IsLeftOf id_fn neighbors_fn on_cycle starts yielded t
        × ((w : GraphModel T ID)
        → (graph_at eq ids lists value items id_fn neighbors_fn).implements w
        → AreNodes w (map w.node starts) → t.ready.items ≡ [] → IsExhausted t)

    -- the error has a cause in each order that s is the rest of
    abbrev pub HasCause : LazyOrder T ID E F N C → E → Type 0
    HasCause s error = (id_fn : F) (neighbors_fn : N) (on_cycle : C) (starts yielded : List T)
        → IsLeftOf id_fn neighbors_fn on_cycle starts yielded s
        → IsCause id_fn neighbors_fn on_cycle starts error

    -- In each order that s is the rest of: one more node was yielded; or all were, in a topological
    -- order of each model, and the starts reach no cycle; or the error has a cause.
    abbrev pub YieldsOn : LazyOrder T ID E F N C → Option (Result T (WalkError E))
        → LazyOrder T ID E F N C → Type 0
    YieldsOn s r t = (id_fn : F) (neighbors_fn : N) (on_cycle : C) (starts yielded : List T)
        → IsLeftOf id_fn neighbors_fn on_cycle starts yielded s
        → MatchOption r
        (InEachModel (graph_at eq ids lists value items id_fn neighbors_fn) (list_of_nodes starts)
        (λ g nodes. IsTopologicalOrder g.graph nodes (map g.node yielded)
        × IsAcyclicFrom g.graph nodes))
        (λ x. MatchResult x
        (λ node. IsLeftOf id_fn neighbors_fn on_cycle starts (yielded ++ node ∷ []) t)
        (λ failure. IfNode failure (IsCause id_fn neighbors_fn on_cycle starts)))

    -- One call of `next`, which returned r and left t: the order goes on; an error that was to come
    -- next came; only `None` and errors end it; and an ended order returns `None` and stays as it
    -- is.
    pub record Steps (s : TopoOrderReverseLazy T ID E F N C) (r : Option (Result T (WalkError E)))
        (t : TopoOrderReverseLazy T ID E F N C) : Type 0 where
      pub yields : s.has_ended ≡ false → YieldsOn s.order r t.order
      pub failed : s.has_ended ≡ false → (error : E) → FailsNext error s.order
          → r ≡ Some (Err (Node error))
      pub again : t.has_ended ≡ false → CanGo t.order
      pub ends : t.has_ended ≡ is_last r
      pub ended : s.has_ended ≡ true → (r ≡ None) × (t ≡ s)

    -- it may be called, has not ended, and is the rest of an order from the starts that has yielded
    -- no node; or a start failed, and its error comes next
    pub record StartsOrder (start : Listing T E) (id_fn : F) (neighbors_fn : N) (on_cycle : C)
        (it : TopoOrderReverseLazy T ID E F N C) : Type 0 where
      pub can_go : CanGo it.order
      pub has_ended : it.has_ended ≡ false
      pub left : ((starts : List T) × start.yields starts
          × IsLeftOf id_fn neighbors_fn on_cycle starts [] it.order)
          ⊎ ((error : E) × start.fails error × FailsNext error it.order)
