-- Whole runs of the iterator `TopoOrderReverseLazy`.
use Rattle.std.proofs.Common.{◌≡◌, Bool, false, Some, Result, Ok, Err, List, [], ◌∷◌, ◌++◌, map, subst, append_assoc, append-nil}
use Rattle.std.specs.Fn.{Shared, Mut}
use Rattle.std.specs.Iterator.{Drains, Yields}
use Rattle.std.specs.declared.alloc.AllocError.{AllocError}
use Rattle.std.specs.declared.iter.IntoIterator as into
use Rattle.std.specs.declared.iter.Iterator as iter
use denote.Ref.{Bor}
use Rattle.jj_walks.specs.declared.topo_order_lazy.TopoOrderReverseLazy.{TopoOrderReverseLazy}
use Rattle.jj_dag.specs.declared.walk_error.WalkError.{WalkError}
use Rattle.jj_dag.specs.Expanding.{graph_at}
use Rattle.jj_dag.specs.ClosureGraph.{InEachModel}
use Rattle.jj_dag.specs.Errors.{IfNode}
use Rattle.jj_dag.specs.Graph.{IsAcyclicFrom, IsTopologicalOrder}
use Rattle.jj_walks.specs.LazySteps.{IsCause, IsLeftOf, Steps}
use Rattle.jj_walks.specs.NodeLists.{list_of_nodes}

module _ {T ID E F N C U J : Type 0} (eq : ID → ID → Bool) (ids : Shared F (Bor T × Unit {0}) (Result ID AllocError)) (lists : Mut N (Bor T × Unit {0}) U) (value : into.Ghosts U (Result T E) J) (items : iter.Ghosts J (Result T E))
    (cycles : Mut C (T × Unit {0}) E) {id_fn : F} {neighbors_fn : N} {on_cycle : C} {starts : List T} where
  -- the rest of the order after more nodes were yielded
  pub left_after : (xs yielded : List T) (s t : TopoOrderReverseLazy T ID E F N C) → s.has_ended ≡ false → IsLeftOf eq ids lists value items id_fn neighbors_fn on_cycle starts yielded s.order
      → Yields (Steps eq ids lists value items cycles) s (map (λ x. Ok x) xs) t → (t.has_ended ≡ false) × IsLeftOf eq ids lists value items id_fn neighbors_fn on_cycle starts (yielded ++ xs) t.order
  left_after [] yielded s t on k same = (
    subst (λ (v : TopoOrderReverseLazy T ID E F N C). v.has_ended ≡ false) same on,
    rw append-nil (subst (λ (v : TopoOrderReverseLazy T ID E F N C). IsLeftOf eq ids lists value items id_fn neighbors_fn on_cycle starts yielded v.order) same k),
  )
  left_after (x ∷ xs) yielded s t on k (j, step, rest) =
      let more = left_after xs (yielded ++ x ∷ []) j t step.ends (step.yields on id_fn neighbors_fn on_cycle starts yielded k) rest in
      (more.0, subst (λ (l : List T). IsLeftOf eq ids lists value items id_fn neighbors_fn on_cycle starts l t.order) (append_assoc yielded (x ∷ []) xs) more.1)

  -- a complete run yields a topological order of each model, in which the starts reach no cycle
  pub IsTopologicalOrder-from_drains : (xs : List T) (s : TopoOrderReverseLazy T ID E F N C) → s.has_ended ≡ false → IsLeftOf eq ids lists value items id_fn neighbors_fn on_cycle starts [] s.order
      → Drains (Steps eq ids lists value items cycles) s (map (λ x. Ok x) xs)
      → InEachModel (graph_at eq ids lists value items id_fn neighbors_fn) (list_of_nodes starts) (λ g nodes. IsTopologicalOrder g.graph nodes (map g.node xs) × IsAcyclicFrom g.graph nodes)
  IsTopologicalOrder-from_drains xs s on k (u, (t, run, last)) =
      let after = left_after xs [] s t on k run in
      last.yields after.0 id_fn neighbors_fn on_cycle starts xs after.1

  -- the error of another run has a cause
  pub IsCause-from_yields : (xs : List T) (failure : WalkError E) (s t u : TopoOrderReverseLazy T ID E F N C) → s.has_ended ≡ false → IsLeftOf eq ids lists value items id_fn neighbors_fn on_cycle starts [] s.order
      → Yields (Steps eq ids lists value items cycles) s (map (λ x. Ok x) xs) t → Steps eq ids lists value items cycles t (Some (Err failure)) u → IfNode failure (IsCause eq ids lists value items cycles id_fn neighbors_fn on_cycle starts)
  IsCause-from_yields xs failure s t u on k run last =
      let after = left_after xs [] s t on k run in
      last.yields after.0 id_fn neighbors_fn on_cycle starts xs after.1
