use Rattle.std.proofs.Common.{rules, arith, ◌≡◌, [], true, false, map, sym, ◌∙◌, refl}
use Rattle.std.specs.HashSet.{contains}
use Rattle.std.proofs.lemmas.Grind.{common_steps}
use Rattle.std.proofs.lemmas.Result.{err_from_is_err_and}
use Rattle.jj_dag.proofs.ClosureGraphs.{returns_id}
use Rattle.jj_dag.proofs.Errors.{node_weaker}
use Rattle.jj_dag.proofs.Plain.{un_not, un_not_false}
use Rattle.jj_walks.proofs.LazyStates.{implement_now, in_model_exhausted, in_model_yielded, made_again, next_is_node}
use Rattle.jj_walks.proofs.lazy_order.LazyOrder.next_node.Goals as goal

pub returns-in_err-refill-clause-yields : goal.returns-in_err-refill-clause-yields
returns-in_err-refill-clause-yields g c =
    let q = err_from_is_err_and c.from_residual.result c.from_residual.ensures.1 in
    rw (q.1, q.2) (λ id_fn neighbors_fn on_cycle starts yielded k. node_weaker c.in_err-refill.field-0.0 _ _ (λ error p. p id_fn neighbors_fn on_cycle starts yielded k) c.in_err-refill.ensures.cause)

pub returns-in_default-clause-yields : goal.returns-in_default-clause-yields
returns-in_default-clause-yields g c =
    let s = c.refill.new.self in
    let empty : s.ready.items ≡ [] = first_of (search rules, grind (arith, common_steps)) in
    λ id_fn neighbors_fn on_cycle starts yielded k.
    let q = c.in_ok-refill.ensures.refilled id_fn neighbors_fn on_cycle starts yielded k in
    record {
      starts = starts;
      yielded = refl;
      holds = λ w implemented nodes. in_model_exhausted w g.ID.PartialEq.eq (map w.node starts) yielded s s (q.0.models w implemented nodes) (q.1 w implemented nodes empty);
    }

pub returns-then-branch-clause-yields : goal.returns-then-branch-clause-yields
returns-then-branch-clause-yields g c =
    let s = c.refill.new.self in
    let id = c.in_ok-id.id in
    let new : contains g.ID.PartialEq.eq s.emitted id ≡ false = un_not (contains g.ID.PartialEq.eq s.emitted id) (sym c.if-branch.true ∙ c.in_ok-insert.ensures.added) in
    λ id_fn neighbors_fn on_cycle starts yielded k.
    let q = (c.in_ok-refill.ensures.refilled id_fn neighbors_fn on_cycle starts yielded k).0 in
    record {
      graph = q.graph;
      cycle_fn = q.cycle_fn;
      failed = q.failed;
      models = λ w implemented nodes.
          let is_node = next_is_node g.ID.PartialEq.eq g.F.Fn g.N.FnMut g.NI.IntoIterator g.NI.IntoIter.Iterator q c.pop.new.self.items c.in-Some.node c.in-Some.ensures.items w implemented nodes in
          let now = implement_now g.ID.PartialEq.eq g.F.Fn g.N.FnMut g.NI.IntoIterator g.NI.IntoIter.Iterator q w implemented in
          in_model_yielded w g.ID.PartialEq.eq (map w.node starts) yielded s _ c.pop.new.self.items c.in-Some.node id (q.models w implemented nodes) c.in-Some.ensures.items is_node
          (now.ids_match c.in-Some.node id is_node (returns_id g.F.Fn c.id_fn.ensures c.in_ok-id.was)) new now.apart c.in_ok-insert.ensures.updates.0 refl refl refl;
    }

pub returns-clause-yields : goal.returns-clause-yields
returns-clause-yields g c =
    let s = c.refill.new.self in
    let id = c.in_ok-id.id in
    let old : contains g.ID.PartialEq.eq s.emitted id ≡ true = un_not_false (contains g.ID.PartialEq.eq s.emitted id) (sym c.if-branch.false ∙ c.in_ok-insert.ensures.added) in
    λ id_fn neighbors_fn on_cycle starts yielded k.
    let q = (c.in_ok-refill.ensures.refilled id_fn neighbors_fn on_cycle starts yielded k).0 in
    made_again g.ID.PartialEq.eq g.F.Fn g.N.FnMut g.NI.IntoIterator g.NI.IntoIter.Iterator q g.C.FnMut c.pop.new.self.items c.in-Some.node id _ c.cycle_fn.new.self c.in-Some.ensures.items old c.cycle_fn.ensures
    (λ w now is_node. now.ids_match c.in-Some.node id is_node (returns_id g.F.Fn c.id_fn.ensures c.in_ok-id.was))
