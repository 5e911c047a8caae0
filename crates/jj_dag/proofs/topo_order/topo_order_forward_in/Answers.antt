use Rattle.std.proofs.Common.{rules, of_calls}
use Rattle.jj_dag.proofs.ClosureGraphs.{each_model, implements_outside}
use Rattle.jj_dag.proofs.Wrapped.{walkable_wrapped, cycle_says, drains_ok}
use Rattle.jj_dag.proofs.topo_order.topo_order_forward_in.Goals as goal

pub walk_forward-order-requires-clause-graph : goal.walk_forward-order-requires-clause-graph
walk_forward-order-requires-clause-graph g c =
    walkable_wrapped g.F.Fn g.N.FnMut g.NI.IntoIterator g.NI.IntoIter.Iterator _ (λ f. f.0) _ (λ f a r after h. search (rules, of_calls, h)) (λ f a k. search (rules, k)) (λ r k. k) _ _ c.requires.graph

pub returns-in-Ok-clause-order : goal.returns-in-Ok-clause-order
returns-in-Ok-clause-order g c =
    let becomes = g.NI.IntoIterator.into_iter_gives in
    let steps = g.NI.IntoIter.Iterator.next_gives in
    each_model c.in-Ok.ensures.order
    (λ w k. implements_outside _ g.N.FnMut (λ f. f.0) (λ n r. becomes n r.items) (λ f a r after h. search (rules, of_calls, h)) g.ID.PartialEq.eq g.F.Fn _ _
    (λ n r xs h. drains_ok _ becomes steps n r h xs) w _ _ k)
    (λ xs d. drains_ok _ g.II.IntoIterator.into_iter_gives g.II.IntoIter.Iterator.next_gives c.args.start _ c.into_iter.ensures.into_iter_gives xs d)

pub returns-in-Cycle-clause-cycle : goal.returns-in-Cycle-clause-cycle
returns-in-Cycle-clause-cycle g c =
    let becomes = g.NI.IntoIterator.into_iter_gives in
    let steps = g.NI.IntoIter.Iterator.next_gives in
    record {
      node = c.in-Cycle.node;
      made_of = c.cycle_fn.ensures;
      on_cycle = each_model (cycle_says _ c.in-Err.stop c.in-Cycle.node c.in-Cycle.is c.in-Err.ensures.cycle)
          (λ w k. implements_outside _ g.N.FnMut (λ f. f.0) (λ n r. becomes n r.items) (λ f a r after h. search (rules, of_calls, h)) g.ID.PartialEq.eq g.F.Fn _ _
          (λ n r xs h. drains_ok _ becomes steps n r h xs) w _ _ k)
          (λ xs d. drains_ok _ g.II.IntoIterator.into_iter_gives g.II.IntoIter.Iterator.next_gives c.args.start _ c.into_iter.ensures.into_iter_gives xs d);
    }
