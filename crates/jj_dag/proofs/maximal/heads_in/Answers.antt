use Rattle.std.proofs.Common.{rules, of_calls}
use Rattle.jj_dag.proofs.ClosureGraphs.{each_model, implements_outside}
use Rattle.jj_dag.proofs.Wrapped.{drains_ok, walkable_wrapped}
use Rattle.jj_dag.proofs.maximal.heads_in.Goals as goal

pub heads_ok_in-found-requires-clause-graph : goal.heads_ok_in-found-requires-clause-graph
heads_ok_in-found-requires-clause-graph g c =
    walkable_wrapped g.F.Fn g.N.FnMut g.NI.IntoIterator g.NI.IntoIter.Iterator _ (λ f. f.0) _ (λ f a r after h. search (rules, of_calls, h)) (λ f a k. search (rules, k)) (λ r k. k) _ _ c.requires.graph

pub returns-in-Ok : goal.returns-in-Ok
returns-in-Ok g c =
    let becomes = g.NI.IntoIterator.into_iter_gives in
    let steps = g.NI.IntoIter.Iterator.next_gives in
    record {
      heads = each_model c.in-Ok.ensures.heads
          (λ w k. implements_outside _ g.N.FnMut (λ f. f.0) (λ n r. becomes n r.items) (λ f a r after h. search (rules, of_calls, h)) g.ID.PartialEq.eq g.F.Fn _ _
          (λ n r xs h. drains_ok _ becomes steps n r h xs) w _ _ k)
          (λ xs d. drains_ok _ g.II.IntoIterator.into_iter_gives g.II.IntoIter.Iterator.next_gives c.args.start _ c.into_iter.ensures.into_iter_gives xs d);
    }
