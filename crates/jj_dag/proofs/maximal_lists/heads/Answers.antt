use Rattle.std.proofs.Common.{rules, of_calls, map, Ok}
use Rattle.jj_dag.proofs.Errors.{if_fails, if_ok}
use Rattle.jj_dag.specs.ListOrError.{IteratesOver}
use Rattle.jj_dag.proofs.ClosureGraphs.{each_model, implements_outside, input_error, may_return_inside}
use Rattle.jj_dag.proofs.ListsOrErrors.{callable_listed, ends_listed, error_yielded, list_yielded}
use Rattle.jj_dag.proofs.Wrapped.{drains_ok, none_fails}
use Rattle.jj_dag.proofs.maximal_lists.heads.Goals as goal

pub heads_ok-requires-clause-graph : goal.heads_ok-requires-clause-graph
heads_ok-requires-clause-graph g c = record {
  id_fn = c.requires.graph.id_fn;
  neighbors_fn = callable_listed g.N.FnMut g.NI.IntoIterator.into_iter_gives g.NI.IntoIter.Iterator.next_gives _ (λ f. f.0)
      (λ f a r after h. search (rules, of_calls, h)) (λ f a k. search (rules, k)) _ c.requires.graph.neighbors_fn;
  lists = ends_listed g.N.FnMut g.NI.IntoIterator.into_iter_gives g.NI.IntoIter.Iterator.next_gives _ (λ f. f.0)
      (λ f a r after h. search (rules, of_calls, h)) g.NI.IntoIter.Iterator.can_next g.NI.IntoIter.Iterator.remaining _ c.requires.graph.lists;
}

pub returns-clause-heads : goal.returns-clause-heads
returns-clause-heads g c =
    let becomes = g.NI.IntoIterator.into_iter_gives in
    let steps = g.NI.IntoIter.Iterator.next_gives in
    if_ok c.heads_ok.result c.heads_ok.ensures.heads (λ heads p. each_model p
    (λ w k. implements_outside _ g.N.FnMut (λ f. f.0) (IteratesOver becomes) (λ f a r after h. search (rules, of_calls, h)) g.ID.PartialEq.eq g.F.Fn _ _
    (λ n r xs h. list_yielded becomes steps n r h xs) w _ _ k)
    (λ xs d. drains_ok _ g.II.IntoIterator.into_iter_gives g.II.IntoIter.Iterator.next_gives c.args.start _ c.into_iter.ensures.into_iter_gives xs d))

pub returns-clause-error : goal.returns-clause-error
returns-clause-error g c =
    let becomes = g.NI.IntoIterator.into_iter_gives in
    let steps = g.NI.IntoIter.Iterator.next_gives in
    if_fails c.heads_ok.result c.heads_ok.ensures.error (λ error q. input_error q
    (λ w k. implements_outside _ g.N.FnMut (λ f. f.0) (IteratesOver becomes) (λ f a r after h. search (rules, of_calls, h)) g.ID.PartialEq.eq g.F.Fn _ _
    (λ n r xs h. list_yielded becomes steps n r h xs) w _ _ k)
    (λ x (r, may, fails).
    let t = may_return_inside _ g.N.FnMut (λ f. f.0) (IteratesOver becomes) (λ f a r after h. search (rules, of_calls, h)) _ x r may in
    (t.0, t.1, error_yielded becomes steps t.0 r t.2 error fails))
    (λ xs d. drains_ok _ g.II.IntoIterator.into_iter_gives g.II.IntoIter.Iterator.next_gives c.args.start _ c.into_iter.ensures.into_iter_gives xs d)
    (λ (xs, begins). absurd (none_fails g.II.IntoIterator.into_iter_gives g.II.IntoIter.Iterator.next_gives _ (map (λ x. Ok x) xs) error begins)))
