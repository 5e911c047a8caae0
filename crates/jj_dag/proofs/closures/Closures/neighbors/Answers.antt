use Rattle.std.proofs.Common.{of_calls, refl}
use Rattle.std.proofs.lemmas.Fn.{called_at}
use Rattle.jj_dag.specs.ClosureGraph.MayReturn.{at_once}
use Rattle.jj_dag.proofs.Expanding.{implements-call, implements-none}
use Rattle.jj_dag.proofs.Errors.{if_fails, if_ok}
use Rattle.jj_dag.proofs.Walking.{AlwaysReturns-call}
use Rattle.jj_dag.proofs.closures.Closures.neighbors.Goals as goal

pub collect_ok-requires : goal.collect_ok-requires
collect_ok-requires g c = (AlwaysReturns-call g.N.FnMut _ c.requires.lists c.neighbors_fn.ensures).0

pub returns : goal.returns
returns g c = record {
  graph = implements-call g.ID.PartialEq.eq g.F.Fn g.N.FnMut g.NI.IntoIterator g.NI.IntoIter.Iterator _ _ _ (implements-none g.ID.PartialEq.eq g.F.Fn g.N.FnMut g.NI.IntoIterator g.NI.IntoIter.Iterator _ c.requires)
      refl (search of_calls) (called_at g.N.FnMut c.neighbors_fn.ensures refl);
  listed = if_ok c.collect_ok.result c.collect_ok.ensures.nodes (λ v drained. λ walk implemented is_node.
      (AlwaysReturns-call g.N.FnMut _ implemented.neighbors c.neighbors_fn.ensures).0 v.items is_node drained);
  failed = if_fails c.collect_ok.result c.collect_ok.ensures.failed (λ error begins.
      (c.neighbors_fn.result, at_once (called_at g.N.FnMut c.neighbors_fn.ensures refl), begins));
}
