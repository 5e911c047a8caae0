use Rattle.jj_walks.proofs.WholeGroupedRuns.{fails-for-cause, yields-grouped-orders}
use Rattle.jj_walks.proofs.laws.grouped_graphs_yield_grouped_orders.Goals as goal

pub returns : goal.returns
returns g c = record {
  order = yields-grouped-orders g.F.Fn g.ID.PartialEq.eq g.S.Iterator.next_gives g.met.ID.Eq.laws;
  error = fails-for-cause g.F.Fn g.ID.PartialEq.eq g.S.Iterator.next_gives g.met.ID.Eq.laws;
}
