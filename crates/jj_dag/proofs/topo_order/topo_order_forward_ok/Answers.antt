use Rattle.std.proofs.Common.{inl, inr}
use Rattle.jj_dag.proofs.Wrapped.{cycle_says, failed_says}
use Rattle.jj_dag.proofs.topo_order.topo_order_forward_ok.Goals as goal

pub returns-in-Failed-clause-error : goal.returns-in-Failed-clause-error
returns-in-Failed-clause-error g c = inl (failed_says _ c.in-Err.stop c.in-Failed.error c.in-Failed.is c.in-Err.ensures.failed)

pub returns-in-Cycle-clause-error : goal.returns-in-Cycle-clause-error
returns-in-Cycle-clause-error g c = inr (record {
  node = c.in-Cycle.node;
  made_of = c.cycle_fn.ensures;
  on_cycle = cycle_says _ c.in-Err.stop c.in-Cycle.node c.in-Cycle.is c.in-Err.ensures.cycle;
})

pub walk_forward-requires-clause-graph : goal.walk_forward-requires-clause-graph
walk_forward-requires-clause-graph g c = record { id_fn = c.requires.graph.id_fn; neighbors_fn = c.requires.graph.neighbors_fn; lists = c.requires.graph.lists }
