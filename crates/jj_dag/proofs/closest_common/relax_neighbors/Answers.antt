use Rattle.std.proofs.Common.{of_calls}
use Rattle.jj_dag.proofs.Walking.{AlwaysReturns-call}
use Rattle.jj_dag.proofs.closest_common.relax_neighbors.Goals as goal

pub relax_all-requires-clause-nodes : goal.relax_all-requires-clause-nodes
relax_all-requires-clause-nodes g c = rw c.in-Ok.is at (AlwaysReturns-call g.N.FnMut _ c.requires.lists c.neighbors_fn.ensures).0

pub returns-in_err-relax_all-in-Ok-clause-graph : goal.returns-in_err-relax_all-in-Ok-clause-graph
returns-in_err-relax_all-in-Ok-clause-graph g c = record { id_fn = c.requires.id_fn; neighbors_fn = search of_calls; lists = (AlwaysReturns-call g.N.FnMut _ c.requires.lists c.neighbors_fn.ensures).1 }

pub returns-in_ok-relax_all-in-Ok-clause-graph : goal.returns-in_ok-relax_all-in-Ok-clause-graph
returns-in_ok-relax_all-in-Ok-clause-graph g c = record { id_fn = c.requires.id_fn; neighbors_fn = search of_calls; lists = (AlwaysReturns-call g.N.FnMut _ c.requires.lists c.neighbors_fn.ensures).1 }

pub returns-in-Err-clause-graph : goal.returns-in-Err-clause-graph
returns-in-Err-clause-graph g c = record { id_fn = c.requires.id_fn; neighbors_fn = search of_calls; lists = (AlwaysReturns-call g.N.FnMut _ c.requires.lists c.neighbors_fn.ensures).1 }
