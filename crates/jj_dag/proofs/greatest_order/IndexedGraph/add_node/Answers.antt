use Rattle.std.proofs.Common.{rules}
use Rattle.jj_dag.proofs.greatest_order.IndexedGraph.add_node.Goals as goal

pub returns-clause-nodes : goal.returns-clause-nodes
returns-clause-nodes g c = search rules

pub returns-clause-ids : goal.returns-clause-ids
returns-clause-ids g c = search rules

pub returns-clause-indices : goal.returns-clause-indices
returns-clause-indices g c = search rules
