-- The rows so far.
use Rattle.std.proofs.Common.{◌≡◌, [], map}
use Rattle.jj_walks.specs.PendingNodes.{listed_item}
use Rattle.jj_log.specs.Columns.{AreRows, node_of_row}
use Rattle.jj_log.proofs.layout.rows.Given as goal

abbrev pub invariant-loop-node : goal.invariant-loop-node
invariant-loop-node l = record {
  can : goal.iterator-loop-node.can_next l.node-iterator;
  finite : goal.iterator-loop-node.is_finite l.node-iterator;
  nodes : map node_of_row l.rows.items ≡ map listed_item l.yielded;
  columns : AreRows l.max_columns [] l.rows.items l.columns.items;
}
