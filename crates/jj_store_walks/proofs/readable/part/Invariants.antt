-- The commits and the errors so far.
use Rattle.std.proofs.Common.{◌≡◌}
use Rattle.jj_dag.specs.FallibleGraphs.{ok_items}
use Rattle.jj_store_walks.specs.Histories.{found_errors}
use Rattle.jj_store_walks.proofs.readable.part.Given as goal

abbrev pub invariant-loop-item : goal.invariant-loop-item
invariant-loop-item l = record {
  can : goal.iterator-loop-item.can_next l.item-iterator;
  finite : goal.iterator-loop-item.is_finite l.item-iterator;
  commits : l.commits.items ≡ ok_items l.yielded;
  errors : l.errors.items ≡ found_errors l.yielded;
}
