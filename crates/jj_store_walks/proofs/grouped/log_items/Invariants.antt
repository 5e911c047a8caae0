-- The commits with their edges so far.
use Rattle.jj_store_walks.specs.Logs.{AreLogItems}
use Rattle.jj_store_walks.proofs.grouped.log_items.Given as goal

abbrev pub invariant-loop-commit : goal.invariant-loop-commit
invariant-loop-commit l = record {
  can : goal.iterator-loop-commit.can_next l.commit-iterator;
  finite : goal.iterator-loop-commit.is_finite l.commit-iterator;
  items : AreLogItems l.yielded l.items.items;
}
