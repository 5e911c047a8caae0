use Rattle.std.proofs.Common.{◌≡◌, false, eqb, length, ℕ}
use Rattle.std.specs.Vec.Iter.{into_iter_items, into_iter_len}
use denote.Ref.{Bor}
use Rattle.jj_walks.specs.Grouped.{History}
use Rattle.jj_walks.specs.PendingNodes.{Keeps}
use Rattle.jj_walks_tests.specs.declared.commits.Commit.{Commit}
use Rattle.jj_walks_tests.proofs.Grouping.{IsRun}
use Rattle.jj_walks_tests.proofs.branches.grouped_commits.Given as goal

abbrev pub invariant-loop-item : goal.invariant-loop-item
invariant-loop-item l = record {
  can : goal.iterator-loop-item.can_next l.item-iterator;
  finite : goal.iterator-loop-item.is_finite l.item-iterator;
  goes_on : l.item-iterator.has_ended ≡ false;
  good : into_iter_len l.item-iterator.graph.input ≡ length (into_iter_items l.item-iterator.graph.input);
  run : (h : History (Bor Commit) ℕ) × Keeps eqb h l.item-iterator.graph.pending × IsRun l.fn.commits l.fn.required h (into_iter_items l.item-iterator.graph.input) l.order.items;
}
