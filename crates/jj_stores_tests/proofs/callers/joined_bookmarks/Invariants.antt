-- The collected rows, followed by the remaining ones, are the join.
use Rattle.std.proofs.Common.{◌++◌, map}
use Rattle.jj_stores.specs.JoinRows.{AreRemainingRows}
use Rattle.jj_stores.specs.JoinSteps.{row_of}
use Rattle.jj_stores.specs.ViewJoins.{IsViewJoin}
use Rattle.jj_stores_tests.proofs.callers.joined_bookmarks.Given as goal

abbrev pub invariant-loop-row : goal.invariant-loop-row
invariant-loop-row l = record {
  can : goal.iterator-loop-row.can_next l.row-iterator;
  ends : goal.iterator-loop-row.is_finite l.row-iterator;
  join : (rest : _) → AreRemainingRows l.row-iterator rest → IsViewJoin l.fn.view.local_bookmarks.entries
      (map (λ remote. (remote.0, remote.1.bookmarks.entries)) l.fn.view.remote_views.entries)
      (map row_of l.rows.items ++ rest);
}
