use Rattle.std.proofs.Common.{◌+◌, length}
use Rattle.jj_stores_tests.specs.MemoryStores.{by_id, has_id}
use Rattle.jj_stores_tests.proofs.Marking.{Marking, unmarked}
use Rattle.jj_stores_tests.proofs.garbage.mark.Given as goal

abbrev pub invariant-loop-id : goal.invariant-loop-id
invariant-loop-id l = Marking (by_id l.operations.entries) l.initial.pending.items l.pending.items (has_id l.marked.operations) (has_id l.marked.views)

abbrev pub decreases-loop-id : goal.decreases-loop-id
decreases-loop-id l = length l.pending.items + unmarked (has_id l.marked.operations) l.operations.entries
