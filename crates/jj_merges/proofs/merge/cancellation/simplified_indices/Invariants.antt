use Rattle.std.proofs.Common.{◌-◌, length}
use Rattle.jj_merges.specs.Simplify.{equal_at}
use Rattle.jj_merges.proofs.Cancellation.{simplified_sides}
use Rattle.jj_merges.proofs.CancelLoop.{LoopInvariant}
use Rattle.jj_merges.proofs.merge.cancellation.simplified_indices.Given as goal

abbrev pub invariant-loop-add_at : goal.invariant-loop-add_at
invariant-loop-add_at g l =
    LoopInvariant (equal_at g.T.PartialEq.eq l.values) (length l.values) (simplified_sides g.T.PartialEq.eq l.values) l.add_at (record { adds = l.adds.items; removes = l.removes.items })

abbrev pub decreases-loop-add_at : goal.decreases-loop-add_at
decreases-loop-add_at g l = length l.adds.items - l.add_at
