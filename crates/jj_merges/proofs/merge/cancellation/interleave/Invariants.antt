use Rattle.std.proofs.Common.{◌≡◌, take}
use Rattle.jj_merges.specs.Merge as merge
use Rattle.jj_merges.proofs.merge.cancellation.interleave.Given as goal

abbrev pub invariant-loop-position : goal.invariant-loop-position
invariant-loop-position l = l.indices.items ≡ merge.interleave (take l.position l.adds) (take l.position l.removes)
