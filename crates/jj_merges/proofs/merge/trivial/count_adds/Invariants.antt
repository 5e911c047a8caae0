use Rattle.std.proofs.Common.{◌≡◌, ◌≤◌, take}
use Rattle.std.specs.Prelude.{count_by}
use Rattle.jj_merges.specs.Merge as merge
use Rattle.jj_merges.proofs.merge.trivial.count_adds.Given as goal

abbrev pub invariant-loop-index : goal.invariant-loop-index
invariant-loop-index g l = (l.count ≡ count_by (g.T.PartialEq.eq l.value) (merge.adds (take l.index l.values))) × (l.count ≤ l.index)
