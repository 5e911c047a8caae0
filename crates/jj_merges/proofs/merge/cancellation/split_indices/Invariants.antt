use Rattle.std.proofs.Common.{◌≡◌}
use Rattle.jj_merges.specs.Simplify.{split_indices}
use Rattle.jj_merges.proofs.merge.cancellation.split_indices.Given as goal

abbrev pub invariant-loop-index : goal.invariant-loop-index
invariant-loop-index l = (l.adds.items ≡ (split_indices l.index).adds) × (l.removes.items ≡ (split_indices l.index).removes)
