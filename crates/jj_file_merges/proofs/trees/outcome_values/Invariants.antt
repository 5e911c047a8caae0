use Rattle.std.proofs.Common.{◌≡◌, map, take}
use Rattle.jj_file_merges.specs.MergedTrees.{outcome_value}
use Rattle.jj_file_merges.proofs.trees.outcome_values.Given as goal

abbrev pub invariant-loop-outcome : goal.invariant-loop-outcome
invariant-loop-outcome l = l.values.items ≡ map outcome_value (take l.outcome-index l.outcomes)
