use Rattle.jj_trees.proofs.MergedPaths.{outcome_not_root, outcomes_apart, prefix_free, within_levels}
use Rattle.jj_trees.proofs.laws.merged_path_laws.Goals as goal

pub returns-clause-not_root : goal.returns-clause-not_root
returns-clause-not_root c = outcome_not_root

pub returns-clause-apart : goal.returns-clause-apart
returns-clause-apart c = outcomes_apart

pub returns-clause-prefix_free : goal.returns-clause-prefix_free
returns-clause-prefix_free c = prefix_free

pub returns-clause-levels : goal.returns-clause-levels
returns-clause-levels c trees eq same_change values labels resolved conflicts chosen levels merge =
    within_levels trees eq same_change values labels resolved conflicts chosen merge levels
