use Rattle.std.proofs.Common.{◌∙◌, ap, inr, length, sym}
use Rattle.jj_history_merges.proofs.merging.merge_sides.Goals as goal

pub merge_files-requires : goal.merge_files-requires
merge_files-requires g c = inr (ap length c.in_ok-labels.ensures ∙ sym (ap length c.in_ok-trees.ensures))

pub returns-clause-outcomes : goal.returns-clause-outcomes
returns-clause-outcomes g c = c.in_ok-files.ensures.outcomes

pub returns-clause-tree : goal.returns-clause-tree
returns-clause-tree g c = c.in_ok-files.ensures.tree
