use Rattle.std.proofs.Common.{◌∙◌, ap}
use Rattle.jj_backend.proofs.MergedTreeValues.{values-same}
use Rattle.jj_backend.specs.MergedTreeValues.{are_trees}
use Rattle.jj_backend_tests.proofs.tree_callers.are_all_trees.Goals as goal

pub returns : goal.returns
returns c = c.is_tree.ensures ∙ ap are_trees (values-same c.args.values.now)
