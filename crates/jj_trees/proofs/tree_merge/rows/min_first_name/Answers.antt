use Rattle.std.proofs.Common.{◌<◌, length, arith}
use Rattle.jj_backend.specs.Trees.{entries_left}
use Rattle.jj_trees.proofs.PassedNames.{least_more}
use Rattle.jj_trees.proofs.tree_merge.rows.min_first_name.Goals as goal

pub loop-remaining-preserved : goal.loop-remaining-preserved
loop-remaining-preserved c =
    let within : c.loop-remaining.remaining-index < length c.args.remaining_lists.now = omega arith in
    least_more entries_left c.args.remaining_lists.now c.loop-remaining.remaining-index c.remaining-item.result within c.remaining-item.is _ _ _
    c.min_name-least.ensures c.first_name.ensures c.loop-remaining.invariant
