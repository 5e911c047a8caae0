use Rattle.jj_tree_builder.proofs.EntryMaps.{pushed_below}
use Rattle.jj_tree_builder.proofs.tree_builder.push_change.Goals as goal

pub returns : goal.returns
returns c =
    pushed_below c.args.below.now c.take_changes-changes.new.below c.insert.new.self c.args.name c.push.new.self c.take_changes-changes.result c.args.change
    c.take_changes-changes.ensures.changes c.in_ok-push.ensures.items c.take_changes-changes.ensures.others c.in_ok-insert.ensures.updates.0
