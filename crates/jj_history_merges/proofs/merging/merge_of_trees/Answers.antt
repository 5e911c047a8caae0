use Rattle.std.proofs.Common.{◌∙◌}
use Rattle.jj_history_merges.proofs.Yielded.{listed_items, one_difference, pushed_first}
use Rattle.jj_history_merges.proofs.merging.merge_of_trees.Goals as goal

pub returns : goal.returns
returns c =
    let e = c.in_ok-merge.ensures in
    let diffs = c.push.new.self in
    e.4 ∙ one_difference _ _ _ c.new.result e.1
    (listed_items diffs.items e.0 e.1 e.2.0 (e.2.1 ∙ diffs.ok.0) e.3
    ∙ pushed_first c.new-diffs.result.items diffs.items c.new.result c.new-diffs.ensures.items c.in_ok-push.ensures.items)
    c.new.ensures.before c.new.ensures.after
