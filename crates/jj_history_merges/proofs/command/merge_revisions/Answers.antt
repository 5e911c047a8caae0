use Rattle.jj_history_merges.proofs.command.merge_revisions.Goals as goal

pub returns : goal.returns
returns g c =
    let merge = c.in_ok-merge.merge in
    record { parents = (c.in_ok-left.left, c.in_ok-right.right, merge.files.tree, c.in_ok-left.ensures.commit, c.in_ok-right.ensures.commit, c.in_ok-merge.ensures.commit) }
