use Rattle.std.proofs.Common.{List, subst}
use Rattle.jj_store_walks.specs.declared.read_commit.ReadCommit.{ReadCommit}
use Rattle.jj_history_commands.specs.FoundObjects.{HasTrees}
use Rattle.jj_history_commands.proofs.KnownObjects.{among_later}
use Rattle.jj_history_commands.proofs.checks.check_history.Goals as goal

pub returns : goal.returns
returns g c =
    let commits = c.in_ok-commits.commits.items in
    let roots = c.add_root_trees.new.trees.items in
    let trees = c.check_trees.new.trees.items in
    let found = subst (λ (reads : List ReadCommit). HasTrees roots reads) c.deref.ensures.value c.in_ok-add_root_trees.ensures.found in
    record { whole = (commits, trees, c.in_ok-commits.ensures.order, (λ k d within. among_later roots trees _ c.in_ok-files.ensures.prefix (found k d within)), c.in_ok-files.ensures.whole) }
