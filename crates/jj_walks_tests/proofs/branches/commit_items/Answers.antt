use Rattle.jj_walks_tests.proofs.Grouping.{shown-push}
use Rattle.jj_walks_tests.proofs.branches.commit_items.Goals as goal

pub loop-commit-preserved : goal.loop-commit-preserved
loop-commit-preserved c =
    let before = c.loop-commit.invariant in
    shown-push c.args.commits.now c.loop-commit.commit-index before.0 c.loop-commit.items.items c.push.new.self.items _ c.in_ok-edges.edges c.in_ok-push.ensures.items c.loop-commit-test.true c.commit-item.is
    c.in_ok-edges.ensures before.1 before.2
