use Rattle.std.proofs.Common.{arith, ◌≡◌, ◌∙◌, true, true≢false, sym}
use Rattle.jj_log.specs.Numbers.{is_visible}
use Rattle.jj_log.proofs.grouping.push_visible.Goals as goal

pub returns : goal.returns
returns c =
    let yes : is_visible c.args.commits.now c.args.number ≡ true = grind (arith) in
    record {
      visible = λ k. (c.in_ok-edges.edges, c.in_ok-push.ensures.items, c.in_ok-edges.ensures);
      hidden = λ no. absurd (true≢false (sym yes ∙ no));
    }
