use Rattle.std.proofs.Common.{◌≡◌, min, length, sym, ◌∙◌, arith}
use Rattle.jj_paths.proofs.StringOrders.{shorter_first}
use Rattle.jj_paths.proofs.repo_path.orders.cmp_slash_first.Goals as goal

pub returns : goal.returns
returns c =
    let at_end : c.loop-i.i ≡ min (length c.args.mine.now) (length c.args.theirs.now) = omega (arith, c.min-i-end.ensures, c.loop-i-test.false, c.loop-i.auto.i-end) in
    c.cmp.ensures ∙ sym (c.loop-i.invariant ∙ shorter_first c.args.mine.now c.args.theirs.now c.loop-i.i at_end)
