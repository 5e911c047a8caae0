use Rattle.std.proofs.Common.{arith, ◌≡◌, ◌+◌, ◌-◌, suc, length, drop, subst}
use Rattle.std.proofs.Math.Seq.{drop-cons}
use Rattle.jj_log.specs.Columns.{SettlesAll}
use Rattle.jj_log.proofs.Settling.{settles_more}
use Rattle.jj_log.proofs.layout.settle_all.Goals as goal

pub loop-offset-preserved : goal.loop-offset-preserved
loop-offset-preserved c =
    let edges = c.args.edges.now in
    let i = length edges - 1 - c.loop-offset.offset in
    let next : length edges - c.loop-offset.offset ≡ suc i = omega (arith, c.loop-offset-test.true) in
    let here : i ≡ length edges - (c.loop-offset.offset + 1) = omega arith in
    subst (λ k. SettlesAll c.args.left.now (drop k edges) c.args.right.now.items c.settle.new.right.items) here
    (settles_more c.args.left.now (drop i edges) (drop (suc i) edges) _ c.args.right.now.items c.loop-offset.right.items c.settle.new.right.items (drop-cons edges i _ (omega (arith, c.loop-offset-test.true)))
    (subst (λ k. SettlesAll c.args.left.now (drop k edges) c.args.right.now.items c.loop-offset.right.items) next c.loop-offset.invariant) c.in_ok-end.ensures)
