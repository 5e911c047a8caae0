use Rattle.std.proofs.Common.{◌≤◌, ◌+◌, length, get_or, subst}
use Rattle.jj_diff.proofs.Rows.{none_at}
use Rattle.jj_diff.proofs.diff.rows.sums.Goals as goal

pub offset_after-requires : goal.offset_after-requires
offset_after-requires c =
    subst (λ xs. get_or c.args.starts.now c.loop-index.index 0 + get_or c.args.offsets.now c.loop-index.index 0 ≤ length xs) (none_at c.args.inputs.now c.loop-index.index)
    (c.requires.within c.loop-index.index c.loop-index-test.true)
