use Rattle.std.proofs.Common.{sym, subst, arith}
use Rattle.std.specs.Prelude.{All}
use Rattle.jj_diff_presentation.specs.Lines.{split_lines}
use Rattle.jj_diff_presentation.specs.Hunks.{HasRanges}
use Rattle.jj_diff_presentation.proofs.RoundTrip.{IsSmall, small_lines, patch_ranges}
use Rattle.jj_diff_presentation.proofs.unified.word_hunks.write_word_diff_hunks.Goals as goal

pub text_of_hunks-requires : goal.text_of_hunks-requires
text_of_hunks-requires c =
    let small : IsSmall (split_lines c.args.left.now) (split_lines c.args.right.now)
    = small_lines c.args.left.now c.args.right.now (omega arith) (omega arith) in
    subst (All HasRanges) (sym c.deref.ensures.value)
    (patch_ranges (split_lines c.args.left.now) (split_lines c.args.right.now) 0 0
    c.in_ok-hunks.hunks.items small c.in_ok-hunks.ensures.patch)
