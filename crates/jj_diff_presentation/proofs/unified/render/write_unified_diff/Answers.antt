use Rattle.std.proofs.Common.{sym, ap, ◌∙◌, subst, arith}
use Rattle.std.specs.Prelude.{All}
use Rattle.jj_diff_presentation.specs.Lines.{split_lines}
use Rattle.jj_diff_presentation.specs.Hunks.{HasRanges}
use Rattle.jj_diff_presentation.specs.PatchText.{diff_text}
use Rattle.jj_diff_presentation.specs.Applying.{applied}
use Rattle.jj_diff_presentation.proofs.RoundTrip.{IsSmall, small_lines, patch_ranges, round_trip}
use Rattle.jj_diff_presentation.proofs.unified.render.write_unified_diff.Goals as goal

pub text_of_hunks-requires : goal.text_of_hunks-requires
text_of_hunks-requires c =
    let small : IsSmall (split_lines c.args.left.now) (split_lines c.args.right.now)
    = small_lines c.args.left.now c.args.right.now (omega arith) (omega arith) in
    subst (All HasRanges) (sym c.deref.ensures.value)
    (patch_ranges (split_lines c.args.left.now) (split_lines c.args.right.now) 0 0
    c.in_ok-hunks.hunks.items small c.in_ok-hunks.ensures.patch)

pub returns-clause-round_trip : goal.returns-clause-round_trip
returns-clause-round_trip c =
    let small : IsSmall (split_lines c.args.left.now) (split_lines c.args.right.now)
    = small_lines c.args.left.now c.args.right.now (omega arith) (omega arith) in
    ap (applied c.args.left.now)
    (c.in_ok-text.ensures ∙ ap (diff_text c.args.path.now) c.deref.ensures.value)
    ∙ round_trip c.args.path.now c.args.left.now c.args.right.now c.in_ok-hunks.hunks.items
    small c.in_ok-hunks.ensures.patch

pub returns-clause-identity : goal.returns-clause-identity
returns-clause-identity c = λ e.
    c.in_ok-text.ensures
    ∙ ap (diff_text c.args.path.now) (c.deref.ensures.value ∙ c.in_ok-hunks.ensures.identity e)
