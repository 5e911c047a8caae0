use Rattle.std.proofs.Common.{◌+◌, ◌<◌, ◌≤◌, length, subst, sym, ap, ◌∙◌, arith, refl}
use Rattle.jj_diff_presentation.specs.Scripts.{left_lines, right_lines}
use Rattle.jj_diff_presentation.specs.Hunks.{leading_context}
use Rattle.jj_diff_presentation.proofs.Grouping.{IsGrouped, grouped_first, grouped_step, grouped_last, ends_bounded}
use Rattle.jj_diff_presentation.proofs.Runs.{leading_drop, leading_all}
use Rattle.jj_diff_presentation.proofs.unified.hunks.group_diff_lines.Goals as goal

pub hunks-init : goal.hunks-init
hunks-init c = record {
  grouped = subst (IsGrouped (left_lines c.args.lines.now) (right_lines c.args.lines.now)
      c.args.context 0 0 c.args.lines.now) (sym c.new-hunks.ensures.items)
      (grouped_first c.args.lines.now c.args.context);
  left = omega arith;
  right = omega arith;
  identity = λ all. (c.new-hunks.ensures.items, refl);
}

pub count_hunk_lines-len-requires-clause-change : goal.count_hunk_lines-len-requires-clause-change
count_hunk_lines-len-requires-clause-change c =
    omega (
      arith,
      ap leading_context c.suffix-from.ensures,
      c.count_leading_context-skipped.ensures.count,
      leading_drop c.hunks.rest.now c.saturating_sub-before.result
          (omega (arith, c.count_leading_context-skipped.ensures.count)),
    )

pub hunks-preserved : goal.hunks-preserved
hunks-preserved c =
    let first : leading_context c.suffix-from.result.now < c.count_hunk_lines-len.result
    = omega (
      arith,
      c.count_hunk_lines-len.ensures.after,
      c.count_leading_context-skipped.ensures.count,
      ap leading_context c.suffix-from.ensures,
      leading_drop c.hunks.rest.now c.saturating_sub-before.result
          (omega (arith, c.count_leading_context-skipped.ensures.count)),
    ) in
    let bounds : (c.in_ok-hunk.hunk.left_line_range.end + length c.suffix-rest.result.now
    ≤ length c.args.lines.now) × (c.in_ok-hunk.hunk.right_line_range.end
    + length c.suffix-rest.result.now ≤ length c.args.lines.now)
    = ends_bounded (length c.args.lines.now) c.hunks.left c.hunks.right
    c.in_ok-hunk.hunk.left_line_range.start c.in_ok-hunk.hunk.right_line_range.start
    c.in_ok-hunk.hunk.left_line_range.end c.in_ok-hunk.hunk.right_line_range.end
    c.saturating_sub-before.result c.count_hunk_lines-len.result c.hunks.rest.now
    c.suffix-from.result.now c.prefix-own.result.now c.suffix-rest.result.now
    c.in_ok-hunk.hunk.lines.items c.hunks.invariant.left c.hunks.invariant.right (omega arith)
    c.suffix-from.ensures c.prefix-own.ensures c.suffix-rest.ensures
    c.count_hunk_lines-len.ensures.within c.in_ok-hunk.ensures.lines
    c.in_ok-hunk.ensures.left_start c.in_ok-hunk.ensures.right_start
    c.in_ok-hunk.ensures.left_end c.in_ok-hunk.ensures.right_end in
    record {
      grouped = grouped_step (left_lines c.args.lines.now) (right_lines c.args.lines.now)
          c.args.context c.hunks.left c.hunks.right c.hunks.rest.now c.suffix-from.result.now
          c.prefix-own.result.now c.suffix-rest.result.now c.hunks.hunks.items
          c.push.new.self.items c.in_ok-hunk.hunk c.saturating_sub-before.result
          c.count_hunk_lines-len.result c.hunks.invariant.grouped
          (omega (arith, c.count_leading_context-skipped.ensures.count))
          (omega (arith, c.count_leading_context-skipped.ensures.count))
          c.suffix-from.ensures c.prefix-own.ensures c.suffix-rest.ensures
          c.in_ok-push.ensures.items first c.count_hunk_lines-len.ensures.within
          c.count_hunk_lines-len.ensures.end c.in_ok-hunk.ensures.lines
          c.in_ok-hunk.ensures.left_start c.in_ok-hunk.ensures.right_start
          c.in_ok-hunk.ensures.left_end c.in_ok-hunk.ensures.right_end;
      left = bounds.0;
      right = bounds.1;
      identity = λ all. absurd (omega (
        arith,
        c.count_leading_context-skipped.ensures.count,
        leading_all c.args.lines.now all,
        ap leading_context (c.hunks.invariant.identity all).1,
        ap length (c.hunks.invariant.identity all).1,
      ));
    }

pub returns-then-skipped-rest-clause-patch : goal.returns-then-skipped-rest-clause-patch
returns-then-skipped-rest-clause-patch c =
    (grouped_last (left_lines c.args.lines.now) (right_lines c.args.lines.now) c.args.context
    c.hunks.left c.hunks.right c.hunks.rest.now c.hunks.hunks.items c.hunks.invariant.grouped
    (sym c.count_leading_context-skipped.ensures.count ∙ c.if-skipped-rest.true)).0

pub returns-then-skipped-rest-clause-context : goal.returns-then-skipped-rest-clause-context
returns-then-skipped-rest-clause-context c =
    (grouped_last (left_lines c.args.lines.now) (right_lines c.args.lines.now) c.args.context
    c.hunks.left c.hunks.right c.hunks.rest.now c.hunks.hunks.items c.hunks.invariant.grouped
    (sym c.count_leading_context-skipped.ensures.count ∙ c.if-skipped-rest.true)).1

pub returns-then-skipped-rest-clause-identity : goal.returns-then-skipped-rest-clause-identity
returns-then-skipped-rest-clause-identity c = λ all. (c.hunks.invariant.identity all).0
