use Rattle.std.proofs.Common.{◌≤◌, arith, length, subst, sym}
use Rattle.jj_diff.specs.Tokens.{is_line_end, IsCut}
use Rattle.jj_content_merges.proofs.Comparing.{behind_le, end_within, matched_within, same_cut, three_cuts, three_ranges}
use Rattle.jj_content_merges.proofs.files.comparing.push_to.Goals as goal

pub advance-requires-clause-ranges : goal.advance-requires-clause-ranges
advance-requires-clause-ranges c =
    let left_within : c.args.offset ≤ length c.args.left.now.inputs.0.now =
    omega (
      arith,
      c.requires.left.end,
      end_within c.args.left.now.inputs.0.now c.args.left.now.inputs.1.now c.args.left.now.hunks.items c.args.left.now.index
          c.args.left.now.base c.args.left.now.other c.requires.left.at c.requires.left.index c.requires.left.matching 0 (omega arith),
    ) in
    three_ranges c.args.left.now.inputs.1.now c.args.left.now.inputs.0.now c.args.right.now.inputs.1.now
    c.args.splitter.now.at.items c.other_at.result c.args.offset c.other_at-2.result
    (omega (
      arith,
      c.other_at.ensures,
      behind_le c.args.left.now.hunks.items c.args.left.now.index _ _ c.args.offset c.requires.left_behind c.requires.reached c.requires.left.start,
    ))
    c.requires.reached
    (omega (
      arith,
      c.other_at-2.ensures,
      behind_le c.args.right.now.hunks.items c.args.right.now.index _ _ c.args.offset c.requires.right_behind c.requires.reached c.requires.right.start,
    ))
    (omega (
      arith,
      c.other_at.ensures,
      matched_within c.args.left.now.inputs.0.now c.args.left.now.inputs.1.now c.args.left.now.hunks.items c.args.left.now.index
          c.args.left.now.base c.args.left.now.other c.requires.left.at c.requires.left.index c.requires.left.matching
          c.args.offset c.requires.left.start c.requires.left.end,
    ))
    left_within
    (omega (
      arith,
      c.other_at-2.ensures,
      matched_within c.args.right.now.inputs.0.now c.args.right.now.inputs.1.now c.args.right.now.hunks.items c.args.right.now.index
          c.args.right.now.base c.args.right.now.other c.requires.right.at c.requires.right.index c.requires.right.matching
          c.args.offset c.requires.right.start c.requires.right.end,
    ))
    c.requires.split.len

pub advance-requires-clause-cuts : goal.advance-requires-clause-cuts
advance-requires-clause-cuts c =
    three_cuts c.args.left.now.inputs.1.now c.args.left.now.inputs.0.now c.args.right.now.inputs.1.now
    c.other_at.result c.args.offset c.other_at-2.result
    (subst (IsCut is_line_end c.args.left.now.inputs.1.now) (sym c.other_at.ensures)
    (same_cut c.args.left.now.inputs.0.now c.args.left.now.inputs.1.now c.args.left.now.hunks.items c.args.left.now.index
    c.args.left.now.base c.args.left.now.other c.requires.left.at c.requires.left.index c.requires.left.matching
    c.args.offset c.requires.left.start c.requires.left.end c.requires.cut))
    c.requires.cut
    (subst (IsCut is_line_end c.args.right.now.inputs.1.now) (sym c.other_at-2.ensures)
    (same_cut c.args.right.now.inputs.0.now c.args.right.now.inputs.1.now c.args.right.now.hunks.items c.args.right.now.index
    c.args.right.now.base c.args.right.now.other c.requires.right.at c.requires.right.index c.requires.right.matching
    c.args.offset c.requires.right.start c.requires.right.end
    (subst (λ base. IsCut is_line_end base c.args.offset) (sym c.requires.base) c.requires.cut)))
