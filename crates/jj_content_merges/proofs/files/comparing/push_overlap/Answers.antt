use Rattle.std.proofs.Common.{ℕ, List, [], ◌∷◌, arith, subst, sym}
use Rattle.jj_diff.specs.Tokens.{is_line_end}
use Rattle.jj_content_merges.specs.Comparisons.{IsAt, IsBeforeEnds, IsSwept, matched_offset}
use Rattle.jj_content_merges.specs.Rows.{rows_of, IsNextRow, IsPrefixSplit}
use Rattle.jj_content_merges.proofs.Comparing.{no_overlap, overlapped, reached_by}
use Rattle.jj_content_merges.proofs.files.comparing.push_overlap.Goals as goal

pub push_to-requires-clause-reached : goal.push_to-requires-clause-reached
push_to-requires-clause-reached c =
    reached_by c.args.left.now.inputs.1.now c.args.left.now.inputs.0.now c.args.right.now.inputs.1.now c.args.left.now.hunks.items c.args.right.now.hunks.items
    c.args.left.now.index c.args.right.now.index (rows_of c.args.splitter.now.rows.items) c.args.splitter.now.at.items c.requires.swept
    c.in-Some.start (omega (arith, c.requires.left.base_start, c.in-Some.ensures.left.1))
    (omega (arith, c.requires.right.base_start, c.in-Some.ensures.right.1))

pub returns-in-None : goal.returns-in-None
returns-in-None c = record {
  swept = no_overlap c.args.left.now.inputs.1.now c.args.left.now.inputs.0.now c.args.right.now.inputs.1.now c.args.left.now.hunks.items c.args.right.now.hunks.items
      c.args.left.now.index c.args.right.now.index (rows_of c.args.splitter.now.rows.items) c.args.splitter.now.at.items c.requires.swept
      (λ k left right left_end right_end. c.in-None.ensures.none k (omega (arith, c.requires.left.base_start, left))
      (omega (arith, c.requires.right.base_start, right)) left_end right_end);
}

pub returns-in_ok-push_to-in-Some-2 : goal.returns-in_ok-push_to-in-Some-2
returns-in_ok-push_to-in-Some-2 c =
    let terms : List (List ℕ) = c.args.left.now.inputs.1.now ∷ c.args.left.now.inputs.0.now ∷ c.args.right.now.inputs.1.now ∷ [] in
    let before : List (List (List ℕ)) = rows_of c.args.splitter.now.rows.items in
    let middle : List (List (List ℕ)) = rows_of c.push_to.new.splitter.rows.items in
    let after : List (List (List ℕ)) = rows_of c.push_to-in-Some.new.splitter.rows.items in
    let last : List ℕ = matched_offset c.args.left.now.hunks.items c.args.left.now.index c.in-Some.end ∷ c.in-Some.end
    ∷ matched_offset c.args.right.now.hunks.items c.args.right.now.index c.in-Some.end ∷ [] in
    let first : _ = c.in_ok-push_to-in-Some.ensures in
    let second : _ = c.in_ok-push_to-in-Some-2.ensures in record {
      swept = subst (IsSwept c.args.left.now.inputs.1.now c.args.left.now.inputs.0.now c.args.right.now.inputs.1.now c.args.left.now.hunks.items c.args.right.now.hunks.items
          c.args.left.now.index c.args.right.now.index (IsBeforeEnds c.args.left.now.hunks.items c.args.right.now.hunks.items c.args.left.now.index c.args.right.now.index) after) (sym second.at)
          (overlapped c.args.left.now.inputs.1.now c.args.left.now.inputs.0.now c.args.right.now.inputs.1.now c.args.left.now.hunks.items c.args.right.now.hunks.items
          c.args.left.now.index c.args.right.now.index before c.args.splitter.now.at.items c.requires.swept
          c.args.left.now.base c.args.left.now.other c.args.right.now.base c.args.right.now.other c.in-Some.start c.in-Some.end c.requires.left
          (subst (λ base. IsAt base c.args.right.now.inputs.1.now c.args.right.now.hunks.items c.args.right.now.index c.args.right.now.base c.args.right.now.other) c.requires.base c.requires.right)
          c.requires.left_index c.requires.right_index c.in-Some.ensures.some c.in-Some.ensures.left c.in-Some.ensures.right
          c.in-Some.ensures.start c.in-Some.ensures.end middle after
          (subst (IsPrefixSplit is_line_end terms middle) first.at first.split)
          (subst (λ ends. IsNextRow terms before c.args.splitter.now.at.items ends middle) first.at first.rows)
          (subst (IsPrefixSplit is_line_end terms after) second.at second.split)
          (subst (λ starts. IsNextRow terms middle starts last after) first.at
          (subst (λ ends. IsNextRow terms middle c.push_to.new.splitter.at.items ends after) second.at second.rows)));
    }
