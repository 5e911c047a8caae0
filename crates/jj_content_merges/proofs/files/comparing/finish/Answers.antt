use Rattle.std.proofs.Common.{[], ◌∷◌, length, subst}
use Rattle.jj_diff.specs.Tokens.{is_line_end}
use Rattle.jj_content_merges.specs.Comparisons.{IsAt}
use Rattle.jj_content_merges.specs.Rows.{rows_of, IsNextRow, IsPrefixSplit}
use Rattle.jj_content_merges.proofs.Comparing.{finished, three_limits}
use Rattle.jj_content_merges.proofs.Splitting.{ranges_to_ends, split_whole}
use Rattle.jj_content_merges.proofs.files.comparing.finish.Goals as goal

pub advance-requires-clause-ranges : goal.advance-requires-clause-ranges
advance-requires-clause-ranges c =
    ranges_to_ends is_line_end (c.args.left.now.inputs.1.now ∷ c.args.left.now.inputs.0.now ∷ c.args.right.now.inputs.1.now ∷ [])
    (rows_of c.args.splitter.rows.items) c.args.splitter.at.items (length c.args.left.now.inputs.1.now ∷ length c.args.left.now.inputs.0.now ∷ length c.args.right.now.inputs.1.now ∷ [])
    c.requires.swept.split (three_limits c.args.left.now.inputs.1.now c.args.left.now.inputs.0.now c.args.right.now.inputs.1.now)

pub returns-clause-split : goal.returns-clause-split
returns-clause-split c =
    split_whole is_line_end (c.args.left.now.inputs.1.now ∷ c.args.left.now.inputs.0.now ∷ c.args.right.now.inputs.1.now ∷ [])
    (rows_of c.advance.new.self.rows.items) (length c.args.left.now.inputs.1.now ∷ length c.args.left.now.inputs.0.now ∷ length c.args.right.now.inputs.1.now ∷ [])
    (subst (IsPrefixSplit is_line_end (c.args.left.now.inputs.1.now ∷ c.args.left.now.inputs.0.now ∷ c.args.right.now.inputs.1.now ∷ []) (rows_of c.advance.new.self.rows.items))
    c.in_ok-advance.ensures.at c.in_ok-advance.ensures.split)
    (three_limits c.args.left.now.inputs.1.now c.args.left.now.inputs.0.now c.args.right.now.inputs.1.now)

pub returns-clause-tight : goal.returns-clause-tight
returns-clause-tight c =
    finished c.args.left.now.inputs.1.now c.args.left.now.inputs.0.now c.args.right.now.inputs.1.now c.args.left.now.hunks.items c.args.right.now.hunks.items c.args.left.now.index c.args.right.now.index
    (rows_of c.args.splitter.rows.items) c.args.splitter.at.items c.requires.swept c.args.left.now.base c.args.left.now.other c.args.right.now.base c.args.right.now.other c.requires.left
    (subst (λ base. IsAt base c.args.right.now.inputs.1.now c.args.right.now.hunks.items c.args.right.now.index c.args.right.now.base c.args.right.now.other) c.requires.base c.requires.right)
    c.requires.done (rows_of c.advance.new.self.rows.items)
    (subst (IsPrefixSplit is_line_end (c.args.left.now.inputs.1.now ∷ c.args.left.now.inputs.0.now ∷ c.args.right.now.inputs.1.now ∷ []) (rows_of c.advance.new.self.rows.items))
    c.in_ok-advance.ensures.at c.in_ok-advance.ensures.split)
    c.in_ok-advance.ensures.rows
