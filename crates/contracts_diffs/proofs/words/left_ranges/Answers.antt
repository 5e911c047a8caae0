use Rattle.std.proofs.Common.{[], ◌∷◌, ◌∙◌, List, ap, lit<}
use Rattle.jj_diff.specs.Tokens.{is_line_end}
use Rattle.jj_diff.specs.declared.diff.hunks.DiffHunk.{DiffHunk}
use Rattle.jj_diff.specs.Hunks.{IsDiff}
use Rattle.contracts_diffs.specs.Ranges.{parts_at}
use Rattle.contracts_diffs.proofs.Ranges.{parts_of_hunks}
use Rattle.contracts_diffs.proofs.words.left_ranges.Goals as goal

pub returns-clause-parts : goal.returns-clause-parts
returns-clause-parts c =
    let hunks : List DiffHunk = c.in_ok-compared.compared.hunks.items in
    let diff : IsDiff is_line_end (c.args.left.now ∷ c.args.right.now ∷ []) hunks = c.in_ok-compared.ensures.diff in
    (hunks, diff, ap (parts_at c.args.left.now) c.in_ok-ranges.ensures ∙ parts_of_hunks c.args.left.now hunks (diff.sides 0 (lit< tt)))
