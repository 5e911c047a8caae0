use Rattle.std.proofs.Common.{◌≡◌, ◌+◌, ◌-◌, length}
use Rattle.jj_content_merges.specs.Comparisons.{IsAt, IsBefore, IsSwept}
use Rattle.jj_content_merges.specs.Rows.{rows_of}
use Rattle.jj_content_merges.proofs.files.comparing.split_by_comparisons.Given as goal

abbrev pub invariant-loop-rights : goal.invariant-loop-rights
invariant-loop-rights l =
    (l.lefts.inputs.0.now ≡ l.base) × (l.lefts.inputs.1.now ≡ l.left)
    × (l.rights.inputs.0.now ≡ l.base) × (l.rights.inputs.1.now ≡ l.right)
    × IsAt l.lefts.inputs.0.now l.lefts.inputs.1.now l.lefts.hunks.items l.lefts.index l.lefts.base l.lefts.other
    × IsAt l.rights.inputs.0.now l.rights.inputs.1.now l.rights.hunks.items l.rights.index l.rights.base l.rights.other
    × IsSwept l.lefts.inputs.1.now l.lefts.inputs.0.now l.rights.inputs.1.now l.lefts.hunks.items l.rights.hunks.items
    l.lefts.index l.rights.index (IsBefore l.lefts.hunks.items l.rights.hunks.items l.lefts.index l.rights.index)
    (rows_of l.splitter.rows.items) l.splitter.at.items

abbrev pub decreases-loop-rights : goal.decreases-loop-rights
decreases-loop-rights l = length l.lefts.hunks.items - l.lefts.index + (length l.rights.hunks.items - l.rights.index)
