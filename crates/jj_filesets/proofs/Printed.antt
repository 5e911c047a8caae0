-- An expression and a list determine which lines are printed.
use Rattle.std.proofs.Common.{◌≡◌, ◌∙◌, ap, subst, sym}
use Rattle.jj_filesets.specs.Listing.{ended_lines, lines_of, separator, IsLineIn, PrintsSet, PrintedLinesAreUnique}
use Rattle.jj_filesets.specs.SyntaxTrees.{SyntaxTree}
use Rattle.jj_filesets.proofs.Selecting.{selection_is_unique}
use Rattle.jj_filesets.proofs.Unique.{spelling_is_unique}

pub printed_lines_are_unique : PrintedLinesAreUnique
printed_lines_are_unique text first second nul input output other spells also (found, selected, is) prints =
    let same : first ≡ second = spelling_is_unique text first second spells also in
    let (more, chosen, ends) = subst (λ (set : SyntaxTree). PrintsSet set nul input other) (sym same) prints in
    is ∙ ap (ended_lines (separator nul)) (selection_is_unique (IsLineIn first nul) (lines_of nul input) found more selected chosen) ∙ sym ends
