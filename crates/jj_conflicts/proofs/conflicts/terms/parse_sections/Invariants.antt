use Rattle.std.proofs.Common.{◌≡◌, length}
use Rattle.jj_conflicts.specs.Lines.{split_lines}
use Rattle.jj_conflicts.specs.Parsing.{with_lines, first_term}
use Rattle.jj_conflicts.specs.Views.{terms_view}
use Rattle.jj_conflicts.proofs.conflicts.terms.parse_sections.Given as goal

abbrev pub invariant-loop-rest : goal.invariant-loop-rest
invariant-loop-rest l =
    with_lines l.marker_len l.is_git (terms_view l.terms) (split_lines l.rest)
    ≡ with_lines l.marker_len l.is_git (first_term l.first) (split_lines l.fn.rest)

abbrev pub decreases-loop-rest : goal.decreases-loop-rest
decreases-loop-rest l = length l.rest
