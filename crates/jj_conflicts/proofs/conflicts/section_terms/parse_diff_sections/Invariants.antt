use Rattle.std.proofs.Common.{◌≡◌, fold, length}
use Rattle.jj_conflicts.specs.Lines.{split_lines}
use Rattle.jj_conflicts.specs.Parsing.{with_section_line, no_sections}
use Rattle.jj_conflicts.specs.Views.{sections_view}
use Rattle.jj_conflicts.proofs.conflicts.section_terms.parse_diff_sections.Given as goal

abbrev pub invariant-loop-rest : goal.invariant-loop-rest
invariant-loop-rest l =
    fold (with_section_line l.marker_len) (sections_view l.parser) (split_lines l.rest)
    ≡ fold (with_section_line l.marker_len) no_sections (split_lines l.lines)

abbrev pub decreases-loop-rest : goal.decreases-loop-rest
decreases-loop-rest l = length l.rest
