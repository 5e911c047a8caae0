use Rattle.std.proofs.Common.{◌≡◌, fold, length}
use Rattle.jj_conflicts.specs.Lines.{split_lines}
use Rattle.jj_conflicts.specs.Parsing.{with_text_line, no_hunks}
use Rattle.jj_conflicts.specs.Views.{hunks_view}
use Rattle.jj_conflicts.proofs.conflicts.parse.parse_hunks.Given as goal

abbrev pub invariant-loop-rest : goal.invariant-loop-rest
invariant-loop-rest l =
    fold (with_text_line l.expected_marker_len l.num_sides) (hunks_view l.parser)
    (split_lines l.rest)
    ≡ fold (with_text_line l.expected_marker_len l.num_sides) no_hunks (split_lines l.input)

abbrev pub decreases-loop-rest : goal.decreases-loop-rest
decreases-loop-rest l = length l.rest
