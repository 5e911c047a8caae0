-- There is no line feed before `at`.
use Rattle.std.proofs.Common.{◌≡◌, ◌+◌, drop}
use Rattle.jj_strings.specs.Lines.{first_len}
use Rattle.jj_strings.proofs.str_util.match_lines.first_line_len.Given as goal

abbrev pub invariant-loop-at : goal.invariant-loop-at
invariant-loop-at l = first_len l.text ≡ l.at + first_len (drop l.at l.text)
