use Rattle.std.proofs.Common.{◌≡◌, drop}
use Rattle.jj_diff_presentation.specs.Lines.{split_lines}
use Rattle.jj_diff_presentation.proofs.unified.application.quote_line.Given as goal

abbrev pub invariant-loop : goal.invariant-loop
invariant-loop l = split_lines l.rest ≡ drop l.counter (split_lines l.patch)
