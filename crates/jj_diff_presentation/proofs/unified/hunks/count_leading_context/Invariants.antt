use Rattle.std.proofs.Common.{◌≡◌, ◌+◌, drop}
use Rattle.jj_diff_presentation.specs.Hunks.{leading_context}
use Rattle.jj_diff_presentation.proofs.unified.hunks.count_leading_context.Given as goal

abbrev pub invariant-loop-index : goal.invariant-loop-index
invariant-loop-index l = l.index + leading_context (drop l.index l.lines) ≡ leading_context l.lines
