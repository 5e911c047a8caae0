-- The string grows.
use Rattle.std.specs.Prelude.{string_bytes}
use Rattle.jj_log.specs.Drawing.{Appends}
use Rattle.jj_log.proofs.drawing.push_lines_below.Given as goal

abbrev pub invariant-loop-index : goal.invariant-loop-index
invariant-loop-index l = Appends (string_bytes l.initial.drawing) (string_bytes l.drawing)
