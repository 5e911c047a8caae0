-- The rows so far.
use Rattle.std.proofs.Common.{take}
use Rattle.std.specs.Prelude.{string_bytes}
use Rattle.jj_log.specs.Drawing.{AreStyled}
use Rattle.jj_log.specs.Labels.{label_of}
use Rattle.jj_log.proofs.log.draw_styled_rows.Given as goal

abbrev pub invariant-loop-row : goal.invariant-loop-row
invariant-loop-row l = AreStyled l.style (label_of l.commits) (take l.row-index l.rows) (string_bytes l.drawing)
