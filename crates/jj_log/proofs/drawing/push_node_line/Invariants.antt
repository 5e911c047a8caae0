-- The columns so far.
use Rattle.std.proofs.Common.{◌≡◌, ◌++◌}
use Rattle.std.specs.Prelude.{string_bytes}
use Rattle.jj_log.specs.Drawing.{node_cells}
use Rattle.jj_log.proofs.drawing.push_node_line.Given as goal

abbrev pub invariant-loop-index : goal.invariant-loop-index
invariant-loop-index l = string_bytes l.drawing ≡ string_bytes l.initial.drawing ++ node_cells l.style l.column l.is_root l.index
