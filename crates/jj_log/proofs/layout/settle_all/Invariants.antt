-- The columns of the last edges are added.
use Rattle.std.proofs.Common.{◌-◌, drop, length}
use Rattle.jj_log.specs.Columns.{SettlesAll}
use Rattle.jj_log.proofs.layout.settle_all.Given as goal

abbrev pub invariant-loop-offset : goal.invariant-loop-offset
invariant-loop-offset l = SettlesAll l.left (drop (length l.edges - l.offset) l.edges) l.initial.right.items l.right.items
