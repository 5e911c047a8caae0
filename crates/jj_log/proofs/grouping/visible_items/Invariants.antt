-- The items so far.
use Rattle.std.proofs.Common.{take}
use Rattle.jj_log.specs.LogItems.{AreVisibleItems}
use Rattle.jj_log.proofs.grouping.visible_items.Given as goal

abbrev pub invariant-loop-number : goal.invariant-loop-number
invariant-loop-number l = AreVisibleItems l.commits (take l.number-index l.order) l.items.items
