-- The elements so far.
use Rattle.std.proofs.Common.{take}
use Rattle.jj_log.specs.Targets.{AddsNew}
use Rattle.jj_log.proofs.targets.insert_all.Given as goal

abbrev pub invariant-loop-number : goal.invariant-loop-number
invariant-loop-number l = AddsNew (take l.number-index l.numbers) l.initial.set l.set
