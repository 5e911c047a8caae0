use Rattle.std.proofs.Common.{take}
use Rattle.jj_mirror.specs.Replays.{IsReplay}
use Rattle.jj_mirror.proofs.replay.replay.Given as goal

abbrev pub invariant-loop-entry : goal.invariant-loop-entry
invariant-loop-entry l = IsReplay (take l.entry-index l.entries) l.backend
