-- Faults of runs on an input in memory.
-- Cited by contracts of public items: CanFailBy.
use Rattle.std.specs.Prelude.{ℕ, List}
use Rattle.jj_filter.specs.Runs.{CanFailBy as CanFail}
use Rattle.jj_filter.specs.declared.failure.Failure.{Failure}
use Rattle.jj_program.specs.declared.fault.FaultReport.{FaultReport}
use Rattle.jj_program.specs.declared.program.Command.{Command}
use Rattle.jj_program.specs.Program.{OutputsOf, ReportsOf}

-- the input has this fault; or out of memory, for the work or for the output; or more reads than
-- can be counted
abbrev pub CanFailBy : Command → List ℕ → Failure FaultReport → Type 0
CanFailBy command = CanFail (OutputsOf command) (ReportsOf command)
