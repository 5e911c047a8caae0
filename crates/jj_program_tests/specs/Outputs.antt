-- Results of runs on an input in memory.
-- Cited by contracts of public items: CanFailBy, FindsFiles, IsFaultOfWalk, IsRunOf.
use Rattle.std.specs.Prelude.{◌≡◌, ◌⊎◌, ℕ, ◌++◌, List, codes, Ok, Err, string_bytes}
use Rattle.jj_filter.specs.Runs.{CanFailBy as CanFail}
use Rattle.jj_filter.specs.declared.failure.Failure.{Failure}
use Rattle.jj_filter.specs.declared.failure.Failure.TheVariants.{Input}
use Rattle.jj_paths.specs.Paths.{Path}
use Rattle.jj_program.specs.declared.fault.FaultReport.{FaultReport}
use Rattle.jj_program.specs.declared.program.Command.{Command}
use Rattle.jj_program.specs.declared.program.Command.TheVariants.{Walk}
use Rattle.jj_program.specs.FoundFiles.{AreFound}
use Rattle.jj_program.specs.LineFaults.{IsDeterminedBy}
use Rattle.jj_program.specs.Lines.{lines_of}
use Rattle.jj_program.specs.Messages.{message_of}
use Rattle.jj_program.specs.Program.{HasResult, OutputsOf, ReportsOf}
use Rattle.jj_program.specs.WalkCommand.{WalkRequest, walk_request, path_lines}

-- the input has this fault; or out of memory, for the work or for the output; or more reads than
-- can be counted
abbrev pub CanFailBy : Command → List ℕ → Failure FaultReport → Type 0
CanFailBy command = CanFail (OutputsOf command) (ReportsOf command)

-- the exit status is 0 and this is the output, or it is 1 and the command can fail
abbrev pub IsRunOf : Command → List ℕ → (status : ℕ) → (output : List ℕ) → Type 0
IsRunOf command input status output = ((status ≡ 0) × HasResult command input (Ok output))
    ⊎ ((status ≡ 1) × ((failure : Failure FaultReport) × CanFailBy command input failure))

-- the output: a line for exactly each marked path in the set that the input describes, then a line
-- for each directory entered
abbrev pub FindsFiles : List ℕ → List ℕ → Type 0
FindsFiles text output = (request : WalkRequest) × (found entered : List Path)
    × (walk_request text ≡ Ok request) × AreFound request found
    × (output ≡ path_lines (codes "file") found ++ path_lines (codes "enter") entered)

-- the fault is that of the first faulty line, or the number of sets left if no line is faulty; the
-- message is that of the fault, which quotes the faulty field
pub record IsTold (text : List ℕ) (report : FaultReport) : Type 0 where
  pub determined : IsDeterminedBy {A = List ℕ} Walk (lines_of text) (Err report.fault)
  pub message : string_bytes report.message ≡ message_of Walk text report.fault

-- the report of a fault of the input is that of the fault; of another failure nothing is stated
abbrev pub IsFaultOfWalk : List ℕ → Failure FaultReport → Type 0
IsFaultOfWalk text (Input report) = IsTold text report
IsFaultOfWalk text failure = Unit {0}
