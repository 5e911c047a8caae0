-- Determinism of the commands, and their line faults as those of the first faulty line.
-- Cited by contracts of public items: FaultsAreOfFirstLines, ResultsAreUnique.
use Rattle.std.specs.Prelude.{◌≡◌, ℕ, List, Result, ◌-◌, ◌<◌, ◌≤◌, length, take, Err}
use Rattle.jj_program.specs.declared.fault.Fault.{Fault}
use Rattle.jj_program.specs.declared.program.Command.{Command}
use Rattle.jj_program.specs.Program.{HasResult, HasResultOnText}
use Rattle.jj_program.specs.declared.fault.Fault.TheVariants.{Line}
use Rattle.jj_program.specs.declared.fault.LineFault.{LineFault}
use Rattle.jj_program.specs.Lines.{lines_of}

-- any two results of a command on an input are equal
abbrev pub ResultsAreUnique : Type 0
ResultsAreUnique = (command : Command) (input : List ℕ) (first second : Result (List ℕ) Fault)
    → HasResult command input first → HasResult command input second → first ≡ second

-- two inputs have the same first `count` lines
abbrev pub BeginAlike : ℕ → List ℕ → List ℕ → Type 0
BeginAlike count text other = take count (lines_of text) ≡ take count (lines_of other)

-- the line exists; every input with the same lines up to it has the same fault; and an input
-- with the same earlier lines has no fault in one of those
pub record IsFirstFault (command : Command) (text : List ℕ) (line_number : ℕ) (kind : LineFault)
    : Type 0 where
  pub there : (1 ≤ line_number) × (line_number ≤ length (lines_of text))
  pub decided : (other : List ℕ) → BeginAlike line_number text other
      → HasResultOnText command other (Err (Line line_number kind))
  pub first : (other : List ℕ) (earlier : ℕ) (fault : LineFault)
      → BeginAlike (line_number - 1) text other → earlier < line_number
      → HasResultOnText command other (Err (Line earlier fault)) → ⊥

-- a line fault of a command is that of the first faulty line
abbrev pub FaultsAreOfFirstLines : Type 0
FaultsAreOfFirstLines = (command : Command) (text : List ℕ) (line_number : ℕ) (kind : LineFault)
    → HasResultOnText command text (Err (Line line_number kind))
    → IsFirstFault command text line_number kind
