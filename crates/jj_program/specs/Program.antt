-- The result of a command on an input.
-- Cited by contracts of public items: OutputsOf, ReportsOf, command_line, command_named.
use Rattle.std.specs.Prelude.{◌≡◌, ℕ, List, [], ◌∷◌, if◌then◌else◌, codes, Option, Some, None, Result, Ok, Err, string_bytes}
use Rattle.std.specs.Bool.{MatchBool}
use Rattle.std.specs.Str.{bytes_eq, is_utf8}
use Rattle.jj_program.specs.declared.fault.Fault.{Fault}
use Rattle.jj_program.specs.declared.fault.Fault.TheVariants.{NotUtf8}
use Rattle.jj_program.specs.declared.fault.FaultReport.{FaultReport}
use Rattle.jj_program.specs.declared.program.Command.{Command}
use Rattle.jj_program.specs.declared.program.Command.TheVariants.{Walk, Merge, Graph, Hash}
use Rattle.jj_program.specs.WalkCommand.{IsWalkResult}
use Rattle.jj_program.specs.MergeCommand.{IsMergeResult}
use Rattle.jj_program.specs.GraphCommand.{IsGraphResult}
use Rattle.jj_program.specs.HashCommand.{hash_output}
use Rattle.jj_program.specs.Messages.{message_of}

-- the command with this name
abbrev pub command_named : List ℕ → Option Command
command_named name =
    if bytes_eq name (codes "walk") then Some Walk
    else if bytes_eq name (codes "merge") then Some Merge
    else if bytes_eq name (codes "graph") then Some Graph
    else if bytes_eq name (codes "hash") then Some Hash
    else None

-- the command of a command line: exactly one word, the name of a command
abbrev pub command_line : List (List ℕ) → Option Command
command_line [] = None
command_line (word ∷ []) = command_named word
command_line (word ∷ other ∷ words) = None

-- the result of a command on UTF-8 input: its output, or the first fault
abbrev pub HasResultOnText : Command → List ℕ → Result (List ℕ) Fault → Type 0
HasResultOnText Walk text = IsWalkResult text
HasResultOnText Merge text = IsMergeResult text
HasResultOnText Graph text = IsGraphResult text
HasResultOnText Hash text = λ result. hash_output text ≡ result

-- the result of a command on any input: input that is not UTF-8 is a fault
abbrev pub HasResult : Command → List ℕ → Result (List ℕ) Fault → Type 0
HasResult command input result = MatchBool (is_utf8 input) (HasResultOnText command input result)
    (result ≡ Err NotUtf8)

-- the outputs of inputs, and their faults
abbrev pub OutputsOf : Command → List ℕ → List ℕ → Unit {0} → Type 0
OutputsOf command input output outcome = HasResult command input (Ok output)

-- the fault is the result of the command for the input
abbrev pub FaultsOf : Command → List ℕ → Fault → Type 0
FaultsOf command input fault = HasResult command input (Err fault)

-- the report of a fault: its message names the line and the field, and quotes it
abbrev pub ReportsOf : Command → List ℕ → FaultReport → Type 0
ReportsOf command input report = FaultsOf command input report.fault
    × (string_bytes report.message ≡ message_of command input report.fault)
