-- Runs of a filter: the streams after it, and the exit status.
-- Cited by contracts of public items: CanFailBy, ClosesBy, EndsBy, IsInputFailure, ended_status,
-- ended_text, is_read_failure, is_write_failure.
use Rattle.std.specs.Prelude.{◌≡◌, ◌↔◌, ⊤, ℕ, Bool, true, false, List, Result, Ok, Err}
use Rattle.std.specs.Io.KnownBytes.{Appends, Consumes, IsAtEnd}
use Rattle.std.specs.IoError.{error_kind}
use Rattle.std.specs.declared.io.Error.{Error}
use Rattle.std.specs.declared.io.ErrorKind.TheVariants.{BrokenPipe}
use Rattle.jj_files.specs.Streams.{AppendsPrefixOf, Streams}
use Rattle.jj_filter.specs.Reports.{failure_status, failure_text}
use Rattle.jj_filter.specs.declared.failure.Failure.{Failure}
use Rattle.jj_filter.specs.declared.failure.Failure.TheVariants.{ReadInput, Memory, WriteOutput, Input}

-- a computation fails by the input's fault, or memory ran out
abbrev pub IsInputFailure : {F : Type 0} → (F → Type 0) → Failure F → Type 0
IsInputFailure IsFault Memory = ⊤
IsInputFailure IsFault (Input fault) = IsFault fault
IsInputFailure IsFault failure = ⊥

-- the source was read to its end, and these were its bytes
abbrev pub ReadsAll : (old new : Streams) → List ℕ → Type 0
ReadsAll old new input = Consumes old.unread new.unread input × IsAtEnd new.unread

-- how a run ended: the source was read to its end and the output of its bytes was written; or a
-- read failed, memory ran out or the input has the fault, and nothing was written; or a write
-- failed, after a prefix of the output
abbrev pub EndsBy : {O F : Type 0} → (List ℕ → List ℕ → O → Type 0) → (List ℕ → F → Type 0)
    → (old new : Streams) → Result O (Failure F) → Type 0
EndsBy Yields Fails old new (Ok outcome) = (input output : List ℕ) × ReadsAll old new input
    × Yields input output outcome × Appends old.written new.written output
EndsBy Yields Fails old new (Err ReadInput) = new.written ≡ old.written
EndsBy Yields Fails old new (Err Memory) = new.written ≡ old.written
EndsBy Yields Fails old new (Err (Input fault)) = (input : List ℕ) × ReadsAll old new input
    × Fails input fault × (new.written ≡ old.written)
EndsBy {O} Yields Fails old new (Err (WriteOutput is_closed)) = (input output : List ℕ)
    × (outcome : O) × ReadsAll old new input × Yields input output outcome
    × AppendsPrefixOf old.written new.written output

-- a run ended with a failed read
abbrev pub is_read_failure : {O F : Type 0} → Result O (Failure F) → Bool
is_read_failure (Err ReadInput) = true
is_read_failure result = false

-- a run ended with a failed write
abbrev pub is_write_failure : {O F : Type 0} → Result O (Failure F) → Bool
is_write_failure (Err (WriteOutput is_closed)) = true
is_write_failure result = false

-- a failed write is one to a closed output if and only if its error, one of the sink's, is of kind
-- BrokenPipe
abbrev pub ClosesBy : {O F : Type 0} → (Error → Type 0) → Result O (Failure F) → Type 0
ClosesBy may_fail (Err (WriteOutput is_closed)) = (e : Error) × may_fail e
    × ((is_closed ≡ true) ↔ (error_kind e ≡ BrokenPipe))
ClosesBy may_fail result = ⊤

-- the message of a run that ended, given those of outcomes and of faults
abbrev pub ended_text : {O F : Type 0} → (O → List ℕ) → (F → List ℕ) → Result O (Failure F) → List ℕ
ended_text text fault_text (Ok outcome) = text outcome
ended_text text fault_text (Err failure) = failure_text fault_text failure

-- the exit status of a run that ended, given those of outcomes and of faults
abbrev pub ended_status : {O F : Type 0} → (O → ℕ) → (F → ℕ) → Result O (Failure F) → ℕ
ended_status status fault_status (Ok outcome) = status outcome
ended_status status fault_status (Err failure) = failure_status fault_status failure

-- a failure of a run on this input, over streams in memory: a fault of the input, out of memory,
-- for the work or for the output, or more reads than can be counted
abbrev pub CanFailBy : {O F : Type 0} → (List ℕ → List ℕ → O → Type 0) → (List ℕ → F → Type 0)
    → List ℕ → Failure F → Type 0
CanFailBy Yields Fails input ReadInput = ⊤
CanFailBy Yields Fails input Memory = ⊤
CanFailBy Yields Fails input (Input fault) = Fails input fault
CanFailBy {O} Yields Fails input (WriteOutput is_closed) = (output : List ℕ) × (outcome : O)
    × Yields input output outcome
