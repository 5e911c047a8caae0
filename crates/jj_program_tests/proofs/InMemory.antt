-- Runs over readers and writers in memory.
use Rattle.std.proofs.Common.{◌≡◌, ◌≢◌, ◌∙◌, ◌⊎◌, ℕ, List, [], Option, None, Some, Result, Ok, Err, true, refl, sym, inl, inr}
use Rattle.std.specs.Prelude.{IfSome, MatchOption}
use Rattle.std.specs.Str.{IsUtf8, is_utf8}
use Rattle.std.proofs.lemmas.Str.{is_utf8-from_IsUtf8}
use Rattle.std.specs.IoError.{error_kind}
use Rattle.std.specs.declared.io.ErrorKind.TheVariants.{BrokenPipe, OutOfMemory}
use Rattle.jj_files.specs.Streams.{streams}
use Rattle.jj_filter.specs.Reports.{failure_status}
use Rattle.jj_filter.specs.Runs.{ClosesBy, EndsBy}
use Rattle.jj_filter.specs.declared.failure.Failure.{Failure}
use Rattle.jj_filter.specs.declared.failure.Failure.TheVariants.{ReadInput, Memory, WriteOutput, Input}
use Rattle.jj_filter.proofs.InMemory.{failed, wrote}
use Rattle.jj_program.specs.declared.fault.Fault.{Fault}
use Rattle.jj_program.specs.declared.fault.FaultReport.{FaultReport}
use Rattle.jj_program.specs.declared.program.Command.{Command}
use Rattle.jj_program.specs.declared.program.Command.TheVariants.{Walk}
use Rattle.jj_program.specs.LineFaults.{FaultsAreOfFirstKinds}
use Rattle.jj_program.specs.Program.{HasResult, HasResultOnText, OutputsOf, ReportsOf}
use Rattle.jj_program.specs.Reports.{status_of}
use Rattle.jj_program_tests.specs.Outputs.{CanFailBy, IsFaultOfWalk, IsRunOf}

-- the result on a string's bytes is the result on the string
pub text_gives : (command : Command) (text : List ℕ) (answer : Result (List ℕ) Fault) → IsUtf8 text → HasResult command text answer → HasResultOnText command text answer
text_gives command text answer utf8 given = let e : is_utf8 text ≡ true = is_utf8-from_IsUtf8 text utf8 in rw e at given

-- a sink is not closed if each of its errors is out of memory
pub not_closed : (O : Type 0) {F : Type 0} (failure : Failure F) → ClosesBy {O = O} (λ e. error_kind e ≡ OutOfMemory) (Err failure) → failure ≢ WriteOutput true
not_closed O (WriteOutput is_closed) (e, memory, closed) is =
    let closed_now : is_closed ≡ true = cc in
    let same : OutOfMemory ≡ BrokenPipe = sym memory ∙ closed.0 closed_now in
    cc same
not_closed O ReadInput h is = cc is
not_closed O Memory h is = cc is
not_closed O (Input fault) h is = cc is

-- the fault of a walk is determined by its input
pub walk_fault : FaultsAreOfFirstKinds → (text : List ℕ) → IsUtf8 text → (failure : Failure FaultReport) → CanFailBy Walk text failure → IsFaultOfWalk text failure
walk_fault law text utf8 ReadInput h = tt
walk_fault law text utf8 Memory h = tt
walk_fault law text utf8 (WriteOutput is_closed) h = tt
walk_fault law text utf8 (Input report) h = record { determined = law Walk text (Err report.fault) (text_gives Walk text (Err report.fault) utf8 h.0); message = h.1 }

status_one : (failure : Failure FaultReport) → failure_status (λ (report : FaultReport). 1) failure ≡ 1
status_one ReadInput = refl
status_one Memory = refl
status_one (WriteOutput is_closed) = refl
status_one (Input fault) = refl

-- a run of the program ends by its command line
pub ends : (line : Option Command) (input source : List ℕ) → source ≡ input → (unread : Option (List ℕ)) (sunk bytes output : List ℕ) → sunk ≡ [] → output ≡ bytes → (status : ℕ)
    → (line ≡ None → (status ≡ 2) × (Some bytes ≡ Some sunk))
    → IfSome line (λ command. (ended : Result (Unit {0}) (Failure FaultReport))
    × EndsBy (OutputsOf command) (ReportsOf command) (streams (Some source) (Some sunk)) (streams unread (Some bytes)) ended × (status ≡ status_of ended))
    → MatchOption line ((status ≡ 2) × (output ≡ [])) (λ command. IsRunOf command input status output)
ends None input source is unread sunk bytes output empty same status usage run =
    let u = usage refl in
    let kept : bytes ≡ sunk = cc in
    (u.0, same ∙ kept ∙ empty)
ends (Some command) input source is unread sunk bytes output empty same status usage run = by run.0 run.1 run.2
  where
    by : (ended : Result (Unit {0}) (Failure FaultReport)) → EndsBy (OutputsOf command) (ReportsOf command) (streams (Some source) (Some sunk)) (streams unread (Some bytes)) ended
        → status ≡ status_of ended → IsRunOf command input status output
    by (Ok done) h told = inl (told, wrote (OutputsOf command) (ReportsOf command) input source is unread sunk bytes output empty same done h)
    by (Err failure) h told = inr (
      told ∙ status_one failure,
      (failure, failed (OutputsOf command) (ReportsOf command) input source is unread (Some sunk) (Some bytes) failure h),
    )
