-- Runs of the program on a list in memory.
use Rattle.std.proofs.Common.{◌≡◌, ◌∙◌, ℕ, false, List, [], Option, Some, Result, Ok, Err, refl, sym, inl, inr}
use Rattle.jj_files.specs.Streams.{streams}
use Rattle.jj_filter.specs.Runs.{EndsBy}
use Rattle.jj_filter.specs.declared.failure.Failure.{Failure}
use Rattle.jj_filter.specs.declared.failure.Failure.TheVariants.{ReadInput, Memory, WriteOutput, Input}
use Rattle.jj_filter.proofs.InMemory.{wrote}
use Rattle.jj_filesets.specs.Expressions.{Spells}
use Rattle.jj_filesets.specs.SyntaxTrees.{SyntaxTree}
use Rattle.jj_filesets.specs.declared.listing.ListOptions.{ListOptions}
use Rattle.jj_filesets_cli.specs.InMemory.{IsPrinted}
use Rattle.jj_filesets_cli.specs.Runs.{IsFaultOfList, IsRefusedBy, Selects, command_error_status, status_of}
use Rattle.jj_filesets_cli.specs.declared.fault.CommandError.{CommandError}
use Rattle.jj_filesets_cli.specs.declared.fault.CommandError.TheVariants.{Memory as NoMemory, Usage}
use Rattle.jj_filesets_cli.specs.declared.fault.ListFault.{ListFault}
use Rattle.jj_filesets_cli.specs.declared.outcome.Outcome.{Outcome}

abbrev plain : ListOptions
plain = record { nul = false; skips_invalid = false }

-- the expression has a fault
pub refused : (expression list output : List ℕ) (status : ℕ) → output ≡ [] → (error : CommandError) → IsRefusedBy expression error
    → status ≡ command_error_status error → IsPrinted expression list status output
refused expression list output status empty NoMemory by is = inr (inr is)
refused expression list output status empty (Usage fault message) by is = inr (inl (is, record { fault = fault; cause = by; nothing = empty }))

-- the filter was run
pub ran : (expression list source : List ℕ) → source ≡ list → (unread : Option (List ℕ)) (sunk bytes output : List ℕ) → sunk ≡ [] → output ≡ bytes → (status : ℕ)
    → (set : SyntaxTree) → Spells expression set → (ended : Result Outcome (Failure ListFault))
    → EndsBy (Selects set plain false) (IsFaultOfList plain) (streams (Some source) (Some sunk)) (streams unread (Some bytes)) ended
    → status ≡ status_of ended → IsPrinted expression list status output
ran expression list source is unread sunk bytes output empty same status set spelled (Ok outcome) ends told =
    let selected : Selects set plain false list output outcome = wrote (Selects set plain false) (IsFaultOfList plain) list source is unread sunk bytes output empty same outcome ends in
    inl (told ∙ selected.status, record { set = set; spelled = spelled; lines = selected.lines; valid = sym selected.invalid ∙ selected.strict refl })
ran expression list source is unread sunk bytes output empty same status set spelled (Err ReadInput) ends told = inr (inr told)
ran expression list source is unread sunk bytes output empty same status set spelled (Err Memory) ends told = inr (inr told)
ran expression list source is unread sunk bytes output empty same status set spelled (Err (WriteOutput is_closed)) ends told = inr (inr told)
ran expression list source is unread sunk bytes output empty same status set spelled (Err (Input fault)) ends told = inr (inr told)
