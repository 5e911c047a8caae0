-- Selections, and the faults of expressions and lists.
use Rattle.std.specs.Prelude.{◌≡◌, ⊤, ℕ, Bool, false, ◌==◌, ◌&&◌, ◌++◌, nat_lt, if◌then◌else◌, List, [], length, drop, codes, string_bytes, Result}
use Rattle.std.specs.Fmt.{decimal}
use Rattle.jj_excerpts.specs.Excerpts.{excerpt_of}
use Rattle.jj_filesets.specs.declared.fileset.error.FilesetParseError.TheVariants.{Syntax}
use Rattle.jj_filesets.specs.declared.listing.ListError.TheVariants.{Line}
use Rattle.jj_filesets.specs.declared.listing.ListOptions.{ListOptions}
use Rattle.jj_filesets.specs.Expressions.{IsParseError, IsUnspelled}
use Rattle.jj_filesets.specs.Listing.{PrintsSet, IsListError, invalid_count, lines_of}
use Rattle.jj_filesets.specs.SyntaxTrees.{SyntaxTree}
use Rattle.jj_filter.specs.Reports.{report_line}
use Rattle.jj_filter.specs.Runs.{ended_status, ended_text}
use Rattle.jj_filter.specs.declared.failure.Failure.{Failure}
use Rattle.jj_filesets_cli.specs.declared.fault.CommandError.{CommandError}
use Rattle.jj_filesets_cli.specs.declared.fault.CommandError.TheVariants.{Memory, Usage}
use Rattle.jj_filesets_cli.specs.declared.fault.ExpressionFault.{ExpressionFault}
use Rattle.jj_filesets_cli.specs.declared.fault.ListFault.{ListFault}
use Rattle.jj_filesets_cli.specs.declared.outcome.Outcome.{Outcome}

-- 1. Selections.

-- the output has the lines of the input in the set; so many of its lines are no paths, and none if
-- they are not skipped; the status is 1 if there is no line and the option for this is set
pub record Selects (set : SyntaxTree) (options : ListOptions) (fails_if_none : Bool)
    (input output : List ℕ) (outcome : Outcome) : Type 0 where
  pub lines : PrintsSet set options.nul input output
  pub invalid : outcome.invalid ≡ invalid_count options.nul (lines_of options.nul input)
  pub strict : options.skips_invalid ≡ false → outcome.invalid ≡ 0
  pub status : outcome.status ≡ (if fails_if_none && (length output == 0) then 1 else 0)

-- lines that were skipped are counted
abbrev pub outcome_text : Outcome → List ℕ
outcome_text outcome = if outcome.invalid == 0 then []
    else codes "skipped lines that are no paths: " ++ decimal outcome.invalid

-- the fault is that of the first line of the list that is no path
abbrev pub IsFaultOfList : ListOptions → List ℕ → ListFault → Type 0
IsFaultOfList options input fault =
    IsListError options input (Line fault.number fault.excerpt fault.kind)

-- the line that reports how a run ended, and its exit status
abbrev pub report_text : Result Outcome (Failure ListFault) → List ℕ
report_text ended = report_line (codes "jj-filesets")
    (ended_text outcome_text (λ fault. string_bytes fault.message) ended)

abbrev pub status_of : Result Outcome (Failure ListFault) → ℕ
status_of = ended_status (λ outcome. outcome.status) (λ _. 1)

-- 2. Expressions that spell no set.

-- the excerpt of an expression from an offset on
abbrev pub place_at : List ℕ → ℕ → List ℕ
place_at expression at = if nat_lt at (length expression) then excerpt_of (drop at expression)
    else codes "the end"

-- the expression spells no set, and this is why
pub record IsExpressionFault (expression : List ℕ) (fault : ExpressionFault) : Type 0 where
  pub unspelled : IsUnspelled expression (Syntax fault.at fault.kind)
  pub cause : IsParseError expression (Syntax fault.at fault.kind)
  pub place : string_bytes fault.place ≡ place_at expression fault.at

-- the expression has this fault, or memory ran out
abbrev pub IsRefusedBy : List ℕ → CommandError → Type 0
IsRefusedBy expression Memory = ⊤
IsRefusedBy expression (Usage fault message) = IsExpressionFault expression fault

abbrev pub command_error_text : CommandError → List ℕ
command_error_text Memory = codes "out of memory"
command_error_text (Usage fault message) = string_bytes message

abbrev pub command_error_status : CommandError → ℕ
command_error_status Memory = 1
command_error_status (Usage fault message) = 2
