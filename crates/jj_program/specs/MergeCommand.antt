-- The command `merge`: simplifies or resolves a merge of strings per line.
-- Cited by contracts of public items through Program.
use Rattle.std.specs.Prelude.{◌≡◌, ℕ, List, [], ◌∷◌, ◌++◌, codes, Contains, Option, Some, None, Result, Ok, Err}
use Rattle.std.specs.Str.{bytes_eq}
use Rattle.jj_merges.specs.declared.merge.SameChange.{SameChange}
use Rattle.jj_merges.specs.Resolution.{ResolvesTo}
use Rattle.jj_merges.specs.Simplify.{simplified_indices, at_indices}
use Rattle.jj_program.specs.declared.fault.Fault.{Fault}
use Rattle.jj_program.specs.declared.fault.LineFault.{LineFault}
use Rattle.jj_program.specs.declared.merge_command.MergeForm.{MergeForm}
use Rattle.jj_program.specs.declared.merge_command.MergeForm.TheVariants.{Simplify, Resolve}
use Rattle.jj_program.specs.declared.merge_command.TheConstants.{MERGE_FORMS}
use Rattle.jj_program.specs.Forms.{form_line, table}
use Rattle.jj_program.specs.Lines.{AreLinesOf, line_text, lines_of, after_lines, result_and_then}

-- a requested operation and the terms of its merge, adds at even indices and removes at odd ones
abbrev pub MergeRequest : Type 0
MergeRequest = MergeForm × List (List ℕ)

-- appends the request of a line
abbrev pub merge_step : List MergeRequest → List (List ℕ) → Result (List MergeRequest) LineFault
merge_step requests fields = result_and_then (form_line (table MERGE_FORMS) fields)
    (λ line. Ok (requests ++ (line.0, line.2) ∷ []))

-- the requests of an input, or its first fault
abbrev pub merge_requests : List ℕ → Result (List MergeRequest) Fault
merge_requests text = after_lines merge_step 1 [] (lines_of text)

-- the term that the merge resolves to, if there is one
abbrev pub IsOutcome : SameChange → List (List ℕ) → Option (List ℕ) → Type 0
IsOutcome same_change terms (Some term) = Contains terms term
    × ResolvesTo bytes_eq same_change terms term
IsOutcome same_change terms None = (term : List ℕ) → ¬ ResolvesTo bytes_eq same_change terms term

-- the line of a resolved merge or of a conflict
abbrev pub outcome_line : Option (List ℕ) → List ℕ
outcome_line (Some term) = line_text (codes "resolved") (term ∷ [])
outcome_line None = line_text (codes "conflict") []

-- the line of a request
abbrev pub IsMergeLine : MergeRequest → List ℕ → Type 0
IsMergeLine (Simplify, terms) line = line
    ≡ line_text (codes "terms") (at_indices terms (simplified_indices bytes_eq terms))
IsMergeLine (Resolve same_change, terms) line = (outcome : Option (List ℕ))
    × IsOutcome same_change terms outcome × (line ≡ outcome_line outcome)

-- the output has one line per request; or the input has this fault
abbrev pub IsMergeResult : List ℕ → Result (List ℕ) Fault → Type 0
IsMergeResult text (Ok output) = (requests : List MergeRequest)
    × (merge_requests text ≡ Ok requests) × AreLinesOf IsMergeLine requests output
IsMergeResult text (Err fault) = merge_requests text ≡ Err fault
