-- One more line of `merge`, after the requests of those before it.
use Rattle.std.proofs.Common.{◌≡◌, ℕ, List, [], ◌∷◌, ◌++◌, Result, Ok, ap, sym, subst}
use Rattle.jj_program.specs.declared.fault.LineFault.{LineFault}
use Rattle.jj_program.specs.declared.forms.Shape.{Shape}
use Rattle.jj_program.specs.declared.merge_command.MergeForm.{MergeForm}
use Rattle.jj_program.specs.declared.merge_command.TheConstants.{MERGE_FORMS}
use Rattle.jj_program.specs.Forms.{form_line, table}
use Rattle.jj_program.specs.Lines.{AreLinesOf, result_and_then}
use Rattle.jj_program.specs.MergeCommand.{IsMergeLine, MergeRequest, merge_step}
use Rattle.jj_program.proofs.Requests.{AreLinesOf-push}

-- the fields of a line of the table, with the output line of its request
pub one_more : (requests : List MergeRequest) (fields : List (List ℕ)) (form : MergeForm) (shape : Shape) (terms : List (List ℕ)) (old new line : List ℕ)
    → AreLinesOf IsMergeLine requests old → form_line (table MERGE_FORMS) fields ≡ Ok (form, shape, terms) → IsMergeLine (form, terms) line → new ≡ old ++ line
    → (next : List MergeRequest) × (merge_step requests fields ≡ Ok next) × AreLinesOf IsMergeLine next new
one_more requests fields form shape terms old new line each parsed is written = (
  requests ++ (form, terms) ∷ [],
  ap (λ (r : Result (MergeForm × Shape × List (List ℕ)) LineFault). result_and_then r (λ line. Ok (requests ++ (line.0, line.2) ∷ []))) parsed,
  subst (AreLinesOf IsMergeLine (requests ++ (form, terms) ∷ [])) (sym written) (AreLinesOf-push IsMergeLine requests (form, terms) old line each is),
)
