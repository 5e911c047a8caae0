-- Properties of the lines of a table whose rows have them.
use Rattle.std.proofs.Common.{◌≡◌, ℕ, ◌%◌, Bool, true, false, cond, List, [], ◌∷◌, length, Option, Some, Result, Ok, Err, refl, ap, subst, eqb-true}
use Rattle.std.specs.Str.{bytes_eq}
use Rattle.jj_program.specs.declared.fault.LineFault.{LineFault}
use Rattle.jj_program.specs.declared.fault.LineFault.TheVariants.{BadFieldCount}
use Rattle.jj_program.specs.declared.hash_command.HashInput.{HashInput}
use Rattle.jj_program.specs.declared.hash_command.TheConstants.{HASH_FORMS}
use Rattle.jj_program.specs.declared.forms.Shape.{Shape}
use Rattle.jj_program.specs.declared.merge_command.MergeForm.{MergeForm}
use Rattle.jj_program.specs.declared.merge_command.TheConstants.{MERGE_FORMS}
use Rattle.jj_program.specs.Forms.{Form, admits, form_line, form_named, table}
use Rattle.jj_program.specs.HashCommand.{HasSize}
use Rattle.jj_program.proofs.ParsedForms.{admitted}

abbrev ok_or : {X : Type 0} → X → Result X LineFault → X
ok_or x (Ok y) = y
ok_or x (Err kind) = x

module _ {A : Type 0} (P : A → List (List ℕ) → Type 0) where
  abbrev pub Rows : List (Form A) → Type 0
  Rows [] = Unit {0}
  Rows (form ∷ forms) = ((fields : List (List ℕ)) → admits form.1 fields ≡ true → P form.2 fields) × Rows forms

  -- a line has the property of its row
  pub of_line : (forms : List (Form A)) → Rows forms → (line : List (List ℕ)) (action : A) (shape : Shape) (fields : List (List ℕ)) → form_line forms line ≡ Ok (action, shape, fields) → P action fields
  of_line forms rows [] action shape fields e = cc
  of_line forms rows (word ∷ rest) action shape fields e = by forms rows e
    where
      taken : (form : Form A) → ((fields : List (List ℕ)) → admits form.1 fields ≡ true → P form.2 fields) → (b : Bool) → admits form.1 rest ≡ b → cond {A = Result (A × Shape × List (List ℕ)) LineFault} b (Ok (form.2, form.1, rest)) (Err BadFieldCount) ≡ Ok (action, shape, fields) → P action fields
      taken form row true is h =
          let same : (form.2, form.1, rest) ≡ (action, shape, fields) = ap (ok_or (action, shape, fields)) h in
          subst (λ (l : A × Shape × List (List ℕ)). P l.0 l.2) same (row rest is)
      taken form row false is h = cc

      on : (form : Form A) (forms : List (Form A)) → ((fields : List (List ℕ)) → admits form.1 fields ≡ true → P form.2 fields) → (admitted (form_named forms word) rest ≡ Ok (action, shape, fields) → P action fields)
          → (b : Bool) → admitted (cond {A = Option (Shape × A)} b (Some (form.1, form.2)) (form_named forms word)) rest ≡ Ok (action, shape, fields) → P action fields
      on form forms row others true k = taken form row (admits form.1 rest) refl k
      on form forms row others false k = others k

      by : (forms : List (Form A)) → Rows forms → admitted (form_named forms word) rest ≡ Ok (action, shape, fields) → P action fields
      by [] rows h = cc
      by (form ∷ forms) rows h = on form forms rows.0 (by forms rows.1) (bytes_eq form.0 word) h

pub odd_terms : (line : List (List ℕ)) (form : MergeForm) (shape : Shape) (terms : List (List ℕ)) → form_line (table MERGE_FORMS) line ≡ Ok (form, shape, terms) → length terms % 2 ≡ 1
odd_terms = of_line (λ form terms. length terms % 2 ≡ 1) (table MERGE_FORMS)
    (λ terms odd. eqb-true _ _ odd, (λ terms odd. eqb-true _ _ odd, (λ terms odd. eqb-true _ _ odd, tt)))

pub sized_input : (line : List (List ℕ)) (input : HashInput) (shape : Shape) (fields : List (List ℕ)) → form_line (table HASH_FORMS) line ≡ Ok (input, shape, fields) → HasSize input fields
sized_input = of_line HasSize (table HASH_FORMS)
    (λ fields one. eqb-true _ _ one, (λ fields one. eqb-true _ _ one, (λ fields any. tt, (λ fields odd. eqb-true _ _ odd, tt))))
