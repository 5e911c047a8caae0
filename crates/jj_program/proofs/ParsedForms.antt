-- The parts of the definition of a parsed line.
use Rattle.std.proofs.Common.{ℕ, cond, List, Option, Result, Ok, Err}
use Rattle.std.specs.Prelude.{ok_or}
use Rattle.jj_program.specs.declared.fault.LineFault.{LineFault}
use Rattle.jj_program.specs.declared.fault.LineFault.TheVariants.{UnknownCommand, BadFieldCount}
use Rattle.jj_program.specs.declared.forms.Shape.{Shape}
use Rattle.jj_program.specs.Forms.{admits}
use Rattle.jj_program.specs.Lines.{result_and_then}

-- the row of a word, if it admits the fields
abbrev pub admitted : {A : Type 0} → Option (Shape × A) → List (List ℕ) → Result (A × Shape × List (List ℕ)) LineFault
admitted form fields = result_and_then (ok_or form UnknownCommand) (λ form. cond (admits form.0 fields) (Ok (form.1, form.0, fields)) (Err BadFieldCount))

-- the values of two lists
abbrev pub both : {A V W : Type 0} → A → Result V LineFault → Result W LineFault → Result (A × V × W) LineFault
both action xs ys = result_and_then xs (λ xs. result_and_then ys (λ ys. Ok (action, xs, ys)))
