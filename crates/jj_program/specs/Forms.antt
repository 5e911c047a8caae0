-- Tables of line forms, and the values of the fields of a line by such a table.
-- Cited by contracts of public items through GraphCommand, HashCommand, LineFaults, LineForms,
-- MergeCommand, WalkCommand.
use Rattle.std.specs.Prelude.{ℕ, ◌==◌, ◌%◌, Bool, true, not, List, [], ◌∷◌, if◌then◌else◌, codes, length, map, Option, Some, None, ok_or, Result, Ok, Err}
use Rattle.std.specs.Borrow.{Bor}
use Rattle.std.specs.List.{after_first, before_first, count_by, list_all}
use Rattle.std.specs.Str.{bytes_eq}
use Rattle.jj_program.specs.declared.fault.LineFault.{LineFault}
use Rattle.jj_program.specs.declared.fault.LineFault.TheVariants.{UnknownCommand, BadFieldCount}
use Rattle.jj_program.specs.declared.forms.Shape.{Shape}
use Rattle.jj_program.specs.declared.forms.Shape.TheVariants.{Empty, One, NonEmpty, Any, Odd, Pairs, Dashed}
use Rattle.jj_program.specs.Lines.{result_and_then}

-- 1. Shapes.

-- the separator between two lists
abbrev pub is_dash : List ℕ → Bool
is_dash field = bytes_eq field (codes "-")

-- the number of fields is valid
abbrev pub admits : Shape → List (List ℕ) → Bool
admits Empty fields = length fields == 0
admits One fields = length fields == 1
admits NonEmpty fields = not (length fields == 0)
admits Any fields = true
admits Odd fields = length fields % 2 == 1
admits Pairs fields = length fields % 2 == 0
admits Dashed fields = count_by is_dash fields == 1

-- the fields at even and at odd indices; an unpaired last field is dropped
abbrev pub evens : {A : Type 0} → List A → List A
evens [] = []
evens (alone ∷ []) = []
evens (first ∷ second ∷ fields) = first ∷ evens fields

abbrev pub odds : {A : Type 0} → List A → List A
odds [] = []
odds (alone ∷ []) = []
odds (first ∷ second ∷ fields) = second ∷ odds fields

-- the two lists
abbrev pub first_fields : Shape → List (List ℕ) → List (List ℕ)
first_fields Pairs fields = evens fields
first_fields Dashed fields = before_first is_dash fields
first_fields shape fields = fields

abbrev pub second_fields : Shape → List (List ℕ) → List (List ℕ)
second_fields Pairs fields = odds fields
second_fields Dashed fields = after_first is_dash fields
second_fields shape fields = []

-- 2. Tables.

-- the word of a line, the shape of its fields, and its action
abbrev pub Form : Type 0 → Type 0
Form A = List ℕ × Shape × A

-- the rows of a constant, and of a borrowed table
abbrev pub table : {A : Type 0} → record { now : List (record { now : List ℕ } × Shape × A) }
    → List (Form A)
table forms = map (λ form. (form.0.now, form.1, form.2)) forms.now

abbrev pub borrowed_table : {A : Type 0} → List (Bor (List ℕ) × Shape × A) → List (Form A)
borrowed_table forms = map (λ form. (form.0.now, form.1, form.2)) forms

-- the row of a word
abbrev pub form_named : {A : Type 0} → List (Form A) → List ℕ → Option (Shape × A)
form_named [] word = None
form_named (form ∷ forms) word =
    if bytes_eq form.0 word then Some (form.1, form.2) else form_named forms word

-- the action and the shape of a line, and the fields after its word
abbrev pub form_line : {A : Type 0} → List (Form A) → List (List ℕ)
    → Result (A × Shape × List (List ℕ)) LineFault
form_line forms [] = Err UnknownCommand
form_line forms (word ∷ fields) = result_and_then (ok_or (form_named forms word) UnknownCommand)
    (λ form. if admits form.0 fields then Ok (form.1, form.0, fields) else Err BadFieldCount)

-- 3. Values of fields.

-- the valid fields of a type, their values, and the fault of a line with an invalid one
pub record Kind (V : Type 0) : Type 0 where
  pub is_one : List ℕ → Bool
  pub value_of : List ℕ → V
  pub otherwise : LineFault

-- the value of a field, and the values of fields
abbrev pub value_at : {V : Type 0} → Kind V → List ℕ → Result V LineFault
value_at kind text = if kind.is_one text then Ok (kind.value_of text) else Err kind.otherwise

abbrev pub values_at : {V : Type 0} → Kind V → List (List ℕ) → Result (List V) LineFault
values_at kind texts =
    if list_all kind.is_one texts then Ok (map kind.value_of texts) else Err kind.otherwise

-- the action of a line and the values of its two lists; a fault of the first takes precedence
abbrev pub line_of : {A V W : Type 0} → Kind V → Kind W → List (Form A) → List (List ℕ)
    → Result (A × List V × List W) LineFault
line_of first second forms fields = result_and_then (form_line forms fields)
    (λ line. result_and_then (values_at first (first_fields line.1 line.2))
    (λ xs. result_and_then (values_at second (second_fields line.1 line.2))
    (λ ys. Ok (line.0, xs, ys))))
