-- Induction over the fields of a line: the value or the fault of all fields, one field at a time.
use Rattle.std.proofs.Common.{◌≡◌, ◌∙◌, ℕ, ◌+◌, ◌<◌, List, [], ◌∷◌, ◌++◌, take, get_or, length, arith, Bool, true, false, cond, Ok, Err, map, refl, sym, ap}
use Rattle.std.specs.Prelude.{◌&&◌}
use Rattle.std.specs.List.{list_all}
use Rattle.std.proofs.lemmas.List.{take_more, get_or-map, length-map, map-append}
use Rattle.jj_program.specs.declared.fault.LineFault.{LineFault}
use Rattle.jj_filter.specs.declared.failure.Failure.{Failure}
use Rattle.jj_filter.specs.declared.failure.Failure.TheVariants.{ReadInput, Memory, WriteOutput, Input}
use Rattle.jj_program.specs.Forms.{Kind, value_at, values_at}
use Rattle.jj_program.specs.Lines.{IsFaultOf}

module _ {A : Type 0} (kind : Kind A) where
  -- a valid field
  pub record HasValue (text : List ℕ) (x : A) : Type 0 where
    pub passes : kind.is_one text ≡ true
    pub same : x ≡ kind.value_of text

  pub field-ok : (text : List ℕ) (x : A) → value_at kind text ≡ Ok x → HasValue text x
  field-ok text x h = by_test (kind.is_one text) refl h
    where
      by_test : (t : Bool) → kind.is_one text ≡ t → cond t (Ok (kind.value_of text)) (Err kind.otherwise) ≡ Ok x → HasValue text x
      by_test true is e = record { passes = is; same = cc }
      by_test false is e = cc

  -- an invalid field is the fault of the line
  pub field-fault : (fault : Failure LineFault) (text : List ℕ) (texts : List (List ℕ)) (rest : Bool) → list_all kind.is_one texts ≡ (kind.is_one text && rest)
      → IsFaultOf fault (value_at kind text) → IsFaultOf fault (values_at kind texts)
  field-fault Memory text texts rest all h = tt
  field-fault ReadInput text texts rest all h = h
  field-fault (WriteOutput is_closed) text texts rest all h = h
  field-fault (Input found) text texts rest all h = by_test (kind.is_one text) refl h
    where
      by_test : (t : Bool) → kind.is_one text ≡ t → cond t (Ok (kind.value_of text)) (Err kind.otherwise) ≡ Err found → values_at kind texts ≡ Err found
      by_test true is e = cc
      by_test false is e =
          let none : list_all kind.is_one texts ≡ false = all ∙ ap (λ t. t && rest) is in
          let same : kind.otherwise ≡ found = cc in
          rw none (ap Err same)

  -- one more valid field
  pub values_more : {V B : Type 0} (view : V → A) (text_of : B → List ℕ) (values grown : List V) (x : V) (fields : List B) (i : ℕ) (d : B) → i < length fields
      → map view values ≡ map kind.value_of (take i (map text_of fields)) → grown ≡ values ++ x ∷ [] → HasValue (text_of (get_or fields i d)) (view x)
      → map view grown ≡ map kind.value_of (take (i + 1) (map text_of fields))
  values_more view text_of values grown x fields i d within so_far is has =
      let inside : i < length (map text_of fields) = omega (arith, length-map fields text_of) in
      let text = text_of (get_or fields i d) in
      let item : get_or (map text_of fields) i text ≡ text = get_or-map text_of fields i d text within in
      ap (map view) is
      ∙ map-append view values (x ∷ [])
      ∙ ap (λ l. l ++ view x ∷ []) so_far
      ∙ ap (λ y. map kind.value_of (take i (map text_of fields)) ++ y ∷ []) has.same
      ∙ sym (map-append kind.value_of (take i (map text_of fields)) (text ∷ []))
      ∙ ap (map kind.value_of) (sym (take_more (map text_of fields) i text inside ∙ ap (λ t. take i (map text_of fields) ++ t ∷ []) item))
