-- The first line of an input and its fault; the remaining items of a list.
use Rattle.std.proofs.Common.{◌≡◌, ℕ, ◌<◌, List, [], ◌∷◌, Result, Ok, Err, ◌+◌, map, drop, drop-cons, add-one, suc, get_or, length, refl, ap, sym, ◌∙◌}
use Rattle.std.specs.Prelude.{MatchResult}
use Rattle.std.proofs.lemmas.List.{drop-map}
use Rattle.jj_program.specs.declared.fault.LineFault.{LineFault}
use Rattle.jj_program.specs.declared.fault.Fault.{Fault}
use Rattle.jj_filter.specs.declared.failure.Failure.{Failure}
use Rattle.jj_filter.specs.declared.failure.Failure.TheVariants.{ReadInput, Memory, WriteOutput, Input}
use Rattle.jj_program.specs.Lines.{lines_of, after_line, after_lines, result_and_then, IsFaultOf, LeadsTo}

-- the models of the items after the first i
pub drop_map_next : {A : Type 0} (view : A → List ℕ) (items : List A) (i : ℕ) (d : A) → i < length items
    → drop i (map view items) ≡ view (get_or items i d) ∷ drop (i + 1) (map view items)
drop_map_next view items i d h =
    drop-map view i items ∙ ap (map view) (drop-cons items i d h) ∙ ap (λ l. view (get_or items i d) ∷ l) (sym (rw add-one (drop-map view (suc i) items)))

-- an input with a line feed is its first line and a remainder
pub record IsFirstLine (text line behind : List ℕ) : Type 0 where
  pub first : lines_of text ≡ line ∷ lines_of behind
  pub shorter : length behind < length text

-- a line's fault is that of the remaining lines
pub IsFaultOf-first : {S T : Type 0} (fault : Failure Fault) (first : Result S Fault) (more : S → Result T Fault) (whole : Result T Fault)
    → result_and_then first more ≡ whole → IsFaultOf fault first → IsFaultOf fault whole
IsFaultOf-first Memory first more whole e h = tt
IsFaultOf-first ReadInput first more whole e h = h
IsFaultOf-first (WriteOutput is_closed) first more whole e h = h
IsFaultOf-first (Input fault) first more whole e h = sym e ∙ ap (λ r. result_and_then r more) h

module _ {S : Type 0} (step : S → List (List ℕ) → Result S LineFault) where
  -- one more line
  pub next_line : (number : ℕ) (state next : S) (text line behind : List ℕ) (whole : Result S Fault) → IsFirstLine text line behind
      → after_lines step number state (lines_of text) ≡ whole → after_line step number state line ≡ Ok next
      → after_lines step (number + 1) next (lines_of behind) ≡ whole
  next_line number state next text line behind whole cut all taken =
      sym (ap (λ r. result_and_then r (λ further. after_lines step (number + 1) further (lines_of behind))) taken)
      ∙ sym (ap (after_lines step number state) cut.first) ∙ all

  -- a line's fault is that of the input
  pub line_fault : (fault : Failure Fault) (number : ℕ) (state : S) (text line : List ℕ) (behind : List (List ℕ)) (whole : Result S Fault) → lines_of text ≡ line ∷ behind
      → after_lines step number state (lines_of text) ≡ whole → IsFaultOf fault (after_line step number state line) → IsFaultOf fault whole
  line_fault fault number state text line behind whole first all found =
      IsFaultOf-first fault _ (λ further. after_lines step (number + 1) further behind) whole (sym (ap (after_lines step number state) first) ∙ all) found

  -- the last line
  last_of : (number : ℕ) (r : Result S Fault) → result_and_then r (λ further. after_lines step (number + 1) further []) ≡ r
  last_of number (Ok next) = refl
  last_of number (Err fault) = refl

  pub last_line : (number : ℕ) (state : S) (text : List ℕ) (whole : Result S Fault) → lines_of text ≡ text ∷ []
      → after_lines step number state (lines_of text) ≡ whole → after_line step number state text ≡ whole
  last_line number state text whole one all = sym (last_of number (after_line step number state text)) ∙ sym (ap (after_lines step number state) one) ∙ all

-- a state that is a function of the value
pub leads_to : {V F S : Type 0} (result : Result V (Failure F)) (reached : S) (expected : Result S F) → MatchResult result (λ _. expected ≡ Ok reached) (λ failure. IsFaultOf failure expected)
    → LeadsTo result (λ state. reached ≡ state) expected
leads_to (Ok value) reached expected is = (reached, is, refl)
leads_to (Err failure) reached expected is = is
