use Rattle.std.proofs.Common.{◌≡◌, ◌∙◌, ℕ, List, true, false, refl, ap, subst, sym, Result, IfOk}
use Rattle.std.proofs.lemmas.Bool.{false_from_ne_true}
use Rattle.std.proofs.lemmas.Result.{IfOk-weaker}
use Rattle.std.proofs.lemmas.Str.{IsUtf8-from_is_utf8, is_utf8-from_IsUtf8, utf8_valid_len-IsValidUpTo}
use Rattle.std.specs.Prelude.{string_bytes}
use Rattle.std.specs.Str.{IsUtf8, IsValidUpTo, is_utf8}
use Rattle.jj_program.specs.declared.fault.Fault.{Fault}
use Rattle.jj_program.specs.declared.program.Command.{Command}
use Rattle.jj_program.specs.Messages.{message_of, text_message, utf8_message}
use Rattle.jj_program.proofs.message.message_of.Goals as goal

-- the message on the string is that on the input
of_text : (command : Command) (input text : List ℕ) (fault : Fault) → (text ≡ input) × IsUtf8 input → text_message command text fault ≡ message_of command input fault
of_text command input text fault read =
    let e : is_utf8 input ≡ true = is_utf8-from_IsUtf8 input read.1 in
    ap (λ t. text_message command t fault) read.0 ∙ rw e refl

of_bytes : (command : Command) (input : List ℕ) (fault : Fault) (place : ℕ) → ¬ (IsUtf8 input) → IsValidUpTo input place → utf8_message place ≡ message_of command input fault
of_bytes command input fault place other valid =
    let e : is_utf8 input ≡ false = false_from_ne_true (is_utf8 input) (λ h. other (IsUtf8-from_is_utf8 input h)) in
    ap utf8_message (sym (utf8_valid_len-IsValidUpTo input place valid)) ∙ rw e refl

same_message : {A E : Type 0} (bytes : A → List ℕ) (result : Result A E) (given wanted : List ℕ) → given ≡ wanted → IfOk result (λ m. bytes m ≡ given) → IfOk result (λ m. bytes m ≡ wanted)
same_message bytes result given wanted is = IfOk-weaker result (λ m. bytes m ≡ given) (λ m. bytes m ≡ wanted) (λ m e. e ∙ is)

pub returns-in-Ok : goal.returns-in-Ok
returns-in-Ok c = same_message string_bytes c.text_message.result _ _ (of_text c.args.command c.args.input.now c.in-Ok.text.now c.args.fault c.in-Ok.ensures.cases) c.text_message.ensures

pub returns-in-Err : goal.returns-in-Err
returns-in-Err c =
    let input = c.args.input.now in
    let valid : IsValidUpTo input c.valid_up_to.result = subst (IsValidUpTo input) (sym c.valid_up_to.ensures) c.in-Err.ensures.cases.1 in
    same_message string_bytes c.utf8_message.result _ _ (of_bytes c.args.command input c.args.fault c.valid_up_to.result c.in-Err.ensures.cases.0 valid) c.utf8_message.ensures
