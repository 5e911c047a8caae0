-- Results on UTF-8 input and on other input.
use Rattle.std.proofs.Common.{◌≡◌, ℕ, List, true, false, refl, subst, sym, Result, Ok, Err, IfOk, IfErr}
use Rattle.std.proofs.lemmas.Result.{IfOk-weaker, IfErr-weaker}
use Rattle.std.specs.Str.{IsUtf8, is_utf8}
use Rattle.std.proofs.lemmas.Str.{IsUtf8-from_is_utf8, is_utf8-from_IsUtf8}
use Rattle.std.proofs.lemmas.Bool.{false_from_ne_true}
use Rattle.jj_program.specs.declared.program.Command.{Command}
use Rattle.jj_program.specs.declared.fault.Fault.{Fault}
use Rattle.jj_program.specs.declared.fault.Fault.TheVariants.{NotUtf8}
use Rattle.jj_filter.specs.declared.failure.Failure.{Failure}
use Rattle.jj_filter.specs.declared.failure.Failure.TheVariants.{ReadInput, Memory, WriteOutput, Input}
use Rattle.jj_filter.specs.Runs.{IsInputFailure}
use Rattle.jj_program.specs.Lines.{IsFaultOf}
use Rattle.jj_program.specs.Program.{FaultsOf, HasResult, HasResultOnText}

-- the result on UTF-8 input is that of its string
pub result_on_text : (command : Command) (input : List ℕ) (answer : Result (List ℕ) Fault) → IsUtf8 input → HasResultOnText command input answer → HasResult command input answer
result_on_text command input answer utf8 given = let e : is_utf8 input ≡ true = is_utf8-from_IsUtf8 input utf8 in rw e given

-- other input is the fault `NotUtf8`
pub gives_not_utf8 : (command : Command) (input : List ℕ) → ¬ (IsUtf8 input) → HasResult command input (Err NotUtf8)
gives_not_utf8 command input f = let e : is_utf8 input ≡ false = false_from_ne_true (is_utf8 input) (λ h. f (IsUtf8-from_is_utf8 input h)) in rw e refl

-- the result on the string is the result on the input
pub known_result : (command known : Command) (input : List ℕ) (answer : Result (List ℕ) Fault) → command ≡ known → IsUtf8 input → HasResultOnText known input answer → HasResult command input answer
known_result command known input answer is utf8 given = result_on_text command input answer utf8 (subst (λ c. HasResultOnText c input answer) (sym is) given)

-- a fault of the string is a fault of the input
pub known_fault : {A : Type 0} (command known : Command) (input : List ℕ) (requested : Result A Fault) → ((fault : Fault) → requested ≡ Err fault → HasResultOnText known input (Err fault)) → command ≡ known
    → (failure : Failure Fault) → IsUtf8 input → IsFaultOf failure requested → IsInputFailure (FaultsOf command input) failure
known_fault command known input requested given is Memory utf8 h = tt
known_fault command known input requested given is ReadInput utf8 h = h
known_fault command known input requested given is (WriteOutput is_closed) utf8 h = h
known_fault command known input requested given is (Input fault) utf8 h = known_result command known input (Err fault) is utf8 (given fault h)

-- each command is called with the input's string, so its output and its fault are the input's
module _ {X : Type 0} (command known : Command) (input text : List ℕ) (result : Result X (Failure Fault)) (is : command ≡ known) (read : (text ≡ input) × IsUtf8 input) where
  pub known_output : (items : X → List ℕ) → IfOk result (λ output. HasResultOnText known text (Ok (items output))) → IfOk result (λ output. HasResult command input (Ok (items output)))
  known_output items = IfOk-weaker result (λ output. HasResultOnText known text (Ok (items output))) (λ output. HasResult command input (Ok (items output)))
      (λ output given. known_result command known input (Ok (items output)) is read.1 (subst (λ t. HasResultOnText known t (Ok (items output))) read.0 given))

  pub known_failure : {A : Type 0} (requested : List ℕ → Result A Fault) → ((fault : Fault) → requested input ≡ Err fault → HasResultOnText known input (Err fault))
      → IfErr result (λ fault. IsFaultOf fault (requested text)) → IfErr result (IsInputFailure (FaultsOf command input))
  known_failure requested given = IfErr-weaker result (λ fault. IsFaultOf fault (requested text)) (IsInputFailure (FaultsOf command input))
      (λ fault found. known_fault command known input (requested input) given is fault read.1 (subst (λ t. IsFaultOf fault (requested t)) read.0 found))

  -- both
  pub known_answer : {A : Type 0} (items : X → List ℕ) (requested : List ℕ → Result A Fault) → ((fault : Fault) → requested input ≡ Err fault → HasResultOnText known input (Err fault))
      → IfOk result (λ output. HasResultOnText known text (Ok (items output))) → IfErr result (λ fault. IsFaultOf fault (requested text))
      → IfOk result (λ output. HasResult command input (Ok (items output))) × IfErr result (IsInputFailure (FaultsOf command input))
  known_answer items requested given done fault = (known_output items done, known_failure requested given fault)
