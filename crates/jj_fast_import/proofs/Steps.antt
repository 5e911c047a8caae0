-- The bytes that a reader of commands takes from its stream.
use Rattle.std.proofs.Common.{◌≡◌, ◌∙◌, ℕ, ◌-◌, ◌≤◌, Bool, true, List, [], ◌++◌, length, take, drop, Option, Some, None, Result, Ok, Err, refl, sym, ap, subst, arith, append_assoc}
use Rattle.std.proofs.lemmas.List.{drop_at, take-append-drop, length-append}
use Rattle.jj_fast_import.specs.Values.{CommandValue}
use Rattle.jj_fast_import.specs.Commands.{command_at}
use Rattle.jj_fast_import.proofs.Tails.{command_takes}

-- the length of a command is that of the bytes less that of the rest
pub step_found : (at_end : Bool) (bytes rest : List ℕ) (c : CommandValue) (used : ℕ) → command_at at_end bytes ≡ Ok (Some (c, rest)) → used ≡ length bytes - length rest
    → (used ≤ length bytes) × (command_at at_end (take used bytes ++ drop used bytes) ≡ Ok (Some (c, drop used bytes)))
step_found at_end bytes rest c used is e =
    let t = command_takes at_end bytes rest c is in
    let n : used ≡ length t.0 = omega (arith, e, ap length t.1, length-append t.0 rest) in
    let r : drop used bytes ≡ rest = ap (drop used) t.1 ∙ drop_at t.0 rest used (sym n) in
    (omega arith, ap (command_at at_end) (take-append-drop used bytes) ∙ is ∙ ap (λ (l : List ℕ). Ok (Some (c, l))) (sym r))
