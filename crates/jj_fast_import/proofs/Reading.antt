-- The unread bytes of a reader of commands, known or not.
use Rattle.std.proofs.Common.{◌≡◌, ◌∙◌, ℕ, ◌+◌, ◌≤◌, ◌⊎◌, inl, inr, Bool, true, false, List, [], ◌∷◌, ◌++◌, length, take, drop, Option, Some, None, IfSome, IfErr, IsErrAnd, Result, Ok, Err, refl, sym, ap, subst, append_assoc, append-nil, take-append-drop}
use Rattle.std.specs.Io.KnownBytes.{Consumes, IsAtEnd, Keeps}
use Rattle.jj_fast_import.specs.declared.command.Command.{Command}
use Rattle.jj_fast_import.specs.declared.fault.Expected.{Expected}
use Rattle.jj_fast_import.specs.declared.fault.Stop.TheVariants.{Incomplete, Malformed}
use Rattle.jj_fast_import.specs.declared.reader.StreamError.{StreamError}
use Rattle.jj_fast_import.specs.declared.reader.StreamError.TheVariants as errors
use Rattle.jj_fast_import.specs.Values.{CommandValue, command_value}
use Rattle.jj_fast_import.specs.Commands.{command_at}
use Rattle.jj_fast_import.specs.Streams.{AreAllCommandsOf, AreCommandsOf, AreReadFrom, HasNoCommand, IsReadFrom, IsSourceFailure, IsStepOf, IsStopOf, ends_in_done, is_end, unread_at}
use Rattle.jj_fast_import.proofs.Continued.{command_continued, end_continued, malformed_continued}

-- 1. What pending bytes say of the stream.

first_at : (at_end : Bool) (pending rest : List ℕ) (remaining : Option (List ℕ)) (command : CommandValue) → command_at at_end pending ≡ Ok (Some (command, rest))
    → IsReadFrom (unread_at at_end pending remaining) (unread_at at_end rest remaining) command
first_at true pending rest remaining command is = is
first_at false pending rest None command is = tt
first_at false pending rest (Some xs) command is = command_continued true pending xs rest command is

pub none_at : (at_end : Bool) (pending : List ℕ) (remaining : Option (List ℕ)) → command_at at_end pending ≡ Ok None → HasNoCommand (unread_at at_end pending remaining)
none_at true pending remaining is = is
none_at false pending None is = tt
none_at false pending (Some xs) is = end_continued true pending xs is

pub malformed_at : (at_end : Bool) (pending : List ℕ) (remaining : Option (List ℕ)) (kind : Expected) (left : ℕ) → command_at at_end pending ≡ Err (Malformed kind left)
    → IfSome (unread_at at_end pending remaining) (λ bytes. (left : ℕ) × (command_at true bytes ≡ Err (Malformed kind left)))
malformed_at true pending remaining kind left is = (left, is)
malformed_at false pending None kind left is = tt
malformed_at false pending (Some xs) kind left is = (left + length xs, malformed_continued true pending xs kind left is)

pub incomplete_at : (at_end : Bool) (pending : List ℕ) (remaining : Option (List ℕ)) → at_end ≡ true → command_at at_end pending ≡ Err Incomplete
    → IfSome (unread_at at_end pending remaining) (λ bytes. command_at true bytes ≡ Err Incomplete)
incomplete_at true pending remaining e is = is
incomplete_at false pending remaining e is = absurd cc

pub memory_stop : {A : Type 0} (r : Result A StreamError) (known : Option (List ℕ)) (announced : Bool) → IsErrAnd r (λ error. error ≡ errors.Memory) → IfErr r (IsStopOf known announced)
memory_stop (Ok x) known announced is = tt
memory_stop (Err error) known announced is = subst (IsStopOf known announced) (sym is) tt

pub failure_stop : (error : StreamError) (known : Option (List ℕ)) (announced : Bool) → IsSourceFailure error → IsStopOf known announced error
failure_stop errors.Memory known announced h = tt
failure_stop errors.Read known announced h = tt
failure_stop (errors.UnexpectedEnd line) known announced h = absurd h
failure_stop (errors.MissingDone line) known announced h = absurd h
failure_stop (errors.Malformed line kind quoted) known announced h = absurd h

pub step_at : (at_end : Bool) (pending rest : List ℕ) (remaining : Option (List ℕ)) (command : Command) (used : ℕ) → IsStepOf at_end pending (Some (command, used)) → rest ≡ drop used pending
    → IsReadFrom (unread_at at_end pending remaining) (unread_at at_end rest remaining) (command_value command)
step_at at_end pending rest remaining command used step e =
    first_at at_end pending rest remaining (command_value command)
    (ap (command_at at_end) (sym (take-append-drop used pending)) ∙ step.1 ∙ ap (λ (l : List ℕ). Ok (Some (command_value command, l))) (sym e))

-- 2. Unread bytes that stay the same.

pub kept_first : (a b after : Option (List ℕ)) (command : CommandValue) → Keeps a b → IsReadFrom b after command → IsReadFrom a after command
kept_first None b after command p h = tt
kept_first (Some x) None after command p h = absurd p
kept_first (Some x) (Some y) after command p h = subst (λ l. IsReadFrom (Some l) after command) p h

pub kept_none : (a b : Option (List ℕ)) → Keeps a b → HasNoCommand b → HasNoCommand a
kept_none None b p h = tt
kept_none (Some x) None p h = absurd p
kept_none (Some x) (Some y) p h = ap (command_at true) (sym p) ∙ h

kept_if : (a b : Option (List ℕ)) (P : List ℕ → Type 0) → Keeps a b → IfSome b P → IfSome a P
kept_if None b P p h = tt
kept_if (Some x) None P p h = absurd p
kept_if (Some x) (Some y) P p h = subst P p h

pub kept_stop : (a b : Option (List ℕ)) (announced : Bool) (error : StreamError) → Keeps a b → IsStopOf b announced error → IsStopOf a announced error
kept_stop a b announced errors.Memory p h = tt
kept_stop a b announced errors.Read p h = tt
kept_stop a b announced (errors.UnexpectedEnd line) p h = kept_if a b (λ bytes. command_at true bytes ≡ Err Incomplete) p h
kept_stop a b announced (errors.MissingDone line) p h = (h.0, kept_none a b p h.1)
kept_stop a b announced (errors.Malformed line kind quoted) p h = kept_if a b (λ bytes. (left : ℕ) × (command_at true bytes ≡ Err (Malformed kind left))) p h

pub kept_on : (was at_end : Bool) (pending added new : List ℕ) (old remaining : Option (List ℕ)) → was ≡ false → Consumes old remaining added → (at_end ≡ true → IsAtEnd remaining)
    → new ≡ pending ++ added → Keeps (unread_at was pending old) (unread_at at_end new remaining)
kept_on true at_end pending added new old remaining w p end e = absurd cc
kept_on false at_end pending added new None remaining w p end e = tt
kept_on false at_end pending added new (Some xs) None w p end e = absurd p
kept_on false true pending added new (Some xs) (Some ys) w p end e = e ∙ ap (λ l. pending ++ l) (sym (p ∙ ap (λ l. added ++ l) (end refl) ∙ append-nil added))
kept_on false false pending added new (Some xs) (Some ys) w p end e = ap (λ l. l ++ ys) e ∙ append_assoc pending added ys ∙ ap (λ l. pending ++ l) (sym p)

-- 3. Commands, one after the other.

commands_more : (commands : List CommandValue) (command : CommandValue) (bytes between rest : List ℕ) → AreCommandsOf commands bytes between → command_at true between ≡ Ok (Some (command, rest))
    → AreCommandsOf (commands ++ command ∷ []) bytes rest
commands_more [] command bytes between rest h is = (rest, ap (command_at true) h ∙ is, refl)
commands_more (first ∷ commands) command bytes between rest h is = (h.0, h.1, commands_more commands command h.0 between rest h.2 is)

pub read_none : (a : Option (List ℕ)) → AreReadFrom a a []
read_none None = tt
read_none (Some x) = refl

pub read_more : (commands : List CommandValue) (command : CommandValue) (a b c : Option (List ℕ)) → AreReadFrom a b commands → IsReadFrom b c command → AreReadFrom a c (commands ++ command ∷ [])
read_more commands command None b c h is = tt
read_more commands command (Some x) None c h is = absurd h
read_more commands command (Some x) (Some y) None h is = absurd is
read_more commands command (Some x) (Some y) (Some z) h is = commands_more commands command x y z h is

pub read_kept : (commands : List CommandValue) (a b c : Option (List ℕ)) → AreReadFrom a b commands → Keeps b c → AreReadFrom a c commands
read_kept commands None b c h p = tt
read_kept commands (Some x) None c h p = absurd h
read_kept commands (Some x) (Some y) None h p = absurd p
read_kept commands (Some x) (Some y) (Some z) h p = subst (AreCommandsOf commands x) (sym p) h

pub ends_in_last : (commands : List CommandValue) (command : CommandValue) → ends_in_done (commands ++ command ∷ []) ≡ is_end command
ends_in_last [] command = refl
ends_in_last (first ∷ []) command = refl
ends_in_last (first ∷ next ∷ commands) command = ends_in_last (next ∷ commands) command

pub all_read : (commands : List CommandValue) (stream : List ℕ) (known : Option (List ℕ)) (done : Bool) → AreReadFrom (Some stream) known commands → done ≡ ends_in_done commands
    → (done ≡ true) ⊎ HasNoCommand known → AreAllCommandsOf commands stream
all_read commands stream None done h e end = absurd h
all_read commands stream (Some rest) done h e (inl is) = (rest, h, inl (sym e ∙ is))
all_read commands stream (Some rest) done h e (inr none) = (rest, h, inr none)
