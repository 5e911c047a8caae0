-- The command at the start of bytes, and the commands of a reader.
-- Cited by contracts of public items: AreAllCommandsOf, AreCommandsOf, AreReadFrom, HasNoCommand,
-- IsReadFrom, IsStopOf, is_announced_after, is_done, is_done_after, is_end, is_end_announced,
-- unread_bytes.
use Rattle.std.specs.Prelude.{◌≡◌, ◌≤◌, ◌⊎◌, ⊤, ℕ, Bool, true, false, ◌||◌, List, [], ◌∷◌, ◌++◌, length, take, drop, codes, Option, Some, None, IfSome, Ok, Err}
use Rattle.std.specs.Io.KnownBytes.{prepend_known}
use Rattle.std.specs.Str.{bytes_eq}
use Rattle.jj_fast_import.specs.declared.command.Command.{Command}
use Rattle.jj_fast_import.specs.declared.fault.Stop.TheVariants.{Incomplete, Malformed}
use Rattle.jj_fast_import.specs.declared.reader.CommandReader.{CommandReader}
use Rattle.jj_fast_import.specs.declared.reader.StreamError.{StreamError}
use Rattle.jj_fast_import.specs.declared.reader.StreamError.TheVariants as errors
use Rattle.jj_fast_import.specs.Values.{CommandValue, Ends, Features, command_value}
use Rattle.jj_fast_import.specs.Commands.{command_at}

-- 1. Parsing.

-- the command at the start of the bytes, and its length; none at the end of the stream
abbrev pub IsStepOf : Bool → List ℕ → Option (Command × ℕ) → Type 0
IsStepOf at_end bytes None = command_at at_end bytes ≡ Ok None
IsStepOf at_end bytes (Some (command, used)) = (used ≤ length bytes)
    × (command_at at_end (take used bytes ++ drop used bytes)
    ≡ Ok (Some (command_value command, drop used bytes)))

-- 2. Readers.

-- the bytes that a reader has read from its source and not returned as commands
abbrev pub pending_bytes : {R : Type 0} → CommandReader R → List ℕ
pending_bytes reader = drop reader.start reader.buffer.items

-- the pending bytes, and after them those of the source, if they are known, unless it has ended
abbrev pub unread_at : Bool → List ℕ → Option (List ℕ) → Option (List ℕ)
unread_at true pending remaining = Some pending
unread_at false pending remaining = prepend_known pending remaining

-- the bytes of the stream that a reader has not returned as commands, if they are known
abbrev pub unread_bytes : {R : Type 0} → (R → Option (List ℕ)) → CommandReader R → Option (List ℕ)
unread_bytes remaining reader =
    unread_at reader.is_at_end (pending_bytes reader) (remaining reader.source)

-- whether a reader has returned the command `done`
abbrev pub is_done : {R : Type 0} → CommandReader R → Bool
is_done reader = reader.is_done

-- whether a reader has returned the command `feature done`
abbrev pub is_end_announced : {R : Type 0} → CommandReader R → Bool
is_end_announced reader = reader.needs_done

-- whether the command is `done`
abbrev pub is_end : CommandValue → Bool
is_end Ends = true
is_end command = false

-- whether the command is `feature done`
abbrev pub announces_end : CommandValue → Bool
announces_end (Features feature) = bytes_eq feature (codes "done")
announces_end command = false

-- whether `done`, or `feature done`, was returned before or with a command, if there is one
abbrev pub is_done_after : Bool → Option Command → Bool
is_done_after done None = done
is_done_after done (Some command) = is_end (command_value command)

abbrev pub is_announced_after : Bool → Option Command → Bool
is_announced_after announced None = announced
is_announced_after announced (Some command) = announces_end (command_value command) || announced

-- 3. Commands of a stream.

-- The grammar reads the command first from the earlier bytes, which end the stream, and leaves the
-- later ones, if they are known.
abbrev pub IsReadFrom : Option (List ℕ) → Option (List ℕ) → CommandValue → Type 0
IsReadFrom None after command = ⊤
IsReadFrom (Some bytes) None command = ⊥
IsReadFrom (Some bytes) (Some rest) command = command_at true bytes ≡ Ok (Some (command, rest))

-- the bytes, which end the stream, have no command, if they are known
abbrev pub HasNoCommand : Option (List ℕ) → Type 0
HasNoCommand known = IfSome known (λ bytes. command_at true bytes ≡ Ok None)

-- Why no command is read: the grammar's error for the bytes, if they are known, or their end where
-- another was announced. Sources and memory fail at any time.
abbrev pub IsStopOf : Option (List ℕ) → Bool → StreamError → Type 0
IsStopOf known announced errors.Memory = ⊤
IsStopOf known announced errors.Read = ⊤
IsStopOf known announced (errors.UnexpectedEnd line) =
    IfSome known (λ bytes. command_at true bytes ≡ Err Incomplete)
IsStopOf known announced (errors.MissingDone line) = (announced ≡ true) × HasNoCommand known
IsStopOf known announced (errors.Malformed line expected quoted) =
    IfSome known (λ bytes. (left : ℕ) × (command_at true bytes ≡ Err (Malformed expected left)))

-- memory ran out, or the source failed
abbrev pub IsSourceFailure : StreamError → Type 0
IsSourceFailure errors.Memory = ⊤
IsSourceFailure errors.Read = ⊤
IsSourceFailure (errors.UnexpectedEnd line) = ⊥
IsSourceFailure (errors.MissingDone line) = ⊥
IsSourceFailure (errors.Malformed line expected quoted) = ⊥

-- The commands are those of the earlier bytes, one after the other: each is the first of the bytes
-- that the one before it leaves, and the last leaves the later bytes.
abbrev pub AreCommandsOf : List CommandValue → List ℕ → List ℕ → Type 0
AreCommandsOf [] bytes rest = bytes ≡ rest
AreCommandsOf (command ∷ commands) bytes rest = (between : List ℕ)
    × (command_at true bytes ≡ Ok (Some (command, between))) × AreCommandsOf commands between rest

-- the commands are those of the earlier bytes, up to the later ones, if they are known
abbrev pub AreReadFrom : Option (List ℕ) → Option (List ℕ) → List CommandValue → Type 0
AreReadFrom None after commands = ⊤
AreReadFrom (Some bytes) None commands = ⊥
AreReadFrom (Some bytes) (Some rest) commands = AreCommandsOf commands bytes rest

-- whether the last of the commands is `done`
abbrev pub ends_in_done : List CommandValue → Bool
ends_in_done [] = false
ends_in_done (command ∷ []) = is_end command
ends_in_done (command ∷ next ∷ commands) = ends_in_done (next ∷ commands)

-- The commands are all those of the bytes of a stream, one after the other: up to its end, or up to
-- and with `done`.
abbrev pub AreAllCommandsOf : List CommandValue → List ℕ → Type 0
AreAllCommandsOf commands bytes = (rest : List ℕ) × AreCommandsOf commands bytes rest
    × ((ends_in_done commands ≡ true) ⊎ (command_at true rest ≡ Ok None))
