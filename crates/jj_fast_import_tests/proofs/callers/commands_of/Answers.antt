use Rattle.std.proofs.Common.{◌≡◌, ◌∙◌, ◌∷◌, ◌++◌, [], List, Some, ap, map, subst, sym}
use Rattle.std.proofs.lemmas.List.{map-append}
use Rattle.jj_fast_import.specs.Streams.{AreReadFrom, ends_in_done, unread_bytes}
use Rattle.jj_fast_import.specs.Values.{CommandValue, command_value}
use Rattle.jj_fast_import.proofs.Reading.{ends_in_last, read_more}
use Rattle.jj_fast_import_tests.proofs.callers.commands_of.Goals as goal
use Rattle.jj_fast_import_tests.proofs.callers.commands_of.Invariants.{remaining}

pub loop-preserved : goal.loop-preserved
loop-preserved c =
    let commands = map command_value c.loop.commands.items in
    let command = command_value c.in-Some.command in
    let unread = unread_bytes remaining c.next_command.new.self in
    let mapped : map command_value c.push.new.self.items ≡ commands ++ command ∷ [] =
    ap (map command_value) c.in_ok-push-in-Some.ensures.items ∙ map-append command_value c.loop.commands.items (c.in-Some.command ∷ []) in
    record {
      read = subst (λ (l : List CommandValue). AreReadFrom (Some c.args.stream.now) unread l) (sym mapped)
          (read_more commands command (Some c.args.stream.now) (unread_bytes remaining c.loop.reader) unread c.loop.invariant.read (rw c.in-Some.is at c.in_ok-command.ensures.command));
      done = (rw c.in-Some.is at c.in_ok-command.ensures.done) ∙ sym (ap ends_in_done mapped ∙ ends_in_last commands command);
    }
