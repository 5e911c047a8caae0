-- The commands so far are those of the bytes before the unread ones.
use Rattle.std.proofs.Common.{◌≡◌, ℕ, List, Option, Some, map}
use denote.Ref.{Bor}
use Rattle.jj_files.specs.WatchedFields.{watched_inner}
use Rattle.jj_files.specs.declared.file_util.Watched.{Watched}
use Rattle.jj_fast_import.specs.Streams.{AreReadFrom, ends_in_done, is_done, unread_bytes}
use Rattle.jj_fast_import.specs.Values.{command_value}
use Rattle.jj_fast_import_tests.proofs.callers.commands_of.Given as goal

abbrev pub remaining : Watched (Bor (List ℕ)) → Option (List ℕ)
remaining source = Some (watched_inner source).now

abbrev pub invariant-loop : goal.invariant-loop
invariant-loop l = record {
  read : AreReadFrom (Some l.stream) (unread_bytes remaining l.reader) (map command_value l.commands.items);
  done : is_done l.reader ≡ ends_in_done (map command_value l.commands.items);
}
