use Rattle.std.proofs.Common.{◌≡◌, ◌+◌, List, true}
use Rattle.jj_backend.specs.Objects.{Objects}
use Rattle.jj_fast_import.specs.Streams.{AreReadFrom, is_done, unread_bytes}
use Rattle.jj_fast_import.specs.Values.{CommandValue}
use Rattle.jj_import.specs.ImportStates.{state_of}
use Rattle.jj_import.specs.ImportedCommands.{AreCommandsImported, IsDoneRead, commits_in}
use Rattle.jj_import.specs.Stored.{IsExtended}
use Rattle.jj_import.proofs.stream.import_commands.Given as goal

abbrev pub invariant-loop : goal.invariant-loop
invariant-loop g l = record {
  imported : (commands : List CommandValue) × (commits_in commands + l.left ≡ l.limit)
      × ((objects : Objects) → IsExtended (g.B.Backend.objects l.backend) objects
      → AreCommandsImported objects (g.B.Backend.fixed l.fn.backend).root_commit_id commands (state_of l.fn.importer) (state_of l.importer))
      × AreReadFrom (unread_bytes g.R.Source.remaining l.fn.reader) (unread_bytes g.R.Source.remaining l.reader) commands
      × (is_done l.reader ≡ true → IsDoneRead (is_done l.fn.reader) commands);
  objects : IsExtended (g.B.Backend.objects l.fn.backend) (g.B.Backend.objects l.backend);
  same : g.B.Backend.fixed l.backend ≡ g.B.Backend.fixed l.fn.backend;
}
