use Rattle.std.proofs.Common.{List, take}
use Rattle.jj_mirror.specs.Entries.{LogEntryValue}
use Rattle.jj_mirror.specs.Logs.{WithEntries}
use Rattle.jj_mirror.specs.Replays.{IsReplay}
use Rattle.jj_sqlite.specs.Inserts.{StoresEntries}
use Rattle.jj_mirror_tests.proofs.LoggedFiles.{entries_of}
use Rattle.jj_sqlite_tests.proofs.crashes.write_files.Given as goal

abbrev pub invariant-loop-contents : goal.invariant-loop-contents
invariant-loop-contents g l = (entries : List LogEntryValue) → StoresEntries g.S.Store l.fn.store.log.conn entries → IsReplay entries l.fn.store.backend
    → WithEntries (λ all. StoresEntries g.S.Store l.store.log.conn all × IsReplay all l.store.backend) entries (entries_of (take l.contents-index l.files))
