use Rattle.std.proofs.Common.{◌≡◌, List, Result, Ok, IfOk, subst}
use Rattle.jj_backend.specs.Objects.{commit_object}
use Rattle.jj_mirror.specs.Entries.{LogEntryValue, entry_of}
use Rattle.sqlite.specs.Files.{over_files}
use Rattle.jj_sqlite.specs.Closing.{CrashContains, FilesContain, IsBackup}
use Rattle.jj_sqlite.specs.Inserts.{StoresEntries}
use Rattle.jj_sqlite_tests.proofs.WrittenFiles.{HasWith-map}
use Rattle.jj_sqlite_tests.proofs.callers.save_commit.Goals as goal

of_ok : {A E : Type 0} (result : Result A E) (value : A) (P : A → Type 0) → result ≡ Ok value → IfOk result P → P value
of_ok result value P is holds = subst (λ (r : Result _ _). IfOk r P) is holds

pub returns-clause-logged : goal.returns-clause-logged
returns-clause-logged g c = λ entries was_new.
    HasWith-map (StoresEntries over_files c.write_stored-written.result.1) (FilesContain g.D.Disk c.in_ok-files.files) (λ all stores. c.in_ok-files.ensures.entries all stores.now) entries (entry_of (commit_object c.args.commit))
    (of_ok c.write_stored-written.result.0 c.in_ok-id.id _ c.in_ok-id.was c.write_stored-written.ensures.logged entries was_new)

pub returns-clause-crash : goal.returns-clause-crash
returns-clause-crash g c = λ entries was_new.
    HasWith-map (StoresEntries over_files c.write_stored-written.result.1) (CrashContains g.D.Disk c.in_ok-files.files) (λ all stores. c.in_ok-files.ensures.crash all stores.now) entries (entry_of (commit_object c.args.commit))
    (of_ok c.write_stored-written.result.0 c.in_ok-id.id _ c.in_ok-id.was c.write_stored-written.ensures.logged entries was_new)

pub returns-clause-backup : goal.returns-clause-backup
returns-clause-backup g c = λ entries was_new.
    HasWith-map (StoresEntries over_files c.write_stored-written.result.1) (IsBackup g.D.Disk c.in_ok-files.files) (λ all stores. c.in_ok-files.ensures.backup all stores.now) entries (entry_of (commit_object c.args.commit))
    (of_ok c.write_stored-written.result.0 c.in_ok-id.id _ c.in_ok-id.was c.write_stored-written.ensures.logged entries was_new)
