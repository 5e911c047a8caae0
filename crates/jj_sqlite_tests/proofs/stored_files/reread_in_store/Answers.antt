use Rattle.std.proofs.Common.{List, ℕ, subst}
use Rattle.std.proofs.lemmas.Result.{IfOk-weaker}
use Rattle.jj_backend.specs.Objects.{commit_object}
use Rattle.jj_mirror.specs.Entries.{entry_of}
use Rattle.sqlite.specs.Files.{over_files}
use Rattle.jj_sqlite.specs.Closing.{FilesContain}
use Rattle.jj_sqlite.specs.Inserts.{StoresEntries}
use Rattle.jj_sqlite_tests.specs.SavedFiles.{IsLoaded}
use Rattle.jj_sqlite_tests.proofs.WrittenFiles.{HasWith-map, from_with}
use Rattle.jj_sqlite_tests.proofs.stored_files.reread_in_store.Goals as goal

pub returns-clause-commit : goal.returns-clause-commit
returns-clause-commit g c = IfOk-weaker c.load_commit.result _ _ (λ reread loads clean entries had replays.
    let New = StoresEntries over_files c.log_commit.new.store.log.conn in
    let Closed = FilesContain g.D.Disk c.in_ok-files.files in
    let entry = entry_of (commit_object c.args.commit) in
    from_with Closed _ entries entry (λ all saved has. loads clean all saved c.args.commit c.in-Ok.ensures.value has c.in-Ok.ensures.id)
    (HasWith-map New Closed (λ all stores. c.in_ok-files.ensures.entries all stores.now) entries entry (c.in-Ok.ensures.logged entries had replays))) c.load_commit.ensures.value

pub returns-clause-found : goal.returns-clause-found
returns-clause-found g c = IfOk-weaker c.load_commit.result _ _ (λ reread found clean. (
  c.in_ok-files.files,
  subst (λ (id : List ℕ). IsLoaded g.D.Disk c.in_ok-files.files reread.1 id reread.0) c.in-Ok.ensures.id (found clean),
)) c.load_commit.ensures.found
