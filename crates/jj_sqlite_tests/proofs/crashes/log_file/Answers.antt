use Rattle.std.proofs.Common.{inl, inr, List, subst}
use Rattle.jj_backend.specs.Objects.{file_object, AddsFile}
use Rattle.jj_trees.specs.MemoryObjects.{objects_of}
use Rattle.jj_mirror.specs.Entries.{entry_of}
use Rattle.jj_mirror.proofs.LoggedOnce.{HasReplay, WithEntry-map, only_logged, written}
use Rattle.jj_sqlite.specs.Inserts.{StoresEntries}
use Rattle.jj_mirror_tests.proofs.LoggedFiles.{on_err}
use Rattle.jj_sqlite_tests.proofs.crashes.log_file.Goals as goal

pub returns-clause-ok : goal.returns-clause-ok
returns-clause-ok g c = λ entries had replay.
    let old = c.args.store.now in
    let new = c.write_file.new.self in
    let file = file_object c.args.contents.now in
    let logs = c.in_ok-write_file.ensures.logged in
    let adds = subst (λ (id : List _). AddsFile (objects_of old.backend) (objects_of new.backend) id c.args.contents.now) c.in_ok-write_file.ensures.id c.in_ok-write_file.ensures.ok in
    written (StoresEntries g.S.Store new.log.conn) entries old.backend file replay logs.1 (λ e. cc) new.backend (elim logs.0 [
      | inl same ↦ inl (same.0, rw same.1 had)
      | inr lacks ↦ inr (lacks.0, lacks.1 entries had)
    ]) (adds, c.in_ok-write_file.ensures.frame)

pub returns-in_err-write_file-clause-err : goal.returns-in_err-write_file-clause-err
returns-in_err-write_file-clause-err g c =
    let old = c.args.store.now in
    let new = c.write_file.new.self in
    let file = file_object c.args.contents.now in
    let New = StoresEntries g.S.Store new.log.conn in
    on_err c.from_residual.result (λ entries had replay. elim c.in_err-write_file.ensures.error [
      | inl kept ↦ inl (kept.0 entries had)
      | inr out ↦ inr (WithEntry-map (λ all. New all × HasReplay all) New (λ all both. both.0) entries (entry_of file)
          (only_logged New entries old.backend file replay out.0.1 (λ e. cc) (elim out.0.0 [
            | inl same ↦ inl (same.0, rw same.1 had)
            | inr lacks ↦ inr (lacks.0, lacks.1 entries had)
          ])))
    ])
