use Rattle.std.proofs.Common.{◌⊎◌, ◌≢◌, inl, inr, List, subst}
use Rattle.std.proofs.lemmas.Result.{err_from_is_err_and}
use Rattle.jj_backend.specs.Objects.{file_object, AddsFile}
use Rattle.jj_trees.specs.MemoryObjects.{objects_of}
use Rattle.jj_mirror.proofs.LoggedOnce.{appended, only_logged, written}
use Rattle.jj_mirror_tests.proofs.logs.log_file.Goals as goal

pub returns-clause-ok : goal.returns-clause-ok
returns-clause-ok g c = λ entries had replay.
    let old = c.args.store.now in
    let new = c.write_file.new.self in
    let file = file_object c.args.contents.now in
    let logs = c.in_ok-id.ensures.logged in
    let adds = subst (λ (id : List _). AddsFile (objects_of old.backend) (objects_of new.backend) id c.args.contents.now) c.in_ok-id.ensures.id c.in_ok-id.ensures.ok in
    written (g.L.ObjectLog.contains new.log) entries old.backend file replay logs.1 (λ e. cc) new.backend
    (appended g.L.ObjectLog.contains old.log new.log entries (objects_of old.backend) file had logs.0) (adds, c.in_ok-id.ensures.frame)

pub returns-in_err-id-clause-err : goal.returns-in_err-id-clause-err
returns-in_err-id-clause-err g c =
    let old = c.args.store.now in
    let new = c.write_file.new.self in
    let file = file_object c.args.contents.now in
    let p = err_from_is_err_and c.from_residual.result c.from_residual.ensures.1 in
    rw p.1 (λ entries had replay. elim c.in_err-id.ensures.error [
      | inl kept ↦ inl (kept.0 entries had)
      | inr out ↦ inr (only_logged (g.L.ObjectLog.contains new.log) entries old.backend file replay out.0.1 (λ e. cc)
          (appended g.L.ObjectLog.contains old.log new.log entries (objects_of old.backend) file had out.0.0))
    ])
