use Rattle.std.proofs.Common.{List, ℕ, subst}
use Rattle.std.proofs.lemmas.Result.{IfOk-weaker}
use Rattle.jj_backend.specs.Objects.{commit_object}
use Rattle.jj_mirror.specs.Entries.{entry_of}
use Rattle.jj_sqlite.specs.Closing.{FilesContain}
use Rattle.sqlite.specs.Files.{file_state}
use Rattle.sqlite.specs.State.{HasCleanDisk}
use Rattle.jj_sqlite_tests.specs.SavedFiles.{IsLoaded}
use Rattle.jj_sqlite_tests.proofs.WrittenFiles.{from_with}
use Rattle.jj_sqlite_tests.proofs.callers.reread_commit.Goals as goal

pub returns-clause-commit : goal.returns-clause-commit
returns-clause-commit g c = IfOk-weaker c.load_commit.result _ _ (λ reread loads clean entries was_new.
    from_with (FilesContain g.D.Disk c.in_ok-saved.saved.1) _ entries (entry_of (commit_object c.args.commit)) (λ all saved has. loads clean all saved c.args.commit c.in_ok-saved.ensures.value has c.in_ok-saved.ensures.id)
    (c.in_ok-saved.ensures.logged entries was_new)) c.load_commit.ensures.value

pub returns-clause-files : goal.returns-clause-files
returns-clause-files g c = IfOk-weaker c.load_commit.result _ _ (λ reread found. (
  c.in_ok-saved.saved.1,
  λ entries was_new. record {
    now = c.in_ok-saved.ensures.logged entries was_new;
    crash = c.in_ok-saved.ensures.crash entries was_new;
    backup = c.in_ok-saved.ensures.backup entries was_new;
  },
  subst (λ (id : List ℕ). HasCleanDisk (file_state reread.1) → IsLoaded g.D.Disk c.in_ok-saved.saved.1 reread.1 id reread.0) c.in_ok-saved.ensures.id found,
)) c.load_commit.ensures.found
