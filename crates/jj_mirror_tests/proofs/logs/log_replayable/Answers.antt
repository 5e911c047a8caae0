use Rattle.std.proofs.Common.{◌≡◌, List, inl, inr, refl, sym, subst}
use Rattle.jj_backend.specs.Objects.{Object, commit_object}
use Rattle.jj_backend.specs.Records.{CommitValue}
use Rattle.jj_trees.specs.MemoryObjects.{MemoryBackendValue, objects_of}
use Rattle.jj_mirror.specs.Entries.{LogEntryValue, entry_of}
use Rattle.jj_mirror.specs.Logs.{Logs}
use Rattle.jj_mirror.specs.Replays.{IsReplay}
use Rattle.jj_mirror.proofs.LoggedOnce.{HasReplay, appended, only_logged}
use Rattle.jj_mirror_tests.proofs.LoggedFiles.{with_one}
use Rattle.jj_mirror_tests.proofs.logs.log_replayable.Goals as goal

-- a log that was written has a replay
logged : (log new_log : List LogEntryValue) (old : MemoryBackendValue) (commit : CommitValue) → IsReplay log old
    → Logs (λ (l entries : List LogEntryValue). l ≡ entries) log new_log (objects_of old) (commit_object commit) → HasReplay new_log
logged log new_log old commit replay logs =
    with_one (λ all. (new_log ≡ all) × HasReplay all) (HasReplay new_log) (λ all both. subst HasReplay (sym both.0) both.1) log (entry_of (commit_object commit))
    (only_logged (λ all. new_log ≡ all) log old (commit_object commit) replay logs.1 (λ e. cc)
    (appended (λ (l entries : List LogEntryValue). l ≡ entries) log new_log log (objects_of old) (commit_object commit) refl logs.0))

pub returns : goal.returns
returns c = λ replay.
    let old = c.args.store.now in
    logged old.log c.write_commit.new.self.log old.backend c.in_ok-stored.stored.1 replay c.in_ok-stored.ensures.logged

pub returns-in_err-stored : goal.returns-in_err-stored
returns-in_err-stored c = λ replay.
    let old = c.args.store.now in
    let new = c.write_commit.new.self in
    elim c.in_err-stored.ensures.error [
      | inl kept ↦ subst HasReplay (sym (kept.0 old.log refl)) (old.backend, replay)
      | inr rest ↦ elim rest.1.2 [
        | inl kept ↦ subst HasReplay (sym (kept.0 old.log refl)) (old.backend, replay)
        | inr out ↦ logged old.log new.log old.backend rest.1.0 replay out.0
      ]
    ]
