use Rattle.std.proofs.Common.{◌≡◌, List, refl, subst}
use Rattle.jj_backend.specs.Contents.{IsCommit}
use Rattle.jj_backend.specs.Objects.{commit_object}
use Rattle.jj_backend.specs.Records.{CommitValue}
use Rattle.jj_trees.specs.MemoryObjects.{objects_of}
use Rattle.jj_mirror.specs.Entries.{LogEntryValue, entry_of}
use Rattle.jj_mirror.specs.Logs.{WithEntry}
use Rattle.jj_mirror.proofs.LoggedOnce.{HasReplay, WithEntry-map, appended, only_logged}
use Rattle.jj_mirror_tests.proofs.logs.log_commit.Goals as goal

pub returns-clause-value : goal.returns-clause-value
returns-clause-value c = subst IsCommit c.in_ok-stored.ensures.signed c.in_ok-stored.ensures.logged.1.0

pub returns-clause-logged : goal.returns-clause-logged
returns-clause-logged c = λ replay.
    let old = c.args.store.now in
    let new = c.write_commit.new.self in
    let stored = c.in_ok-stored.stored.1 in
    subst (λ (commit : CommitValue). WithEntry (λ all. new.log ≡ all) old.log (entry_of (commit_object commit))) c.in_ok-stored.ensures.signed
    (WithEntry-map (λ all. (new.log ≡ all) × HasReplay all) (λ all. new.log ≡ all) (λ all both. both.0) old.log (entry_of (commit_object stored))
    (only_logged (λ all. new.log ≡ all) old.log old.backend (commit_object stored) replay c.in_ok-stored.ensures.logged.1 (λ e. cc)
    (appended (λ (log entries : List LogEntryValue). log ≡ entries) old.log new.log old.log (objects_of old.backend) (commit_object stored) refl c.in_ok-stored.ensures.logged.0)))
