use Rattle.std.proofs.Common.{◌≡◌, ◌++◌, [], ◌∷◌, inl, inr, List, subst}
use Rattle.jj_backend.specs.Contents.{IsCommit}
use Rattle.jj_backend.specs.Objects.{commit_object}
use Rattle.jj_backend.specs.Records.{CommitValue}
use Rattle.jj_mirror.specs.Entries.{LogEntryValue, entry_of}
use Rattle.jj_mirror.specs.Logs.{WithEntry}
use Rattle.jj_mirror.proofs.LoggedOnce.{HasReplay, WithEntry-map, only_logged}
use Rattle.jj_sqlite.specs.Inserts.{StoresEntries}
use Rattle.jj_sqlite_tests.specs.SavedFiles.{HasWith}
use Rattle.jj_sqlite_tests.proofs.WrittenFiles.{clean_or_any, either_with}
use Rattle.jj_sqlite_tests.proofs.callers.log_commit.Goals as goal

pub returns-clause-once : goal.returns-clause-once
returns-clause-once g c = λ entries had replay.
    let old = c.args.store.now in
    let new = c.write_commit.new.self in
    let stored = commit_object c.in_ok-stored.stored.1 in
    let logs = c.in_ok-stored.ensures.logged in
    let New = StoresEntries g.S.Store new.log.conn in
    subst (λ (commit : CommitValue). WithEntry New entries (entry_of (commit_object commit))) c.in_ok-stored.ensures.signed
    (WithEntry-map (λ all. New all × HasReplay all) New (λ all both. both.0) entries (entry_of stored)
    (only_logged New entries old.backend stored replay logs.1 (λ e. cc) (elim logs.0 [
      | inl same ↦ inl (same.0, rw same.1 had)
      | inr lacks ↦ inr (lacks.0, lacks.1 entries had)
    ])))

pub returns-clause-logged : goal.returns-clause-logged
returns-clause-logged g c = λ entries had replays.
    let old = c.args.store.now in
    let new = c.write_commit.new.self in
    let stored = commit_object c.in_ok-stored.stored.1 in
    let logs = c.in_ok-stored.ensures.logged in
    let New = StoresEntries g.S.Store new.log.conn in
    subst (λ (commit : CommitValue). HasWith New entries (entry_of (commit_object commit))) c.in_ok-stored.ensures.signed
    (elim (clean_or_any g.S.Store old.log.conn) [
      | inl clean ↦ either_with New entries (entry_of stored) (WithEntry-map (λ all. New all × HasReplay all) New (λ all both. both.0) entries (entry_of stored)
          (only_logged New entries old.backend stored (replays clean) logs.1 (λ e. cc) (elim logs.0 [
            | inl same ↦ inl (same.0, rw same.1 had)
            | inr lacks ↦ inr (lacks.0, lacks.1 entries had)
          ])))
      | inr any ↦ inr (elim logs.0 [
        | inl same ↦ rw same.1 (any (entries ++ entry_of stored ∷ []))
        | inr lacks ↦ lacks.1 entries had
      ])
    ])

pub returns-clause-value : goal.returns-clause-value
returns-clause-value g c = subst IsCommit c.in_ok-stored.ensures.signed c.in_ok-stored.ensures.logged.1.0
