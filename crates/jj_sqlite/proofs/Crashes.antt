-- A crash of a log: its statements, on a connection that reads the same rows as before.
use Rattle.std.proofs.Common.{true, refl, ◌≡◌, ◌∙◌, ◌⊎◌, ◌++◌, [], ◌∷◌, inl, inr, ℕ, List, Result, Ok, Err, IsTrue, sym, subst, arith}
use Rattle.sqlite.specs.Tree.{Trees}
use Rattle.sqlite.specs.Store.{Ghosts}
use Rattle.sqlite.specs.Order.{Row}
use Rattle.sqlite.specs.State.{State, HasCleanDisk, IsLive, IsRolledBack, Survives, IsUnchanged, CommitsShowing, Executes, Shown}
use Rattle.sqlite.specs.Effect.{IsDatabase}
use Rattle.sqlite.specs.Held.{Held, state}
use Rattle.sqlite.specs.declared.error.Error.{Error}
use Rattle.sqlite.proofs.StateLemmas.{survives_weaker}
use Rattle.jj_mirror.specs.Entries.{LogEntryValue}
use Rattle.jj_sqlite.specs.Crashes.{CommitsAsIs, HasLog, RunsAsIs}
use Rattle.jj_sqlite.specs.Inserts.{ContainsEntries, StoresEntries, WasNewOrContains}
use Rattle.jj_sqlite.specs.Tables.{count_statement, create_statement, entry_row, insert_statement, is_counted, select_statement}
use Rattle.jj_sqlite.proofs.LogTable.{failed, not_ran, twice, unchanged, unchanged_new, inserts_durably, committed_by, created_by, creates_durably, creates, keeps, keeps_not_run, shown_open, keeps_reading, reading_commits_nothing, keeps_counting, counting_commits_nothing}

-- a statement that ran on a connection that reads the same database
pub ran : {S : Type 0} (g : Ghosts S) (sql : List ℕ) (params : Row) (old same new : Held S) (r : Result ℕ Error) → IsUnchanged (state g old) (state g same)
    → Executes sql params (state g same) (state g new) r → RunsAsIs g sql params old new r
ran g sql params old same new (Ok count) unchanged runs = (same, unchanged, runs)
ran g sql params old same new (Err e) unchanged runs = inr (same, unchanged, runs)

-- a statement that failed or was not run changed nothing, or was rolled back
pub ended : {S : Type 0} (g : Ghosts S) (sql : List ℕ) (params : Row) (old new : Held S) (e : Error) → RunsAsIs g sql params old new (Err e) → IsUnchanged (state g old) (state g new) ⊎ IsRolledBack (state g old) (state g new)
ended g sql params old new e (inl not_run) = not_ran sql params (state g old) (state g new) e not_run
ended g sql params old new e (inr ran) = elim (failed sql params (state g ran.0) (state g new) e ran.2) [
  | inl same ↦ inl (twice (state g old) (state g ran.0) (state g new) ran.1 same)
  | inr back ↦ inr (record {
    was_open = λ is_open. ran.1.0.was_open;
    undone = λ is_open. ((back.undone is_open).0 ∙ ran.1.0.committed_is, (back.undone is_open).1 ∙ ran.1.0.committed_is);
    autocommit = back.autocommit;
    unmarked = back.unmarked;
    counts = record { changes = back.counts.changes ∙ ran.1.1.changes; last_rowid = back.counts.last_rowid ∙ ran.1.1.last_rowid };
  })
]

-- an insertion commits the log with its entry
pub appends_or_not : {S : Type 0} (g : Ghosts S) (old new : Held S) (entry : LogEntryValue) → Survives (state g old) (state g new) (CommitsAsIs g insert_statement (entry_row entry) old)
    → Survives (state g old) (state g new) (λ db. (entries : List LogEntryValue) → HasCleanDisk (state g old) → ContainsEntries g old entries → HasLog db (entries ++ entry ∷ []))
appends_or_not g old new entry = survives_weaker (state g old) (state g new) _ _ (λ _ db made entries clean had.
    committed_by (state g made.0) entry entries db (unchanged (state g old) (state g made.0) entries (had clean made.1.0.was_open) made.1) made.2)

-- the creation of the table commits the log as it was
pub creates_or_not : {S : Type 0} (g : Ghosts S) (old new : Held S) → Survives (state g old) (state g new) (CommitsAsIs g create_statement [] old)
    → Survives (state g old) (state g new) (λ db. (entries : List LogEntryValue) → HasCleanDisk (state g old) → WasNewOrContains g old entries → HasLog db entries)
creates_or_not g old new = survives_weaker (state g old) (state g new) _ _ (λ _ db made entries clean had.
    created_by (state g made.0) entries db (unchanged_new (state g old) (state g made.0) entries (had clean made.1.0.was_open) made.1) made.2)

module _ {S : Type 0} (g : Ghosts S)
    (settled : (s : S) (db : Trees) → IsTrue (g.view s).is_open → g.recovers s db → db ≡ (g.view s).committed)
    (old new : Held S) where
  -- a state of a connection that is open leaves its last commit
  pub leaves : (entries : List LogEntryValue) → IsTrue (state g new).is_open → HasLog (state g new).committed.trees entries → (db : Trees) → (state g new).may_leave db → HasLog db entries
  leaves entries is_open has db left = subst (λ d. HasLog d entries) (sym (settled new.store db is_open left)) has

  pub appended : (entry : LogEntryValue) (count : ℕ) (entries : List LogEntryValue) → (HasCleanDisk (state g new) → HasCleanDisk (state g old))
      → (HasCleanDisk (state g new) → RunsAsIs g insert_statement (entry_row entry) old new (Ok count)) → StoresEntries g old entries → StoresEntries g new (entries ++ entry ∷ [])
  appended entry count entries clean runs had =
      let all = λ (now : HasCleanDisk (state g new)).
      let ran = runs now in
      inserts_durably (state g ran.0) (state g new) entry count entries (unchanged (state g old) (state g ran.0) entries (had.now (clean now) ran.1.0.was_open) ran.1) ran.2 in
      record {
        now = λ now is_open. (all now).1;
        crash = λ now db left. inl (leaves (entries ++ entry ∷ []) (all now).0 (all now).2 db left);
      }

  pub failed_append : (entry : LogEntryValue) (e : Error) (entries : List LogEntryValue) → (HasCleanDisk (state g new) → RunsAsIs g insert_statement (entry_row entry) old new (Err e))
      → Survives (state g old) (state g new) (CommitsAsIs g insert_statement (entry_row entry) old) → StoresEntries g old entries → StoresEntries g new entries
  failed_append entry e entries runs survives had =
      let clean = λ (now : HasCleanDisk (state g new)). let before : HasCleanDisk (state g old) = omega (arith, survives.clean) in before in
      record {
        now = λ now is_open. elim (runs now) [
          | inl not_run ↦ keeps_not_run insert_statement (entry_row entry) (state g old) (state g new) e entries (had.now (clean now)) not_run is_open
          | inr ran ↦ keeps insert_statement (entry_row entry) (state g ran.0) (state g new) e entries
              (λ _. unchanged (state g old) (state g ran.0) entries (had.now (clean now) ran.1.0.was_open) ran.1) ran.2 is_open
        ];
        crash = λ now db left. elim (survives.crash now db left) [
          | inl before ↦ had.crash (clean now) db before
          | inr made ↦ inr (entry, committed_by (state g made.0) entry entries db (unchanged (state g old) (state g made.0) entries (had.now (clean now) made.1.0.was_open) made.1) made.2)
        ];
      }

  pub created : (count : ℕ) (entries : List LogEntryValue) → (HasCleanDisk (state g new) → HasCleanDisk (state g old)) → IsLive (state g old)
      → (HasCleanDisk (state g new) → RunsAsIs g create_statement [] old new (Ok count)) → WasNewOrContains g old entries → StoresEntries g new entries
  created count entries clean live runs had =
      let was = λ (now : HasCleanDisk (state g new)).
      let ran = runs now in
      unchanged_new (state g old) (state g ran.0) entries (had (clean now) ran.1.0.was_open) ran.1 in
      let all = λ (now : HasCleanDisk (state g new)).
      let ran = runs now in
      creates_durably (state g ran.0) (state g new) count entries (was now) (subst (λ d. IsDatabase d) (sym ran.1.0.now_is) (live ran.1.0.was_open).0) ran.2 in
      record {
        now = λ now is_open. let ran = runs now in creates (state g ran.0) (state g new) count entries (λ _. was now) ran.2 is_open;
        crash = λ now db left. inl (leaves entries (all now).0 (all now).1 db left);
      }

  pub kept_reading : (entries : List LogEntryValue) → (HasCleanDisk (state g new) → (rows : List Row) × Shown select_statement [] (state g old) (state g new) rows)
      → Survives (state g old) (state g new) (CommitsShowing select_statement [] (state g old)) → StoresEntries g old entries → StoresEntries g new entries
  kept_reading entries shows survives had =
      let clean = λ (now : HasCleanDisk (state g new)). let before : HasCleanDisk (state g old) = omega (arith, survives.clean) in before in
      let has = λ (now : HasCleanDisk (state g new)). had.now (clean now) (shown_open select_statement [] (state g old) (state g new) (shows now).0 (shows now).1) in
      record {
        now = λ now is_open. keeps_reading (state g old) (state g new) (shows now).0 entries (has now) (shows now).1;
        crash = λ now db left. elim (survives.crash now db left) [
          | inl before ↦ had.crash (clean now) db before
          | inr made ↦ absurd (reading_commits_nothing (state g old) entries db (has now) made)
        ];
      }

  pub kept_counting : (counts : List Row) (entries : List LogEntryValue) → is_counted (state g old).now.schema ≡ true → (HasCleanDisk (state g new) → Shown count_statement [] (state g old) (state g new) counts)
      → Survives (state g old) (state g new) (CommitsShowing count_statement [] (state g old)) → StoresEntries g old entries → StoresEntries g new entries
  kept_counting counts entries counted shows survives had =
      let clean = λ (now : HasCleanDisk (state g new)). let before : HasCleanDisk (state g old) = omega (arith, survives.clean) in before in
      let has = λ (now : HasCleanDisk (state g new)). had.now (clean now) (shown_open count_statement [] (state g old) (state g new) counts (shows now)) in
      record {
        now = λ now is_open. keeps_counting (state g old) (state g new) counts entries (has now) counted (shows now);
        crash = λ now db left. elim (survives.crash now db left) [
          | inl before ↦ had.crash (clean now) db before
          | inr made ↦ absurd (counting_commits_nothing (state g old) entries db (has now) counted made)
        ];
      }

-- a connection that did nothing
pub survives_same : (s : State) (P : Trees → Type 0) → Survives s s P
survives_same s P = record {
  clean = omega arith;
  shield = λ shielded. shielded;
  counts = omega arith;
  limit = refl;
  closes = λ clean is_open. inl is_open;
  crash = λ clean db left. inl left;
}
