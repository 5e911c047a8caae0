-- A log in a transaction: its statements, on a connection that reads the same rows as before.
use Rattle.std.proofs.Common.{◌≡◌, ◌∙◌, ◌++◌, [], ◌∷◌, inl, inr, ℕ, List, Bool, true, false, not, None, Ok, Err, IsTrue, map, append-nil, refl, sym, ap, subst, subst₂, arith}
use Rattle.sqlite.proofs.Callers.{IsPlain, command_of, statement_of, runs_as}
use Rattle.sqlite.specs.Command.TheVariants.{Insert, Begin, Commit as Commits}
use Rattle.sqlite.specs.declared.error.Error.{Error}
use Rattle.sqlite.specs.Effect.{Database, IsDatabase}
use Rattle.sqlite.specs.Held.{Held, state}
use Rattle.sqlite.specs.Listing.{understood}
use Rattle.sqlite.specs.Source.TheVariants.{Values}
use Rattle.sqlite.specs.State.{State, CommitsBy, HasCleanDisk, IsLive, IsUnchanged, MayCommit, Survives}
use Rattle.sqlite.specs.Store.{Ghosts}
use Rattle.sqlite.specs.Tree.{Trees}
use Rattle.sqlite_catalog.specs.Listing.{IsSound}
use Rattle.jj_mirror.specs.Entries.{LogEntryValue}
use Rattle.jj_sqlite.specs.Batches.{IsBatch, LeavesAllOrNone, begin_statement, commit_statement}
use Rattle.jj_sqlite.specs.Crashes.{CommitsAsIs, HasLog, RunsAsIs}
use Rattle.jj_sqlite.specs.Inserts.{StoresEntries}
use Rattle.jj_sqlite.specs.Tables.{HasEntries, HasRows, ShowsEntries, entry_row, insert_statement, log_schema}
use Rattle.jj_sqlite.proofs.Crashes.{ended, leaves}
use Rattle.jj_sqlite.proofs.LogTable.{logged, made, rolled_back, unchanged}
use Rattle.jj_sqlite.proofs.Statements.{begin_is, begin_plain, commit_is, commit_plain, insert_is, insert_plain, terms}

-- a connection that reads the same database reads the same entries
still_shows : (old new : State) (entries : List LogEntryValue) → ShowsEntries old entries → IsUnchanged old new → ShowsEntries new entries
still_shows old new entries has same = (
  has.0,
  ap (λ (d : Database). d.schema) same.0.now_is ∙ has.1,
  subst (λ (d : Database). HasRows has.0 d.trees entries) (sym same.0.now_is) has.2,
)

-- the trees that a sound database represents are those of a log
shown_log : (s : State) (entries : List LogEntryValue) → ShowsEntries s entries → IsDatabase s.now → HasLog s.now.trees entries
shown_log s entries has sound = record {
  counted = has.0;
  sound = subst (λ k. IsSound k s.now.trees) has.1 sound;
  rows = has.2;
}

-- an insertion in a transaction commits nothing
inserts_nothing : (s : State) (entry : LogEntryValue) (entries : List LogEntryValue) (db : Trees) → ShowsEntries s entries → IsTrue s.in_transaction → ¬ CommitsBy insert_statement (entry_row entry) s db
unfolding CommitsBy
inserts_nothing s entry entries db has within h =
    let known = sym h.1.is ∙ ap (λ x. understood x insert_statement) has.1 in
    let bare = subst IsPlain (sym known) (insert_plain has.0) in
    let may = subst₂ (λ k t. MayCommit s None k t (entry_row entry) db) (ap command_of known ∙ insert_is has.0) (ap (statement_of insert_statement) known) (rw (bare.0, bare.1, append-nil (entry_row entry)) at h.2) in
    elim may [
      | inl ends ↦ elim ends.0 [
        | inl commit ↦ let e = commit in cc
        | inr release ↦ let e = release.2 in cc
      ]
      | inr write ↦ let e : true ≡ false = sym within ∙ write.0 in cc
    ]

-- a commit leaves what the transaction sees
commits_all : (s : State) (entries : List LogEntryValue) (db : Trees) → ShowsEntries s entries → IsDatabase s.now → IsTrue s.in_transaction → CommitsBy commit_statement [] s db → HasLog db entries
unfolding CommitsBy
commits_all s entries db has sound within h =
    let known = sym h.1.is ∙ ap (λ x. understood x commit_statement) has.1 in
    let bare = subst IsPlain (sym known) (commit_plain has.0) in
    let may = subst₂ (λ k t. MayCommit s None k t [] db) (ap command_of known ∙ commit_is has.0) (ap (statement_of commit_statement) known) (rw (bare.0, bare.1, append-nil []) at h.2) in
    elim may [
      | inl ends ↦ subst (λ (d : Trees). HasLog d entries) (sym ends.1) (shown_log s entries has sound)
      | inr write ↦ absurd (let e : true ≡ false = sym within ∙ write.0 in cc)
    ]

module _ {S : Type 0} (g : Ghosts S)
    (settled : (s : S) (db : Trees) → IsTrue (g.view s).is_open → g.recovers s db → db ≡ (g.view s).committed)
    (old new : Held S) where
  pub begun : (count : ℕ) (entries : List LogEntryValue) → (HasCleanDisk (state g new) → HasCleanDisk (state g old)) → IsLive (state g old)
      → (HasCleanDisk (state g new) → RunsAsIs g begin_statement [] old new (Ok count)) → StoresEntries g old entries → IsBatch g new entries entries
  begun count entries clean live runs had =
      let has = λ (now : HasCleanDisk (state g new)).
      let ran = runs now in
      unchanged (state g old) (state g ran.0) entries (had.now (clean now) ran.1.0.was_open) ran.1 in
      let begins = λ (now : HasCleanDisk (state g new)).
      let ran = runs now in
      (runs_as begin_statement [] (state g ran.0) (state g new) (log_schema (has now).counted) (has now).schema Begin (begin_is (has now).counted) (begin_plain (has now).counted) count ran.2).1 in
      let log = λ (now : HasCleanDisk (state g new)).
      let ran = runs now in
      let sound = subst (λ (d : Database). IsDatabase d) (sym ran.1.0.now_is) (live ran.1.0.was_open).0 in
      subst (λ (d : Database). HasLog d.trees entries) (sym (begins now).committed_is) (logged (state g ran.0) entries (has now) sound) in
      record {
        now = λ now is_open within. (
          (has now).counted,
          ap (λ (d : Database). d.schema) (begins now).now_is ∙ (has now).schema,
          subst (λ (d : Database). HasRows (has now).counted d.trees entries) (sym (begins now).now_is) (has now).rows,
        );
        committed = λ now is_open. log now;
        crash = λ now db left. leaves g settled old new entries (begins now).is_open (log now) db left;
      }

  pub appended_in : (entry : LogEntryValue) (count : ℕ) (kept entries : List LogEntryValue) → (HasCleanDisk (state g new) → HasCleanDisk (state g old)) → IsTrue (state g old).in_transaction
      → (HasCleanDisk (state g new) → RunsAsIs g insert_statement (entry_row entry) old new (Ok count)) → IsBatch g old kept entries → IsBatch g new kept (entries ++ entry ∷ [])
  appended_in entry count kept entries clean within runs had =
      let has = λ (now : HasCleanDisk (state g new)).
      let ran = runs now in
      still_shows (state g old) (state g ran.0) entries (had.now (clean now) ran.1.0.was_open within) ran.1 in
      let writes = λ (now : HasCleanDisk (state g new)).
      let ran = runs now in
      runs_as insert_statement (entry_row entry) (state g ran.0) (state g new) (log_schema (has now).0) (has now).1 (Insert 0 (Values terms 5)) (insert_is (has now).0) (insert_plain (has now).0) count ran.2 in
      let log = λ (now : HasCleanDisk (state g new)).
      let ran = runs now in
      let in_same : (state g ran.0).in_transaction ≡ true = ran.1.0.mode ∙ within in
      let committed = rw in_same at (writes now).shown.committed_is in
      subst (λ (d : Database). HasLog d.trees kept) (sym (committed ∙ ran.1.0.committed_is)) (had.committed (clean now) ran.1.0.was_open) in
      record {
        now = λ now is_open in_new.
            let rows = made (has now).0 (state g (runs now).0) entry (writes now).tally (state g new).now entries (has now).1 (has now).2 (writes now).changed in
            ((has now).0, rows.0, rows.1);
        committed = λ now is_open. log now;
        crash = λ now db left. leaves g settled old new kept (writes now).shown.is_open (log now) db left;
      }

  pub failed_in : (entry : LogEntryValue) (e : Error) (kept entries : List LogEntryValue) → IsTrue (state g old).in_transaction
      → (HasCleanDisk (state g new) → RunsAsIs g insert_statement (entry_row entry) old new (Err e))
      → Survives (state g old) (state g new) (CommitsAsIs g insert_statement (entry_row entry) old) → IsBatch g old kept entries → IsBatch g new kept entries
  failed_in entry e kept entries within runs survives had =
      let clean = λ (now : HasCleanDisk (state g new)). let before : HasCleanDisk (state g old) = omega (arith, survives.clean) in before in
      let ends = λ (now : HasCleanDisk (state g new)). ended g insert_statement (entry_row entry) old new e (runs now) in
      record {
        now = λ now is_open in_new. elim (ends now) [
          | inl same ↦ still_shows (state g old) (state g new) entries (had.now (clean now) same.0.was_open within) same
          | inr back ↦ absurd (let e : true ≡ false = sym in_new ∙ back.autocommit in cc)
        ];
        committed = λ now is_open. elim (ends now) [
          | inl same ↦ subst (λ (d : Database). HasLog d.trees kept) (sym same.0.committed_is) (had.committed (clean now) same.0.was_open)
          | inr back ↦ subst (λ (d : Database). HasLog d.trees kept) (sym (back.undone is_open).1) (had.committed (clean now) (back.was_open is_open))
        ];
        crash = λ now db left. elim (survives.crash now db left) [
          | inl before ↦ had.crash (clean now) db before
          | inr commits ↦
              let same = commits.1 in
              absurd (inserts_nothing (state g commits.0) entry entries db (still_shows (state g old) (state g commits.0) entries (had.now (clean now) same.0.was_open within) same) (same.0.mode ∙ within) commits.2)
        ];
      }

  pub committed_in : (count : ℕ) (kept entries : List LogEntryValue) → (HasCleanDisk (state g new) → HasCleanDisk (state g old)) → IsLive (state g old) → IsTrue (state g old).in_transaction
      → (HasCleanDisk (state g new) → RunsAsIs g commit_statement [] old new (Ok count)) → IsBatch g old kept entries → StoresEntries g new entries
  committed_in count kept entries clean live within runs had =
      let has = λ (now : HasCleanDisk (state g new)).
      let ran = runs now in
      still_shows (state g old) (state g ran.0) entries (had.now (clean now) ran.1.0.was_open within) ran.1 in
      let commits = λ (now : HasCleanDisk (state g new)).
      let ran = runs now in
      (runs_as commit_statement [] (state g ran.0) (state g new) (log_schema (has now).0) (has now).1 Commits (commit_is (has now).0) (commit_plain (has now).0) count ran.2).1 in
      let after = λ (now : HasCleanDisk (state g new)).
      let shown = commits now in
      let entries_are : HasEntries (state g new) entries = record {
        counted = (has now).0;
        schema = ap (λ (d : Database). d.schema) shown.now_is ∙ (has now).1;
        rows = subst (λ (d : Database). HasRows (has now).0 d.trees entries) (sym shown.now_is) (has now).2;
        committed = shown.committed_is ∙ sym shown.now_is;
        autocommit = shown.mode;
      } in
      entries_are in
      let sound = λ (now : HasCleanDisk (state g new)).
      let ran = runs now in
      subst (λ (d : Database). IsDatabase d) (sym ((commits now).now_is ∙ ran.1.0.now_is)) (live ran.1.0.was_open).0 in
      record {
        now = λ now is_open. after now;
        crash = λ now db left. inl (leaves g settled old new entries (commits now).is_open (logged (state g new) entries (after now) (sound now)) db left);
      }

  pub failed_commit : (kept entries : List LogEntryValue) → IsLive (state g old) → IsTrue (state g old).in_transaction
      → Survives (state g old) (state g new) (CommitsAsIs g commit_statement [] old) → IsBatch g old kept entries → LeavesAllOrNone g new kept entries
  failed_commit kept entries live within survives had = λ now db left.
      let clean : HasCleanDisk (state g old) = omega (arith, survives.clean) in
      elim (survives.crash now db left) [
        | inl before ↦ inl (had.crash clean db before)
        | inr commits ↦
            let same = commits.1 in
            let sound = subst (λ (d : Database). IsDatabase d) (sym same.0.now_is) (live same.0.was_open).0 in
            inr (commits_all (state g commits.0) entries db (still_shows (state g old) (state g commits.0) entries (had.now clean same.0.was_open within) same) sound (same.0.mode ∙ within) commits.2)
      ]

-- a statement that does not end a transaction commits nothing where none was opened
module _ {S : Type 0} (g : Ghosts S) (old new : Held S) where
  begins_nothing : (s : State) (entries : List LogEntryValue) (db : Trees) → HasEntries s entries → ¬ CommitsBy begin_statement [] s db
  unfolding CommitsBy
  begins_nothing s entries db has h =
      let known = sym h.1.is ∙ ap (λ x. understood x begin_statement) has.schema in
      let bare = subst IsPlain (sym known) (begin_plain has.counted) in
      let may = subst₂ (λ k t. MayCommit s None k t [] db) (ap command_of known ∙ begin_is has.counted) (ap (statement_of begin_statement) known) (rw (bare.0, bare.1, append-nil []) at h.2) in
      elim may [
        | inl ends ↦ elim ends.0 [
          | inl commit ↦ let e = commit in cc
          | inr release ↦ let e = release.2 in cc
        ]
        | inr write ↦ let e = write.3 in cc
      ]

  -- a transaction that was not opened leaves the log
  pub kept_log : (e : Error) (entries : List LogEntryValue) → (HasCleanDisk (state g new) → RunsAsIs g begin_statement [] old new (Err e))
      → Survives (state g old) (state g new) (CommitsAsIs g begin_statement [] old) → StoresEntries g old entries → StoresEntries g new entries
  kept_log e entries runs survives had =
      let clean = λ (now : HasCleanDisk (state g new)). let before : HasCleanDisk (state g old) = omega (arith, survives.clean) in before in
      record {
        now = λ now is_open. elim (ended g begin_statement [] old new e (runs now)) [
          | inl same ↦ unchanged (state g old) (state g new) entries (had.now (clean now) same.0.was_open) same
          | inr back ↦ rolled_back (state g old) (state g new) entries (had.now (clean now) (back.was_open is_open)) back is_open
        ];
        crash = λ now db left. elim (survives.crash now db left) [
          | inl before ↦ had.crash (clean now) db before
          | inr made ↦ absurd (begins_nothing (state g made.0) entries db (unchanged (state g old) (state g made.0) entries (had.now (clean now) made.1.0.was_open) made.1) made.2)
        ];
      }

-- ---- whether a transaction is open

pub opened : (autocommit within : Bool) → autocommit ≡ not within → autocommit ≡ false → IsTrue within
opened autocommit true is none = refl
opened autocommit false is none = absurd cc

pub closed : (autocommit within : Bool) → autocommit ≡ not within → IsTrue autocommit → within ≡ false
closed autocommit true is none = absurd cc
closed autocommit false is none = refl
