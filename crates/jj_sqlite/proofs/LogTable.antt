-- The effect of the three statements of a log on the rows of its table.
use Rattle.std.proofs.Common.{◌≡◌, ◌∙◌, ◌⊎◌, inl, inr, ℕ, zero, suc, ◌+◌, ◌<◌, pos, negsuc, List, [], ◌∷◌, ◌++◌, append-nil, map, take, codes, Bool, true, false, cond, ◌==◌, if◌then◌else◌, length, slice_index_or, Some, None, Option, Ok, Err, Result, IfOk, OnOk, IsTrue, refl, sym, ap, ap₂, subst, subst₂, arith}
use Rattle.std.specs.Prelude.{All, Contains}
use Rattle.std.specs.List.{AllByRecursion, AllZip, flat_map}
use Rattle.std.specs.List.Sorted.{IsPermutation}
use Rattle.std.specs.declared.cmp.Ordering.TheVariants.{Less}
use Rattle.std.proofs.lemmas.Bool.{cases_Bool}
use Rattle.std.proofs.lemmas.List.Sorted.{All-permutation, IsPermutation-map}
use Rattle.std.proofs.lemmas.List.{length-append, take_all}
use Rattle.std.proofs.lemmas.List.Elements.{recursion_from_All}
use Rattle.sqlite.specs.declared.types.Value.{Value}
use Rattle.sqlite.specs.declared.types.Value.TheVariants.{Null, Int, Real, Text, Blob}
use Rattle.sqlite.specs.Order.{Row, column, value_cmp}
use Rattle.sqlite.specs.Term.{Term, lit, col}
use Rattle.sqlite.specs.Ops.{unary}
use Rattle.sqlite.specs.Query.{Query, inner, end, IsAnswer, output, output_cmp, Output}
use Rattle.sqlite.specs.Program.{overlay}
use Rattle.sqlite.specs.Schema.{Schema}
use Rattle.sqlite.specs.Kind.TheVariants.{Integer}
use Rattle.sqlite.specs.Source.TheVariants.{Values}
use Rattle.sqlite.specs.Collation.TheVariants.{Binary}
use Rattle.sqlite.specs.Command.{Command}
use Rattle.sqlite.specs.Command.TheVariants.{Select, Insert, InsertOr, Update, Delete, CreateTable, CreateIndex, DropTable, DropIndex, Begin, Commit as Commits, Rollback, Savepoint, Release, RollbackTo, Nothing, CreateView, DropView, Rows}
use Rattle.sqlite.specs.Compile.{table_defined_by}
use Rattle.sqlite.specs.Edit.{edit_of, put_all}
use Rattle.sqlite.specs.Cast.{cast}
use Rattle.sqlite.specs.Rowids.TheVariants.{Chosen}
use Rattle.sqlite.specs.Change.{created, next_tree}
use Rattle.sqlite.specs.Does.{Tally, Does, lacks_sequence}
use Rattle.sqlite.specs.Rows.{Written}
use Rattle.sqlite.specs.Tree.{Trees, rowid, put_row}
use Rattle.sqlite_keyed.proofs.SortLemmas.{sorted_unique}
use Rattle.sqlite_sql.proofs.QueryLemmas.{output_cmp_total}
use Rattle.sqlite_tied.specs.Compute.{everything}
use Rattle.sqlite_trees.specs.Tree.{IsAscending}
use Rattle.sqlite.specs.declared.error.Error.{Error}
use Rattle.sqlite.specs.Listing.{understood, reads_listing}
use Rattle.sqlite.specs.Effect.{Database, IsDatabase}
use Rattle.sqlite.specs.Clock.{timed}
use Rattle.sqlite_catalog.specs.Listing.{IsSound}
use Rattle.sqlite.specs.State.{State, CommitsBy, MayCommit, CommitsShowing, mode_of, shows_rows, text_of, Writes, Runs, Executes, ExecutesIn, IsNotRun, IsRolledBack, IsUnchanged, Shown, ShowsRows}
use Rattle.sqlite.proofs.Callers.{IsPlain, command_of, statement_of, runs_as, reads_as, one_step, never_commits}
use Rattle.jj_mirror.specs.Entries.{LogEntryValue, kind_name}
use Rattle.jj_mirror.specs.declared.object_log.ObjectKind.{ObjectKind}
use Rattle.jj_mirror.specs.declared.object_log.ObjectKind.TheVariants.{File, Symlink, Copy, Tree, Commit}
use Rattle.jj_sqlite.specs.Tables.{log_schema, count_rows, count_statement, create_statement, insert_statement, is_counted, select_statement, entry_row, log_row, log_rows, logged_columns, rows_after, CountsRowsOf, HasCount, HasEntries, HasOnlyRowsOf, HasRows, IsNewOrHas}
use Rattle.jj_sqlite.specs.Crashes.{HasLog}
use Rattle.jj_sqlite.specs.Rows.{AreNumbered, AreNumberedAfter, IsEntryRow, IsGoodRow, ShowsCount}
use Rattle.jj_sqlite.proofs.RowNumbers.{ascend, more_rows, next_number}
use Rattle.jj_sqlite.proofs.RowErrors.{good_length}
use Rattle.jj_sqlite.proofs.Statements.{again_is, again_plain, column_is, column_shows, count_plain, counted_is, counts_are, create_is, create_plain, created_made, insert_is, insert_plain, no_schema, query, row_made, same_value, select_is, select_plain, terms, went}

-- ---- a connection that is open after a statement was so before

ran_open : (old new : State) (returning : Option _) (command : Command) (text : List ℕ) (params : Row) (count : ℕ) → Runs old new returning command text params count → IsTrue new.is_open
    → IsTrue old.is_open
ran_open old new returning (Select q names) text params count ran live = absurd ran
ran_open old new returning (Insert at from) text params count ran live = ran.shown.was_open
ran_open old new returning (InsertOr at how from clauses) text params count ran live = ran.shown.was_open
ran_open old new returning (Update at q) text params count ran live = ran.shown.was_open
ran_open old new returning (Delete at q) text params count ran live = ran.shown.was_open
ran_open old new returning CreateTable text params count ran live = ran.shown.was_open
ran_open old new returning (CreateIndex at) text params count ran live = ran.shown.was_open
ran_open old new returning (DropTable at) text params count ran live = ran.shown.was_open
ran_open old new returning (DropIndex at) text params count ran live = ran.shown.was_open
ran_open old new returning Begin text params count ran live = ran.1.was_open
ran_open old new returning Commits text params count ran live = ran.1.was_open
ran_open old new returning Rollback text params count ran live = ran.1.was_open live
ran_open old new returning (Savepoint name) text params count ran live = ran.0.0.was_open
ran_open old new returning (Release name) text params count ran live = elim ran.2 [ inl ends ↦ ends.1.0.was_open | inr drops ↦ drops.1.0.was_open ]
ran_open old new returning (RollbackTo name) text params count ran live = ran.2.2.was_open
ran_open old new returning (Rows values width names) text params count ran live = ran.0.0.was_open
ran_open old new returning Nothing text params count ran live = ran.0.0.was_open
ran_open old new returning CreateView text params count ran live = ran.shown.was_open
ran_open old new returning (DropView at) text params count ran live = ran.shown.was_open

pub was_open : (sql : List ℕ) (params : Row) (old new : State) (count : ℕ) → Executes sql params old new (Ok count) → IsTrue new.is_open → IsTrue old.is_open
unfolding ExecutesIn
was_open sql params old new count h live = elim (cases_Bool (shows_rows false h.0)) [
  | inl shows ↦ absurd (let e = (rw shows at h.2).0 in cc)
  | inr runs ↦ ran_open old new h.0.returning h.0.command (text_of sql h.0) (timed params h.0.formats h.1.now) count (rw runs at h.2) live
]

showed_open : (old new : State) (sql : List ℕ) (c : _) (params : Row) (rows : List Row) (returning : Option _) → ShowsRows old new sql c params rows returning → IsTrue old.is_open
showed_open old new sql c params rows None it = it.3.0.was_open
showed_open old new sql c params rows (Some how) it = it.1.shown.was_open

pub shown_open : (sql : List ℕ) (params : Row) (old new : State) (rows : List Row) → Shown sql params old new rows → IsTrue old.is_open
unfolding Shown
shown_open sql params old new rows h = showed_open old new sql h.0 (timed params h.0.formats h.1.now) rows h.0.returning h.2

-- ---- a new row

-- the trees of a connection whose table has these entries
pub logged : (s : State) (entries : List LogEntryValue) → HasEntries s entries → IsDatabase s.now → HasLog s.committed.trees entries
logged s entries has sound =
    let same : s.now.trees ≡ s.committed.trees = ap (λ (d : Database). d.trees) (sym has.committed) in
    record {
      counted = has.counted;
      sound = subst (λ (d : Trees). IsSound (log_schema has.counted) d) same (subst (λ k. IsSound k s.now.trees) has.schema sound);
      rows = subst (λ (d : Trees). HasRows has.counted d entries) same has.rows;
    }

-- an insertion makes the rows those of one more entry
pub made : (c : Bool) (old : State) (entry : LogEntryValue) (tally : Tally) (after : Database) (entries : List LogEntryValue) → old.now.schema ≡ log_schema c → HasRows c old.now.trees entries
    → Does old.step_limit (mode_of old) (entry_row entry) old.now (statement_of insert_statement (understood (log_schema c) insert_statement)) None (Insert 0 (Values terms 5)) (Ok (tally, after))
    → (after.schema ≡ log_schema c) × HasRows c after.trees (entries ++ entry ∷ [])
made c old entry tally after entries schema has does =
    let rows = old.now.trees 0 in
    let row = row_made c old entry tally after (length entries) schema has.1 (next_number rows entries has.0) does in
    let more : length entries + 1 ≡ length (entries ++ entry ∷ []) = omega (arith, length-append entries (entry ∷ [])) in
    (row.0, (ap (map logged_columns) row.1 ∙ more_rows rows entries entry has.0, subst (HasCount c after.trees) more row.2))

abbrev inserted_by : (old new : State) (entry : LogEntryValue) (count : ℕ) (entries : List LogEntryValue) (has : HasEntries old entries) → Executes insert_statement (entry_row entry) old new (Ok count)
    → Writes old new None (Insert 0 (Values terms 5)) (statement_of insert_statement (understood (log_schema has.counted) insert_statement)) (entry_row entry) count
inserted_by old new entry count entries has h =
    runs_as insert_statement (entry_row entry) old new (log_schema has.counted) has.schema (Insert 0 (Values terms 5)) (insert_is has.counted) (insert_plain has.counted) count h

-- an insertion adds the row of its entry
inserted : (old new : State) (entry : LogEntryValue) (count : ℕ) (entries : List LogEntryValue) → HasEntries old entries → Executes insert_statement (entry_row entry) old new (Ok count)
    → HasEntries new (entries ++ entry ∷ [])
inserted old new entry count entries has h =
    let w = inserted_by old new entry count entries has h in
    let rows = made has.counted old entry w.tally new.now entries has.schema has.rows w.changed in
    record {
      counted = has.counted;
      schema = rows.0;
      rows = rows.1;
      committed = rw has.autocommit at w.shown.committed_is;
      autocommit = w.shown.mode ∙ has.autocommit;
    }

-- the connection stays open, and the last commit has the row
pub inserts_durably : (old new : State) (entry : LogEntryValue) (count : ℕ) (entries : List LogEntryValue) → HasEntries old entries → Executes insert_statement (entry_row entry) old new (Ok count)
    → IsTrue new.is_open × HasEntries new (entries ++ entry ∷ []) × HasLog new.committed.trees (entries ++ entry ∷ [])
inserts_durably old new entry count entries has h =
    let w = inserted_by old new entry count entries has h in
    let after = inserted old new entry count entries has h in
    (w.shown.is_open, after, logged new (entries ++ entry ∷ []) after w.sound)

-- an insertion commits one more entry, whether it succeeds or not
pub committed_by : (s : State) (entry : LogEntryValue) (entries : List LogEntryValue) (db : Trees) → HasEntries s entries → CommitsBy insert_statement (entry_row entry) s db
    → HasLog db (entries ++ entry ∷ [])
unfolding CommitsBy
committed_by s entry entries db has h =
    let sql = insert_statement in
    let params = entry_row entry in
    let known = sym h.1.is ∙ ap (λ x. understood x sql) has.schema in
    let bare = subst IsPlain (sym known) (insert_plain has.counted) in
    let may = subst₂ (λ k t. MayCommit s None k t params db) (ap command_of known ∙ insert_is has.counted) (ap (statement_of sql) known) (rw (bare.0, bare.1, append-nil params) at h.2) in
    elim may [
      | inl ends ↦ elim ends.0 [
        | inl commit ↦ absurd (let e = commit in cc)
        | inr release ↦ absurd (let e = release.2 in cc)
      ]
      | inr write ↦
          let rows = made has.counted s entry write.1 write.2 entries has.schema has.rows write.3 in
          record {
            counted = has.counted;
            sound = subst (λ (d : Trees). IsSound (log_schema has.counted) d) (sym write.5) (subst (λ k. IsSound k write.2.trees) rows.0 write.4);
            rows = subst (λ (d : Trees). HasRows has.counted d (entries ++ entry ∷ [])) (sym write.5) rows.1;
          }
    ]

pub inserts : (old new : State) (entry : LogEntryValue) (count : ℕ) (entries : List LogEntryValue) → (IsTrue old.is_open → HasEntries old entries)
    → Executes insert_statement (entry_row entry) old new (Ok count) → IsTrue new.is_open → HasEntries new (entries ++ entry ∷ [])
inserts old new entry count entries has h live = inserted old new entry count entries (has (was_open insert_statement (entry_row entry) old new count h live)) h

-- ---- statements that leave the rows

pub unchanged : (old new : State) (entries : List LogEntryValue) → HasEntries old entries → IsUnchanged old new → HasEntries new entries
unchanged old new entries has same = record {
  counted = has.counted;
  schema = ap (λ (d : Database). d.schema) same.0.now_is ∙ has.schema;
  rows = subst (λ (d : Database). HasRows has.counted d.trees entries) (sym same.0.now_is) has.rows;
  committed = same.0.committed_is ∙ has.committed ∙ sym same.0.now_is;
  autocommit = same.0.mode ∙ has.autocommit;
}

pub rolled_back : (old new : State) (entries : List LogEntryValue) → HasEntries old entries → IsRolledBack old new → IsTrue new.is_open → HasEntries new entries
rolled_back old new entries has back live =
    let both = back.undone live in
    let now = both.0 ∙ has.committed in
    record {
      counted = has.counted;
      schema = ap (λ (d : Database). d.schema) now ∙ has.schema;
      rows = subst (λ (d : Database). HasRows has.counted d.trees entries) (sym now) has.rows;
      committed = both.1 ∙ sym both.0;
      autocommit = back.autocommit;
    }

-- a failed statement changed nothing, or was rolled back
pub failed : (sql : List ℕ) (params : Row) (old new : State) (e : Error) → Executes sql params old new (Err e) → IsUnchanged old new ⊎ IsRolledBack old new
unfolding ExecutesIn IsNotRun
failed sql params old new e (inl (inl not_run)) = inl not_run.1
failed sql params old new e (inl (inr fails)) = inr fails.3
failed sql params old new e (inr ran) = elim (cases_Bool (shows_rows false ran.0)) [
  | inl shows ↦ inl (rw shows at ran.2).1
  | inr runs ↦ elim (rw runs at ran.2) [
    | inl refused ↦ inl refused.1
    | inr fails ↦ inr fails.3
  ]
]

pub not_ran : (sql : List ℕ) (params : Row) (old new : State) (e : Error) → IsNotRun old new sql params e → IsUnchanged old new ⊎ IsRolledBack old new
unfolding IsNotRun
not_ran sql params old new e (inl not_run) = inl not_run.1
not_ran sql params old new e (inr fails) = inr fails.3

-- that two connections read the same database is transitive
pub twice : (old same new : State) → IsUnchanged old same → IsUnchanged same new → IsUnchanged old new
twice old same new a b = (
  record {
    was_open = a.0.was_open;
    is_open = b.0.is_open;
    now_is = b.0.now_is ∙ a.0.now_is;
    committed_is = b.0.committed_is ∙ a.0.committed_is;
    mode = b.0.mode ∙ a.0.mode;
  },
  record { changes = b.1.changes ∙ a.1.changes; last_rowid = b.1.last_rowid ∙ a.1.last_rowid },
  b.2 ∙ a.2,
)

pub keeps : (sql : List ℕ) (params : Row) (old new : State) (e : Error) (entries : List LogEntryValue) → (IsTrue old.is_open → HasEntries old entries) → Executes sql params old new (Err e)
    → IsTrue new.is_open → HasEntries new entries
keeps sql params old new e entries has h live = elim (failed sql params old new e h) [
  | inl same ↦ unchanged old new entries (has same.0.was_open) same
  | inr back ↦ rolled_back old new entries (has (back.was_open live)) back live
]

pub keeps_not_run : (sql : List ℕ) (params : Row) (old new : State) (e : Error) (entries : List LogEntryValue) → (IsTrue old.is_open → HasEntries old entries) → IsNotRun old new sql params e
    → IsTrue new.is_open → HasEntries new entries
unfolding IsNotRun
keeps_not_run sql params old new e entries has (inl not_run) live = unchanged old new entries (has not_run.1.0.was_open) not_run.1
keeps_not_run sql params old new e entries has (inr fails) live = rolled_back old new entries (has (fails.3.was_open live)) fails.3 live

-- ---- the table is created

no_rows_yet : (db : Trees) (entries : List LogEntryValue) → db 0 ≡ [] → db 1 ≡ [] → entries ≡ [] → HasRows true db entries
no_rows_yet db entries none uncounted empty = (ap (map logged_columns) none ∙ sym (ap log_rows empty), uncounted ∙ sym (ap (λ (l : List LogEntryValue). count_rows (length l)) empty))

created_table : (old new : State) (count : ℕ) (entries : List LogEntryValue) → IsNewOrHas old entries → Executes create_statement [] old new (Ok count) → HasEntries new entries
created_table old new count entries (inl has) h =
    unchanged old new entries has (runs_as create_statement [] old new (log_schema has.counted) has.schema Nothing (again_is has.counted) (again_plain has.counted) count h).0
created_table old new count entries (inr none) h =
    let has = none.0.0 in
    let w = subst (λ t. Writes old new None CreateTable t [] count) create_is.1 (runs_as create_statement [] old new no_schema has CreateTable create_is.0 create_plain count h) in
    let made = created_made old w.tally new.now has w.changed in
    record {
      counted = true;
      schema = made.0;
      rows = no_rows_yet new.now.trees entries made.1 made.2 none.1;
      committed = rw none.0.1 at w.shown.committed_is;
      autocommit = w.shown.mode ∙ none.0.1;
    }

-- the creation of the table commits no entry, whether it succeeds or not
pub created_by : (s : State) (entries : List LogEntryValue) (db : Trees) → IsNewOrHas s entries → CommitsBy create_statement [] s db → HasLog db entries
unfolding CommitsBy
created_by s entries db (inl has) h =
    let known = sym h.1.is ∙ ap (λ x. understood x create_statement) has.schema in
    let bare = subst IsPlain (sym known) (again_plain has.counted) in
    let may = subst₂ (λ k t. MayCommit s None k t [] db) (ap command_of known ∙ again_is has.counted) (ap (statement_of create_statement) known) (rw (bare.0, bare.1, append-nil []) at h.2) in
    absurd (elim may [
      | inl ends ↦ elim ends.0 [
        | inl commit ↦ let e = commit in cc
        | inr release ↦ let e = release.2 in cc
      ]
      | inr write ↦ let e = write.3 in cc
    ])
created_by s entries db (inr none) h =
    let known = sym h.1.is ∙ ap (λ x. understood x create_statement) none.0.0 in
    let bare = subst IsPlain (sym known) create_plain in
    let may = subst₂ (λ k t. MayCommit s None k t [] db) (ap command_of known ∙ create_is.0) (ap (statement_of create_statement) known ∙ create_is.1) (rw (bare.0, bare.1, append-nil []) at h.2) in
    elim may [
      | inl ends ↦ absurd (elim ends.0 [
        | inl commit ↦ let e = commit in cc
        | inr release ↦ let e = release.2 in cc
      ])
      | inr write ↦
          let made = created_made s write.1 write.2 none.0.0 write.3 in
          record {
            counted = true;
            sound = subst (λ (d : Trees). IsSound (log_schema true) d) (sym write.5) (subst (λ k. IsSound k write.2.trees) made.0 write.4);
            rows = no_rows_yet db entries (ap (λ (d : Trees). d 0) write.5 ∙ made.1) (ap (λ (d : Trees). d 1) write.5 ∙ made.2) none.1;
          }
    ]

-- the connection stays open, and the last commit has the table
pub creates_durably : (old new : State) (count : ℕ) (entries : List LogEntryValue) → IsNewOrHas old entries → IsDatabase old.now → Executes create_statement [] old new (Ok count)
    → IsTrue new.is_open × HasLog new.committed.trees entries
creates_durably old new count entries (inl has) live h =
    let same = (runs_as create_statement [] old new (log_schema has.counted) has.schema Nothing (again_is has.counted) (again_plain has.counted) count h).0 in
    (same.0.is_open, logged new entries (unchanged old new entries has same) (subst (λ (d : Database). IsDatabase d) (sym same.0.now_is) live))
creates_durably old new count entries (inr none) live h =
    let w = subst (λ t. Writes old new None CreateTable t [] count) create_is.1 (runs_as create_statement [] old new no_schema none.0.0 CreateTable create_is.0 create_plain count h) in
    (w.shown.is_open, logged new entries (created_table old new count entries (inr none) h) w.sound)

-- a connection that reads the same database is on a new one, or has the same entries
pub unchanged_new : (old new : State) (entries : List LogEntryValue) → IsNewOrHas old entries → IsUnchanged old new → IsNewOrHas new entries
unchanged_new old new entries (inl has) same = inl (unchanged old new entries has same)
unchanged_new old new entries (inr none) same = inr ((ap (λ (d : Database). d.schema) same.0.now_is ∙ none.0.0, same.0.mode ∙ none.0.1), none.1)

pub creates : (old new : State) (count : ℕ) (entries : List LogEntryValue) → (IsTrue old.is_open → IsNewOrHas old entries) → Executes create_statement [] old new (Ok count) → IsTrue new.is_open
    → HasEntries new entries
creates old new count entries had h live = created_table old new count entries (had (was_open create_statement [] old new count h live)) h

-- a connection that reads the same database has only rows of the same entries
still_only : (old new : State) (entries : List LogEntryValue) → HasOnlyRowsOf old entries → IsUnchanged old new → HasOnlyRowsOf new entries
still_only old new entries has same = (
  has.0,
  ap (λ (d : Database). d.schema) same.0.now_is ∙ has.1,
  subst (λ (d : Database). All (Contains (log_rows entries)) (map logged_columns (d.trees 0))) (sym same.0.now_is) has.2,
)

-- the table is there, and the statement leaves all as it is
table_stays : (c : Bool) (same new : State) (count : ℕ) → same.now.schema ≡ log_schema c → Executes create_statement [] same new (Ok count) → IsUnchanged same new
table_stays c same new count has h = (runs_as create_statement [] same new (log_schema c) has Nothing (again_is c) (again_plain c) count h).0

pub only_rows_stay : (old same new : State) (count : ℕ) (entries : List LogEntryValue) → HasOnlyRowsOf old entries → IsUnchanged old same → Executes create_statement [] same new (Ok count) → HasOnlyRowsOf new entries
only_rows_stay old same new count entries has unchanged h =
    let before = still_only old same entries has unchanged in
    still_only same new entries before (table_stays before.0 same new count before.1 h)

still_counts : (old new : State) (entries : List LogEntryValue) → CountsRowsOf old entries → IsUnchanged old new → CountsRowsOf new entries
still_counts old new entries has same = (
  ap (λ (d : Database). d.schema) same.0.now_is ∙ has.0,
  subst (λ (d : Database). All (Contains (log_rows entries)) (map logged_columns (d.trees 0))) (sym same.0.now_is) has.1,
  ap (λ (d : Database). d.trees 1) same.0.now_is ∙ has.2,
)

pub counted_rows_stay : (old same new : State) (count : ℕ) (entries : List LogEntryValue) → CountsRowsOf old entries → IsUnchanged old same → Executes create_statement [] same new (Ok count) → CountsRowsOf new entries
counted_rows_stay old same new count entries has unchanged h =
    let before = still_counts old same entries has unchanged in
    still_counts same new entries before (table_stays true same new count before.0 h)

-- ---- the rows are read

abbrev shown_output : Row → Output
shown_output row = (rowid row ∷ [], logged_columns row)

outputs : (rows : List Row) → map (output query) (flat_map (λ r. ([] ∷ r ∷ []) ∷ []) rows) ≡ map shown_output rows
outputs [] = refl
outputs (r ∷ rows) = ap (λ all. shown_output r ∷ all) (outputs rows)

shows : (rows : List Row) → map (λ (o : Output). o.1) (map shown_output rows) ≡ map logged_columns rows
shows [] = refl
shows (r ∷ rows) = ap (λ all. logged_columns r ∷ all) (shows rows)

-- the query returns the rows, in some order
shows_all : (db : Trees) (shown : List Row) → IsAnswer query (overlay db []) [] shown → IsPermutation (map logged_columns (db 0)) shown
shows_all db shown a =
    let kept : a.kept ≡ map shown_output (db 0) = a.distinct ∙ ap (map (output query)) a.grouped ∙ outputs (db 0) in
    let all : IsPermutation (map shown_output (db 0)) a.ordered = subst (λ k. IsPermutation k a.ordered) kept a.same in
    subst₂ (λ xs ys. IsPermutation xs ys) (shows (db 0)) (sym a.shown) (IsPermutation-map (λ (o : Output). o.1) (map shown_output (db 0)) a.ordered all)

outputs_below : (r : Row) (rows : List Row) → AllByRecursion (λ b. value_cmp (rowid r) (rowid b) ≡ Less) rows → AllByRecursion (λ o. output_cmp query (shown_output r) o ≡ Less) (map shown_output rows)
outputs_below r [] all = tt
outputs_below r (b ∷ rows) all = (rw all.0 refl, outputs_below r rows all.1)

outputs_ascend : (rows : List Row) → IsAscending (λ a b. value_cmp (rowid a) (rowid b) ≡ Less) rows → IsAscending (λ a b. output_cmp query a b ≡ Less) (map shown_output rows)
outputs_ascend [] up = tt
outputs_ascend (r ∷ rows) up = (outputs_below r rows up.0, outputs_ascend rows up.1)

-- numbered rows are returned in their order
shows_in_order : (db : Trees) (entries : List LogEntryValue) (shown : List Row) → map logged_columns (db 0) ≡ log_rows entries → IsAnswer query (overlay db []) [] shown → shown ≡ log_rows entries
shows_in_order db entries shown is a =
    let kept : a.kept ≡ map shown_output (db 0) = a.distinct ∙ ap (map (output query)) a.grouped ∙ outputs (db 0) in
    let all : IsPermutation (map shown_output (db 0)) a.ordered = subst (λ k. IsPermutation k a.ordered) kept a.same in
    let same : a.ordered ≡ map shown_output (db 0) = sorted_unique (output_cmp query) (output_cmp_total query) (map shown_output (db 0)) a.ordered (outputs_ascend (db 0) (ascend (db 0) entries 0 is)) all a.sorted in
    a.shown ∙ ap (map (λ (o : Output). o.1)) same ∙ shows (db 0) ∙ is

shown_unchanged : (sql : List ℕ) (params : Row) (old new : State) (schema : Schema) → old.now.schema ≡ schema → IsPlain (understood schema sql) → (rows : List Row) → Shown sql params old new rows → IsUnchanged old new
unfolding Shown
shown_unchanged sql params old new schema has plain rows h =
    let known = sym h.1.is ∙ ap (λ s. understood s sql) has in
    let bare = subst IsPlain (sym known) plain in
    (rw bare.0 at h.2).3

-- the entry of a row, by its columns
abbrev kind_of : List ℕ → ObjectKind
kind_of name =
    if length name == 7 then Symlink else (if length name == 6 then Commit else (if slice_index_or name 0 0 == 102 then File else (if slice_index_or name 0 0 == 99 then Copy else Tree)))

abbrev bytes_of : Value → List ℕ
bytes_of Null = []
bytes_of (Int n) = []
bytes_of (Real x) = []
bytes_of (Text t) = t
bytes_of (Blob b) = b

abbrev pub entry_in : Row → LogEntryValue
entry_in row = record { kind = kind_of (bytes_of (column row 1)); id = bytes_of (column row 2); bytes = bytes_of (column row 3) }

kind_is : (kind : ObjectKind) → kind_of (kind_name kind) ≡ kind
kind_is File = refl
kind_is Symlink = refl
kind_is Copy = refl
kind_is Tree = refl
kind_is Commit = refl

pub entry_is : (row : Row) (entry : LogEntryValue) → IsEntryRow row entry → entry_in row ≡ entry
entry_is row entry is i = record {
  kind = (ap (λ v. kind_of (bytes_of v)) is.0 ∙ kind_is entry.kind) i;
  id = ap bytes_of is.1 i;
  bytes = ap bytes_of is.2 i;
}

entries_are : (rows : List Row) (entries : List LogEntryValue) → AllZip IsGoodRow rows entries → map entry_in rows ≡ entries
entries_are [] [] all = refl
entries_are [] (e ∷ entries) all = absurd all
entries_are (r ∷ rows) [] all = absurd all
entries_are (r ∷ rows) (e ∷ entries) all = λ i. entry_is r e all.0.0 i ∷ entries_are rows entries all.1 i

pub same_entries : (entries : List LogEntryValue) (count : ℕ) → map entry_in (rows_after count entries) ≡ entries
same_entries [] count = refl
same_entries (e ∷ entries) count = λ i. entry_is (log_row (count + 1) e) e (refl, refl, refl) i ∷ same_entries entries (count + 1) i

pub keeps_reading : (old new : State) (rows : List Row) (entries : List LogEntryValue) → HasEntries old entries → Shown select_statement [] old new rows → HasEntries new entries
keeps_reading old new rows entries has h = unchanged old new entries has (shown_unchanged select_statement [] old new (log_schema has.counted) has.schema (select_plain has.counted) rows h)

-- reading commits nothing
pub reading_commits_nothing : (s : State) (entries : List LogEntryValue) (db : Trees) → HasEntries s entries → ¬ CommitsShowing select_statement [] s db
reading_commits_nothing s entries db has = never_commits select_statement [] s db (subst (λ k. IsPlain (understood k select_statement)) (sym has.schema) (select_plain has.counted))

-- the returned rows are those of the table, in their order
pub shown_rows : (old new : State) (rows : List Row) (entries : List LogEntryValue) → HasEntries old entries → Shown select_statement [] old new rows → rows ≡ log_rows entries
shown_rows old new rows entries has h =
    let answer = (reads_as select_statement [] old new (log_schema has.counted) has.schema _ (select_is has.counted).0 (select_plain has.counted) (select_is has.counted).1 rows h).answer in
    shows_in_order old.now.trees entries rows has.rows.0 (answer Null)

-- the entries that are read are those of the table
pub reads : (old new : State) (rows : List Row) (read entries : List LogEntryValue) → HasEntries old entries → Shown select_statement [] old new rows → AllZip IsGoodRow rows read → read ≡ entries
reads old new rows read entries has h all =
    sym (entries_are rows read all) ∙ ap (map entry_in) (shown_rows old new rows entries has h) ∙ same_entries entries 0

-- ---- rows of a log of which some were lost

abbrev IsAmong : List Row → Row → Type 0
IsAmong [] row = ⊥
IsAmong (r ∷ rows) row = (row ≡ r) ⊎ IsAmong rows row

among : (rows : List Row) (row : Row) → Contains rows row → IsAmong rows row
among [] row has = absurd (omega (arith, has.1))
among (r ∷ rows) row (zero, within, same) = inl (sym same)
among (r ∷ rows) row (suc k, within, same) = inr (among rows row (k, omega (arith, within), same))

abbrev number_in : Value → ℕ
number_in (Int (pos n)) = n
number_in _ = 0

-- a row of these entries is numbered above the count
numbered_above : (entries : List LogEntryValue) (count : ℕ) (row : Row) → IsAmong (rows_after count entries) row → count < number_in (column row 0)
numbered_above [] count row has = absurd has
numbered_above (e ∷ entries) count row (inl is) = rw is (omega arith)
numbered_above (e ∷ entries) count row (inr has) = let rest = numbered_above entries (count + 1) row has in omega (arith, rest)

-- rows that are numbered above the first are among the others
without_first : (e : LogEntryValue) (entries : List LogEntryValue) (count low : ℕ) (rows : List Row) → count < low → AllByRecursion (IsAmong (rows_after count (e ∷ entries))) rows → AreNumberedAfter low rows
    → AllByRecursion (IsAmong (rows_after (count + 1) entries)) rows
without_first e entries count low [] h all numbered = tt
without_first e entries count low (row ∷ rows) h all numbered = (
  elim all.0 [
    | inl is ↦ absurd (let same : low + 1 ≡ count + 1 = ap number_in (sym numbered.0 ∙ ap (λ (r : Row). column r 0) is) in omega (arith, same))
    | inr rest ↦ rest
  ],
  without_first e entries count (low + 1) rows (omega arith) all.1 numbered.1,
)

prefix : (rows : List Row) (read entries : List LogEntryValue) (count : ℕ) → AllZip IsGoodRow rows read → AreNumberedAfter count rows → AllByRecursion (IsAmong (rows_after count entries)) rows
    → read ≡ take (length read) entries
prefix [] [] entries count good numbered all = refl
prefix [] (x ∷ read) entries count good numbered all = absurd good
prefix (row ∷ rows) [] entries count good numbered all = absurd good
prefix (row ∷ rows) (x ∷ read) [] count good numbered all = absurd all.0
prefix (row ∷ rows) (x ∷ read) (e ∷ entries) count good numbered all = elim all.0 [
  | inl is ↦
      let first : x ≡ e = sym (entry_is row x good.0.0) ∙ ap entry_in is ∙ entry_is (log_row (count + 1) e) e (refl, refl, refl) in
      ap₂ (λ y ys. y ∷ ys) first (prefix rows read entries (count + 1) good.1 numbered.1 (without_first e entries count (count + 1) rows (omega arith) all.1 numbered.1))
  | inr later ↦ absurd (
      let above = numbered_above entries (count + 1) row later in
      let same : number_in (column row 0) ≡ count + 1 = ap number_in numbered.0 in
      omega (arith, above, same))
]

all_among : (rows others : List Row) → All (Contains others) rows → AllByRecursion (IsAmong others) rows
all_among rows others all = go rows (recursion_from_All (Contains others) rows all)
  where
    go : (rows : List Row) → AllByRecursion (Contains others) rows → AllByRecursion (IsAmong others) rows
    go [] all = tt
    go (r ∷ rows) all = (among others r all.0, go rows all.1)

-- the entries that are read are the first of those of which some rows were lost
pub reads_first : (old new : State) (rows : List Row) (read entries : List LogEntryValue) → HasOnlyRowsOf old entries → Shown select_statement [] old new rows → AllZip IsGoodRow rows read → AreNumbered rows
    → read ≡ take (length read) entries
reads_first old new rows read entries has h good numbered =
    let answer = (reads_as select_statement [] old new (log_schema has.0) has.1 _ (select_is has.0).0 (select_plain has.0) (select_is has.0).1 rows h).answer in
    let all = All-permutation (Contains (log_rows entries)) (map logged_columns (old.now.trees 0)) rows (shows_all old.now.trees rows (answer Null)) has.2 in
    prefix rows read entries 0 good numbered (all_among rows (log_rows entries) all)

-- ---- the count is read

-- a database whose table has these entries counts them, or no rows
counts_them : (old : State) (entries : List LogEntryValue) → HasEntries old entries → is_counted old.now.schema ≡ true → (old.now.schema ≡ log_schema true) × (old.now.trees 1 ≡ count_rows (length entries))
counts_them old entries has counts =
    let is : has.counted ≡ true = sym (counted_is has.counted) ∙ ap is_counted (sym has.schema) ∙ counts in
    (has.schema ∙ ap log_schema is, (subst (λ (c : Bool). HasRows c old.now.trees entries) is has.rows).1)

pub keeps_counting : (old new : State) (counts : List Row) (entries : List LogEntryValue) → HasEntries old entries → is_counted old.now.schema ≡ true → Shown count_statement [] old new counts → HasEntries new entries
keeps_counting old new counts entries has counted h =
    unchanged old new entries has (shown_unchanged count_statement [] old new (log_schema true) (counts_them old entries has counted).0 count_plain counts h)

pub counting_commits_nothing : (s : State) (entries : List LogEntryValue) (db : Trees) → HasEntries s entries → is_counted s.now.schema ≡ true → ¬ CommitsShowing count_statement [] s db
counting_commits_nothing s entries db has counted =
    never_commits count_statement [] s db (subst (λ k. IsPlain (understood k count_statement)) (sym (counts_them s entries has counted).0) count_plain)

-- the returned count is that of the entries
pub shows_length : (old new : State) (counts : List Row) (entries : List LogEntryValue) → HasEntries old entries → is_counted old.now.schema ≡ true → Shown count_statement [] old new counts
    → ShowsCount (length entries) counts
shows_length old new counts entries has counted h =
    let them = counts_them old entries has counted in
    subst (ShowsCount (length entries)) (sym (counts_are old new (length entries) counts them.0 them.1 h)) (column_shows (length entries))

-- if SQLite counted these entries, all of them are read
pub reads_all : (old mid new : State) (rows : List Row) (read entries : List LogEntryValue) → CountsRowsOf old entries → Shown select_statement [] old mid rows → AllZip IsGoodRow rows read → AreNumbered rows
    → (is_counted mid.now.schema ≡ false) ⊎ ((counts : List Row) × Shown count_statement [] mid new counts × ShowsCount (length rows) counts) → read ≡ entries
reads_all old mid new rows read entries has shown good numbered counted =
    let there = still_counts old mid entries has (shown_unchanged select_statement [] old mid (log_schema true) has.0 (select_plain true) rows shown) in
    let many : length rows ≡ length entries = elim counted [
      | inl none ↦ absurd (let e : false ≡ true = sym none ∙ ap is_counted there.0 ∙ counted_is true in cc)
      | inr counts ↦ column_is (length entries) (length rows) (subst (ShowsCount (length rows)) (counts_are mid new (length entries) counts.0 there.0 there.2 counts.1) counts.2)
    ] in
    let same : length read ≡ length entries = good_length rows read good ∙ many in
    reads_first old mid rows read entries (true, has.0, has.1) shown good numbered ∙ take_all (length read) entries (omega (arith, same))

-- as many rows as entries
pub row_count : (entries : List LogEntryValue) (count : ℕ) → length (rows_after count entries) ≡ length entries
row_count [] count = refl
row_count (e ∷ entries) count = ap suc (row_count entries (count + 1))

-- a database whose table has these entries returns no other count
pub never_lost : (old mid new : State) (rows counts : List Row) (entries : List LogEntryValue) → HasEntries old entries → Shown select_statement [] old mid rows → is_counted mid.now.schema ≡ true
    → Shown count_statement [] mid new counts → ¬ (¬ ShowsCount (length rows) counts)
never_lost old mid new rows counts entries has shown counted shows wrong =
    let many : length rows ≡ length entries = ap length (shown_rows old mid rows entries has shown) ∙ row_count entries 0 in
    wrong (subst (λ n. ShowsCount n counts) (sym many) (shows_length mid new counts entries (keeps_reading old mid rows entries has shown) counted shows))

-- ---- results

pub if_ok : {T E : Type 0} {P Q : T → Type 0} → ((value : T) → P value → Q value) → (r : Result T E) → IfOk r P → IfOk r Q
if_ok f (Ok value) holds = f value holds
if_ok f (Err e) holds = tt

pub if_ok_with : {T E P : Type 0} {Q R : T → Type 0} → ((value : T) → Q value → P → R value) → (r : Result T E) → IfOk r Q → OnOk r P → IfOk r R
if_ok_with f (Ok value) holds also = f value holds also
if_ok_with f (Err e) holds also = tt

pub on_ok : {T E : Type 0} {P : Type 0} → (r : Result T E) → P → OnOk r P
on_ok (Ok value) holds = holds
on_ok (Err e) holds = tt
