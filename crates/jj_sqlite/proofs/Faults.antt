-- The fault of the log that an error of opening names.
use Rattle.std.proofs.Common.{◌≡◌, ◌≢◌, ◌∙◌, inl, inr, ℕ, zero, suc, ◌+◌, pos, List, [], ◌∷◌, ◌⊎◌, true, length, map, take, slice_get, Some, sym, ap, subst, arith}
use Rattle.std.specs.Prelude.{Contains, IsTrue}
use Rattle.sqlite.specs.declared.error.Error.{Error}
use Rattle.sqlite.specs.declared.error.Error.TheVariants.{SqliteFailure}
use Rattle.sqlite.specs.declared.error.ErrorCode.{ErrorCode}
use Rattle.sqlite.specs.declared.error.ErrorCode.TheVariants.{OutOfMemory}
use Rattle.sqlite.specs.Held.{Held, state}
use Rattle.sqlite.specs.Order.{Row, column}
use Rattle.sqlite.specs.declared.types.Value.TheVariants.{Int, Text}
use Rattle.sqlite.specs.State.{State, FailsToQuery, HasCleanDisk, Shown}
use Rattle.sqlite.specs.Store.{Ghosts}
use Rattle.jj_backend.specs.Objects.{Object}
use Rattle.jj_trees.specs.MemoryObjects.{MemoryBackendValue, objects_of}
use Rattle.jj_mirror.specs.Entries.{LogEntryValue, entry_of, kind_name}
use Rattle.jj_mirror.specs.Objects.{IsDigestTaken}
use Rattle.jj_mirror.specs.declared.object_log.ObjectKind.{ObjectKind}
use Rattle.jj_decode.specs.declared.error.DecodeError.{DecodeError}
use Rattle.jj_mirror.specs.Replays.{IsReplay, IsReplayCause, IsReplayError}
use Rattle.jj_mirror.proofs.ReplayedAgain.{Contains-taken, item_at}
use Rattle.jj_mirror.specs.declared.error.ReplayError.{ReplayError}
use Rattle.jj_mirror.specs.declared.error.ReplayError.TheVariants as replay
use Rattle.jj_sqlite.specs.Inserts.{WasNewOrContains}
use Rattle.jj_sqlite.specs.Opening.{IsOpenCause, IsOpenError, OnMalformed, open_error, sqlite_error}
use Rattle.jj_sqlite.specs.Rows.{IsReadError, ShowsCount}
use Rattle.jj_sqlite.specs.Tables.{HasEntries, count_statement, is_counted, log_row, log_rows, rows_after, select_statement}
use Rattle.jj_sqlite.specs.Faults.{HasFault, HasOtherObject}
use Rattle.jj_sqlite.specs.declared.error.OpenError.{OpenError}
use Rattle.jj_sqlite.specs.declared.error.OpenError.TheVariants.{Memory, Sqlite, Foreign, Gap, Lost, WrongObject, UnknownKind, Malformed, Backend}
use Rattle.jj_sqlite.proofs.LogTable.{creates, unchanged_new, entry_in, entry_is, never_lost, reads, same_entries, shown_rows, shown_open}

at_index : {A B : Type 0} (f : A → B) (xs : List A) (i : ℕ) (x : A) → slice_get xs i ≡ Some x → Contains (map f xs) (f x)
at_index f [] zero x e = absurd cc
at_index f [] (suc i) x e = absurd cc
at_index f (y ∷ xs) zero x e = (zero, omega arith, ap f cc)
at_index f (y ∷ xs) (suc i) x e = let rest = at_index f xs i x e in (suc rest.0, omega (arith, rest.1), rest.2)

of_code : (entries : List LogEntryValue) (code : ErrorCode) → HasFault entries (sqlite_error (SqliteFailure code))
of_code entries OutOfMemory = tt
of_code entries _ = tt

of_sqlite : (entries : List LogEntryValue) (cause : Error) → HasFault entries (sqlite_error cause)
of_sqlite entries (SqliteFailure code) = of_code entries code
of_sqlite entries _ = tt

-- a row of an entry has its kind
known_kind : (entries : List LogEntryValue) (count : ℕ) (row : Row) (name : List ℕ) → Contains (rows_after count entries) row → column row 1 ≡ Text name
    → ((kind : ObjectKind) → kind_name kind ≢ name) → ⊥
known_kind [] count row name has is unknown = absurd (omega (arith, has.1))
known_kind (e ∷ entries) count row name (zero, within, same) is unknown = unknown e.kind (let k = ap (λ (r : Row). column r 1) same ∙ is in cc)
known_kind (e ∷ entries) count row name (suc k, within, same) is unknown = known_kind entries (count + 1) row name (k, omega (arith, within), same) is unknown

-- the row at an index has the next number
number_at : (entries : List LogEntryValue) (count index : ℕ) (row : Row) → slice_get (rows_after count entries) index ≡ Some row → column row 0 ≡ Int (pos (count + index + 1))
number_at [] count zero row at = absurd cc
number_at [] count (suc index) row at = absurd cc
number_at (e ∷ entries) count zero row at =
    let same : log_row (count + 1) e ≡ row = cc in
    ap (λ (r : Row). column r 0) (sym same) ∙ ap (λ n. Int (pos n)) (omega arith)
number_at (e ∷ entries) count (suc index) row at = number_at entries (count + 1) index row at ∙ ap (λ n. Int (pos n)) (omega arith)

of_rows : (rows : List Row) (entries : List LogEntryValue) (e : OpenError) → rows ≡ log_rows entries → IsReadError rows e → HasFault entries e
of_rows rows entries Memory are fails = tt
of_rows rows entries (Sqlite cause) are fails = tt
of_rows rows entries Foreign are fails = absurd fails.5.0
of_rows rows entries (Gap count) are fails =
    let at = subst (λ (l : List Row). slice_get l fails.0 ≡ Some fails.1) are fails.3 in
    fails.5.1 (number_at entries 0 fails.0 fails.1 at ∙ ap (λ n. Int (pos n)) (omega arith))
of_rows rows entries (Lost count) are fails = absurd fails.5.0
of_rows rows entries (WrongObject kind id) are fails =
    let wrong = fails.5.0 in
    let entry = wrong.0 in
    let same : map entry_in rows ≡ entries = ap (map entry_in) are ∙ same_entries entries 0 in
    let found : Contains (map entry_in rows) entry = subst (λ (e : LogEntryValue). Contains (map entry_in rows) e) (entry_is fails.1 entry wrong.1) (at_index entry_in rows fails.0 fails.1 fails.3) in
    (entry, subst (λ (l : List LogEntryValue). Contains l entry) same found, (wrong.2, wrong.3), wrong.4)
of_rows rows entries (UnknownKind id) are fails =
    let named = fails.5.0 in
    known_kind entries 0 fails.1 named.0 (subst (λ (l : List Row). Contains l fails.1) are (item_at rows fails.0 fails.1 fails.3)) named.1 named.3
of_rows rows entries (Malformed kind id reason offset) are fails = absurd fails.5.0
of_rows rows entries (Backend error) are fails = absurd fails.5.0

-- a different object that was stored earlier is initial or that of an entry
other_object : (entries : List LogEntryValue) (index : ℕ) (before : MemoryBackendValue) (object : Object) → IsReplay (take index entries) before
    → IsDigestTaken (objects_of before) object → HasOtherObject entries object
other_object entries index before object earlier taken = (
  taken.0,
  taken.1,
  taken.3,
  elim (earlier.only (entry_of object).id taken.0 taken.2) [
    | inl initial ↦ inl initial
    | inr has ↦ inr (Contains-taken index entries (entry_of taken.0) has.0, has.1)
  ],
)

of_replay : (entries : List LogEntryValue) (cause : ReplayError) → IsReplayError entries cause → HasFault entries (open_error cause)
of_replay entries replay.Memory fails = tt
of_replay entries (replay.Malformed kind id reason offset) fails = (fails.1, item_at entries fails.0 fails.1 fails.3, fails.5.0, fails.5.1)
of_replay entries (replay.WrongObject kind id) fails = (fails.1, item_at entries fails.0 fails.1 fails.3, fails.5.0, fails.5.1)
of_replay entries (replay.Backend error) fails =
    let of = fails.5.1 in (
      fails.5.0,
      (
        fails.1,
        item_at entries fails.0 fails.1 fails.3,
        (
          of.0,
          of.1,
          of.2,
          elim of.3 [
            | inl parentless ↦ inl parentless
            | inr taken ↦ inr (other_object entries fails.0 fails.2 of.0 fails.4 taken)
          ],
        ),
      ),
    )

-- an error of counting the rows is one of SQLite
of_count : (old mid new : State) (rows : List Row) (entries : List LogEntryValue) (e : OpenError) → HasEntries old entries → Shown select_statement [] old mid rows → is_counted mid.now.schema ≡ true
    → ((cause : Error) × (e ≡ sqlite_error cause) × FailsToQuery count_statement [] mid new cause)
    ⊎ ((counts : List Row) × Shown count_statement [] mid new counts × ¬ (ShowsCount (length rows) counts) × (e ≡ Lost (length rows))) → HasFault entries e
of_count old mid new rows entries e has shown counted (inl query) = subst (HasFault entries) (sym query.1) (of_sqlite entries query.0)
of_count old mid new rows entries e has shown counted (inr lost) = absurd (never_lost old mid new rows lost.0 entries has shown counted lost.1 lost.2)

-- if the log had these entries, they have the fault that the error names
pub has_fault : {S : Type 0} (g : Ghosts S) (old new : Held S) (entries : List LogEntryValue) (e : OpenError) → HasCleanDisk (state g old)
    → WasNewOrContains g old entries → IsOpenError g old new e → HasFault entries e
has_fault g old new entries e clean had fails = elim fails [
  | inl create ↦ elim create [
    | inl query ↦ subst (HasFault entries) (sym query.1) (of_sqlite entries query.0)
    | inr foreign ↦ subst (HasFault entries) (sym foreign.0) tt
  ]
  | inr rest ↦
      let ran = rest.1.1 in
      let has : IsTrue (state g rest.0).is_open → HasEntries (state g rest.0) entries = creates (state g ran.0) (state g rest.0) rest.1.0 entries (λ _. unchanged_new (state g old) (state g ran.0) entries (had clean ran.1.0.was_open) ran.1) ran.2 in
      elim rest.2 [
        | inl read ↦ elim read [
          | inl query ↦ subst (HasFault entries) (sym query.1) (of_sqlite entries query.0)
          | inr later ↦ elim later [
            | inl rows ↦ of_rows rows.0 entries e (shown_rows (state g rest.0) (state g new) rows.0 entries (has (shown_open select_statement [] (state g rest.0) (state g new) rows.0 rows.1)) rows.1) rows.2
            | inr counted ↦ of_count (state g rest.0) (state g counted.0) (state g new) counted.1 entries e (has (shown_open select_statement [] (state g rest.0) (state g counted.0) counted.1 counted.3)) counted.3 counted.6.0 counted.6.1
          ]
        ]
        | inr replayed ↦
            let are = replayed.are_read in
            let read = reads (state g rest.0) (state g are.read) replayed.rows replayed.entries entries (has (shown_open select_statement [] (state g rest.0) (state g are.read) replayed.rows are.shown)) are.shown replayed.are_good in
            subst (HasFault entries) (sym replayed.is_error) (of_replay entries replayed.cause (subst (λ (l : List LogEntryValue). IsReplayError l replayed.cause) read replayed.is_cause))
      ]
]

-- if the log had these entries, the reason and the offset of a malformed one are those of decoding
-- its bytes
pub has_reason : {S : Type 0} (g : Ghosts S) (copy tree commit : List ℕ → ℕ → DecodeError → Type 0) (old new : Held S) (entries : List LogEntryValue) (e : OpenError) → HasCleanDisk (state g old)
    → WasNewOrContains g old entries → IsOpenCause g copy tree commit old new e → OnMalformed e (IsReplayCause copy tree commit entries)
has_reason g copy tree commit old new entries (Malformed kind id reason offset) clean had why =
    let ran = why.1.1 in
    let has : IsTrue (state g why.0).is_open → HasEntries (state g why.0) entries = creates (state g ran.0) (state g why.0) why.1.0 entries (λ _. unchanged_new (state g old) (state g ran.0) entries (had clean ran.1.0.was_open) ran.1) ran.2 in
    let replayed = why.2 in
    let are = replayed.are_read in
    let read = reads (state g why.0) (state g are.read) replayed.rows replayed.entries entries (has (shown_open select_statement [] (state g why.0) (state g are.read) replayed.rows are.shown)) are.shown replayed.are_good in
    subst (λ (l : List LogEntryValue). IsReplayCause copy tree commit l (replay.Malformed kind id reason offset)) read replayed.is_cause
has_reason g copy tree commit old new entries Memory clean had why = tt
has_reason g copy tree commit old new entries (Sqlite cause) clean had why = tt
has_reason g copy tree commit old new entries Foreign clean had why = tt
has_reason g copy tree commit old new entries (Gap count) clean had why = tt
has_reason g copy tree commit old new entries (Lost count) clean had why = tt
has_reason g copy tree commit old new entries (WrongObject kind id) clean had why = tt
has_reason g copy tree commit old new entries (UnknownKind id) clean had why = tt
has_reason g copy tree commit old new entries (Backend error) clean had why = tt
