-- The reason and the offset of a malformed entry. No other error of opening has one.
use Rattle.std.proofs.Common.{◌≡◌, ℕ, List, inl, inr, sym, subst}
use Rattle.std.specs.List.{AllZip}
use Rattle.sqlite.specs.declared.error.Error.{Error}
use Rattle.sqlite.specs.declared.error.Error.TheVariants.{SqliteFailure}
use Rattle.sqlite.specs.declared.error.ErrorCode.{ErrorCode}
use Rattle.sqlite.specs.declared.error.ErrorCode.TheVariants.{OutOfMemory}
use Rattle.sqlite.specs.Held.{Held, state}
use Rattle.sqlite.specs.Order.{Row}
use Rattle.sqlite.specs.State.{HasCleanDisk}
use Rattle.sqlite.specs.Store.{Ghosts}
use Rattle.jj_decode.specs.declared.error.DecodeError.{DecodeError}
use Rattle.jj_mirror.specs.Entries.{LogEntryValue}
use Rattle.jj_mirror.specs.Replays.{IsReplayCause}
use Rattle.jj_mirror.specs.declared.error.ReplayError.{ReplayError}
use Rattle.jj_mirror.specs.declared.error.ReplayError.TheVariants as replay
use Rattle.jj_sqlite.specs.Opening.{FailsToCount, FailsToCreate, FailsToRead, IsCreated, IsDecodingError, IsOpenCause, IsRead, OnMalformed, open_error, sqlite_error}
use Rattle.jj_sqlite.specs.Rows.{IsGoodRow, IsReadError}
use Rattle.jj_sqlite.specs.declared.error.OpenError.{OpenError}
use Rattle.jj_sqlite.specs.declared.error.OpenError.TheVariants.{Memory, Sqlite, Foreign, Gap, Lost, WrongObject, UnknownKind, Malformed, Backend}

of_code : (P : ReplayError → Type 0) (code : ErrorCode) → OnMalformed (sqlite_error (SqliteFailure code)) P
of_code P OutOfMemory = tt
of_code P _ = tt

of_sqlite : (P : ReplayError → Type 0) (cause : Error) → OnMalformed (sqlite_error cause) P
of_sqlite P (SqliteFailure code) = of_code P code
of_sqlite P _ = tt

of_rows : (P : ReplayError → Type 0) (rows : List Row) (e : OpenError) → IsReadError rows e → OnMalformed e P
of_rows P rows Memory fails = tt
of_rows P rows (Sqlite cause) fails = tt
of_rows P rows Foreign fails = tt
of_rows P rows (Gap count) fails = tt
of_rows P rows (Lost count) fails = tt
of_rows P rows (WrongObject kind id) fails = tt
of_rows P rows (UnknownKind id) fails = tt
of_rows P rows (Malformed kind id reason offset) fails = absurd fails.5.0
of_rows P rows (Backend error) fails = tt

module _ {S : Type 0} (g : Ghosts S) (old new : Held S) (P : ReplayError → Type 0) (e : OpenError) where
  of_count : (count : ℕ) → FailsToCount g old new count e → OnMalformed e P
  of_count count fails = elim fails.1 [
    | inl query ↦ subst (λ (x : OpenError). OnMalformed x P) (sym query.1) (of_sqlite P query.0)
    | inr lost ↦ subst (λ (x : OpenError). OnMalformed x P) (sym lost.3) tt
  ]

  -- the table cannot be created
  pub of_create : FailsToCreate g old new e → OnMalformed e P
  of_create fails = elim fails [
    | inl query ↦ subst (λ (x : OpenError). OnMalformed x P) (sym query.1) (of_sqlite P query.0)
    | inr foreign ↦ subst (λ (x : OpenError). OnMalformed x P) (sym foreign.0) tt
  ]

-- its rows cannot be read
pub of_read : {S : Type 0} (g : Ghosts S) (old new : Held S) (P : ReplayError → Type 0) (e : OpenError) → FailsToRead g old new e → OnMalformed e P
of_read g old new P e fails = elim fails [
  | inl query ↦ subst (λ (x : OpenError). OnMalformed x P) (sym query.1) (of_sqlite P query.0)
  | inr later ↦ elim later [
    | inl rows ↦ of_rows P rows.0 e rows.2
    | inr counted ↦ of_count g counted.0 new P e _ counted.6
  ]
]

-- their entries cannot be replayed
pub of_replay : {S : Type 0} (g : Ghosts S) (copy tree commit : List ℕ → ℕ → DecodeError → Type 0) (old new : Held S) (rows : List Row) (entries : List LogEntryValue) (cause : ReplayError)
    → IsRead g old new rows → AllZip IsGoodRow rows entries → IsReplayCause copy tree commit entries cause → OnMalformed (open_error cause) (IsDecodingError g copy tree commit old new)
of_replay g copy tree commit old new rows entries replay.Memory read good why = tt
of_replay g copy tree commit old new rows entries (replay.Malformed kind id reason offset) read good why = record {
  rows = rows;
  entries = entries;
  are_read = read;
  are_good = good;
  is_cause = why;
}
of_replay g copy tree commit old new rows entries (replay.WrongObject kind id) read good why = tt
of_replay g copy tree commit old new rows entries (replay.Backend error) read good why = tt

-- the table was created or there, and its entries cannot be replayed
of_created : {S : Type 0} (g : Ghosts S) (copy tree commit : List ℕ → ℕ → DecodeError → Type 0) (old created new : Held S) (e : OpenError) → IsCreated g old created
    → OnMalformed e (IsDecodingError g copy tree commit created new) → IsOpenCause g copy tree commit old new e
of_created g copy tree commit old created new (Malformed kind id reason offset) ran why = (created, ran, why)
of_created g copy tree commit old created new Memory ran why = tt
of_created g copy tree commit old created new (Sqlite cause) ran why = tt
of_created g copy tree commit old created new Foreign ran why = tt
of_created g copy tree commit old created new (Gap count) ran why = tt
of_created g copy tree commit old created new (Lost count) ran why = tt
of_created g copy tree commit old created new (WrongObject kind id) ran why = tt
of_created g copy tree commit old created new (UnknownKind id) ran why = tt
of_created g copy tree commit old created new (Backend error) ran why = tt

-- the connection is that of the log
pub of_opened : {S : Type 0} (g : Ghosts S) (copy tree commit : List ℕ → ℕ → DecodeError → Type 0) (old created new conn : Held S) (e : OpenError) → conn ≡ new
    → (HasCleanDisk (state g new) → IsCreated g old created) → (HasCleanDisk (state g new) → OnMalformed e (IsDecodingError g copy tree commit created new))
    → HasCleanDisk (state g conn) → IsOpenCause g copy tree commit old conn e
of_opened {S} g copy tree commit old created new conn e same ran why =
    subst (λ (conn : Held S). HasCleanDisk (state g conn) → IsOpenCause g copy tree commit old conn e) (sym same)
    (λ clean. of_created g copy tree commit old created new e (ran clean) (why clean))
