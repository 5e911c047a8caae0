-- Replaying one row more than before, and what follows for the log.
use Rattle.std.proofs.Common.{◌≡◌, ◌∙◌, inl, inr, ℕ, ◌+◌, pos, List, [], ◌∷◌, ◌++◌, length, take, slice_get, Some, Result, Ok, Err, IfOk, IfErr, refl, sym, ap, subst, arith}
use Rattle.std.proofs.Math.Seq.{take-append_seam}
use Rattle.std.proofs.lemmas.List.{length_push}
use Rattle.std.specs.List.{AllZip}
use Rattle.sqlite.specs.declared.types.Value.TheVariants.{Int}
use Rattle.sqlite.specs.Held.{Held, state}
use Rattle.sqlite.specs.Order.{Row, column}
use Rattle.sqlite.specs.State.{Shown}
use Rattle.sqlite.specs.Store.{Ghosts}
use Rattle.jj_decode.specs.contracts.records.commits.CommitReadContent.TheImpl as commit
use Rattle.jj_decode.specs.contracts.records.commits.CopyHistoryReadContent.TheImpl as copy
use Rattle.jj_decode.specs.contracts.records.trees.TreeReadContent.TheImpl as tree
use Rattle.jj_trees.specs.MemoryObjects.{MemoryBackendValue, digest_length}
use Rattle.jj_mirror.specs.Entries.{LogEntryValue}
use Rattle.jj_mirror.specs.Replays.{IsReplay, IsReplayCause, IsReplayError}
use Rattle.jj_mirror.specs.declared.error.ReplayError.{ReplayError}
use Rattle.jj_mirror.proofs.ReplayedNext.{get-append, get-last, take-append}
use Rattle.jj_sqlite.specs.Opening.{FailsToCount, FailsToRead, FailsToReplay, IsCounted, IsDecodingError, IsRead, IsReplayed, OnMalformed, open_error}
use Rattle.jj_sqlite.specs.RowReplays.{AreReplayed, IsResult, IsRowReplay}
use Rattle.jj_sqlite.specs.Rows.{AreNumbered, IsErrorAt, IsGoodRow, IsReadError}
use Rattle.jj_sqlite.specs.Tables.{CountsRowsOf, HasEntries, HasOnlyRowsOf, select_statement}
use Rattle.jj_sqlite.specs.declared.error.OpenError.{OpenError}
use Rattle.jj_sqlite.specs.declared.error.OpenError.TheVariants.{Memory, Sqlite, Foreign, Gap, Lost, WrongObject, UnknownKind, Malformed, Backend}
use Rattle.jj_sqlite.specs.declared.row_replay.Replayed.{Replayed}
use Rattle.jj_sqlite.proofs.LogTable.{reads, reads_all, reads_first}
use Rattle.jj_sqlite.proofs.Reasons.{of_replay}
use Rattle.jj_sqlite.proofs.RowErrors.{good_length, push, push_number, read_error}

module _ (rows : List Row) (row : Row) where
  abbrev longer : List Row
  longer = rows ++ row ∷ []

  -- e is the error of one of the rows, after rows of entries
  abbrev IsErrorIn : List Row → OpenError → Type 0
  IsErrorIn all e = (index : ℕ) × (row : Row) × (entries : List LogEntryValue) × (slice_get all index ≡ Some row) × AllZip IsGoodRow (take index all) entries × IsErrorAt index row e × AreNumbered (take index all)

  still_in : (e : OpenError) → IsErrorIn rows e → IsErrorIn longer e
  still_in e wrong =
      let same = sym (take-append rows (row ∷ []) wrong.0 wrong.1 wrong.3) in (
        wrong.0,
        wrong.1,
        wrong.2,
        get-append rows (row ∷ []) wrong.0 wrong.1 wrong.3,
        subst (λ (l : List Row). AllZip IsGoodRow l wrong.2) same wrong.4,
        wrong.5,
        subst (λ (l : List Row). AreNumbered l) same wrong.6,
      )

  -- the first error stays the first
  pub still_wrong : (e : OpenError) → IsReadError rows e → IsReadError longer e
  still_wrong Memory wrong = tt
  still_wrong (Sqlite cause) wrong = still_in (Sqlite cause) wrong
  still_wrong Foreign wrong = still_in Foreign wrong
  still_wrong (Gap count) wrong = still_in (Gap count) wrong
  still_wrong (Lost count) wrong = still_in (Lost count) wrong
  still_wrong (WrongObject kind id) wrong = still_in (WrongObject kind id) wrong
  still_wrong (UnknownKind id) wrong = still_in (UnknownKind id) wrong
  still_wrong (Malformed kind id reason offset) wrong = still_in (Malformed kind id reason offset) wrong
  still_wrong (Backend error) wrong = still_in (Backend error) wrong

  module _ (old : Replayed) (before : AreReplayed rows old) where
    -- the last row is the first that has an error
    pub wrong_now : (e : OpenError) → IsErrorAt old.count row e → IsReadError longer e
    wrong_now e wrong =
        let all = sym (take-append_seam rows (row ∷ [])) in
        read_error longer (length rows) old.count row before.entries e (omega (arith, length_push rows row)) (get-last rows row)
        (subst (λ (l : List Row). AllZip IsGoodRow l before.entries) all before.are_good)
        (subst (λ (l : List Row). AreNumbered l) all before.are_numbered)
        (sym before.are_counted ∙ sym (good_length rows before.entries before.are_good)) wrong

    -- the last row is that of an entry, which is replayed
    pub good_now : (entry : LogEntryValue) (backend : Result MemoryBackendValue ReplayError) → IsGoodRow row entry → column row 0 ≡ Int (pos (old.count + 1))
        → ((entries : List LogEntryValue) → IsResult entries old.backend → IsResult (entries ++ entry ∷ []) backend)
        → AreReplayed longer (record { backend = backend; count = old.count + 1 })
    good_now entry backend good number next = record {
      entries = before.entries ++ entry ∷ [];
      are_good = push rows before.entries row entry before.are_good good;
      are_numbered = push_number rows row 0 before.are_numbered (number ∙ ap (λ n. Int (pos n)) (omega (arith, before.are_counted)));
      are_counted = length_push rows row ∙ ap (λ n. n + 1) before.are_counted;
      is_result = next before.entries before.is_result;
    }

-- ---- the rows were replayed before the first error

pub result_is : (entries : List LogEntryValue) (r : Result MemoryBackendValue ReplayError) → IfOk r (IsReplay entries) → IfErr r (IsReplayError entries)
    → IfErr r (IsReplayCause copy.ghosts.errors tree.ghosts.errors commit.ghosts.errors entries) → IsResult entries r
result_is entries (Ok backend) replay fails why = replay
result_is entries (Err e) replay fails why = (fails, why)

pub whole_ids : (entries : List LogEntryValue) (r : Result MemoryBackendValue ReplayError) → IfOk r (IsReplay entries) → IfOk r (λ backend. backend.id_length ≡ digest_length)
whole_ids entries (Ok backend) replay = ap (λ (b : MemoryBackendValue). b.id_length) replay.ids
whole_ids entries (Err e) replay = tt

module _ (Shows : List Row → Type 0) where
  pub if_replayed : (r : Result Replayed OpenError) → (rows : List Row) × IsRowReplay rows r × Shows rows → IfOk r (λ replayed. (rows : List Row) × AreReplayed rows replayed × Shows rows)
  if_replayed (Ok replayed) shown = shown
  if_replayed (Err e) shown = tt

  pub if_wrong : (r : Result Replayed OpenError) → (rows : List Row) × IsRowReplay rows r × Shows rows → IfErr r (λ e. (rows : List Row) × IsReadError rows e × Shows rows)
  if_wrong (Ok replayed) shown = tt
  if_wrong (Err e) shown = shown

-- ---- the rows of a log were replayed, and then counted

module _ {S : Type 0} (g : Ghosts S) (old mid new : Held S) (rows : List Row) (replayed : Replayed) (are : AreReplayed rows replayed)
    (shown : Shown select_statement [] (state g old) (state g mid) rows) where
  pub count_fails : (e : OpenError) → FailsToCount g mid new replayed.count e → FailsToRead g old new e
  count_fails e fails = inr (inr (mid, rows, are.entries, shown, are.are_good, are.are_numbered, subst (λ (n : ℕ). FailsToCount g mid new n e) (sym are.are_counted) fails))

  module _ (counted : IsCounted g mid new replayed.count) where
    were_counted : IsCounted g mid new (length rows)
    were_counted = subst (λ (n : ℕ). IsCounted g mid new n) (sym are.are_counted) counted

    were_read : IsRead g old new rows
    were_read = record { read = mid; shown = shown; counted = were_counted }

    module _ (backend : MemoryBackendValue) (is : replayed.backend ≡ Ok backend) where
      replay : IsReplay are.entries backend
      replay = subst (λ (r : Result MemoryBackendValue ReplayError). IsResult are.entries r) is are.is_result

      pub is_replayed : IsReplayed g old new backend
      is_replayed = record { rows = rows; entries = are.entries; are_read = were_read; are_good = are.are_good; is_replay = replay }

      pub replays_entries : (entries : List LogEntryValue) → HasEntries (state g old) entries → IsReplay entries backend
      replays_entries entries has =
          subst (λ (l : List LogEntryValue). IsReplay l backend) (reads (state g old) (state g mid) rows are.entries entries has shown are.are_good) replay

      pub replays_first : (entries : List LogEntryValue) → HasOnlyRowsOf (state g old) entries → (count : ℕ) × IsReplay (take count entries) backend
      replays_first entries has = (
        length are.entries,
        subst (λ (l : List LogEntryValue). IsReplay l backend) (reads_first (state g old) (state g mid) rows are.entries entries has shown are.are_good are.are_numbered) replay,
      )

      pub replays_all : (entries : List LogEntryValue) → CountsRowsOf (state g old) entries → IsReplay entries backend
      replays_all entries has =
          subst (λ (l : List LogEntryValue). IsReplay l backend)
          (reads_all (state g old) (state g mid) (state g new) rows are.entries entries has shown are.are_good are.are_numbered (elim were_counted [
            | inl none ↦ inl none.0
            | inr counts ↦ inr counts
          ]))
          replay

    module _ (cause : ReplayError) (is : replayed.backend ≡ Err cause) where
      failure : IsReplayError are.entries cause × IsReplayCause copy.ghosts.errors tree.ghosts.errors commit.ghosts.errors are.entries cause
      failure = subst (λ (r : Result MemoryBackendValue ReplayError). IsResult are.entries r) is are.is_result

      pub replay_fails : FailsToReplay g old new (open_error cause)
      replay_fails = record {
        rows = rows;
        entries = are.entries;
        cause = cause;
        are_read = were_read;
        are_good = are.are_good;
        is_cause = failure.0;
        is_error = refl;
      }

      pub replay_caused : OnMalformed (open_error cause) (IsDecodingError g copy.ghosts.errors tree.ghosts.errors commit.ghosts.errors old new)
      replay_caused = of_replay g copy.ghosts.errors tree.ghosts.errors commit.ghosts.errors old new rows are.entries cause were_read are.are_good failure.1
