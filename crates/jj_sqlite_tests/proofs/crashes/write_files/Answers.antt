use Rattle.std.proofs.Common.{Vec, Global, ◌+◌, ◌⊎◌, ℕ, List, inl, inr, take, subst}
use Rattle.std.proofs.lemmas.List.{take_all}
use Rattle.jj_mirror.specs.Entries.{LogEntryValue}
use Rattle.jj_mirror.specs.Logs.{WithEntries, WithEntry}
use Rattle.jj_mirror.specs.Replays.{IsReplay}
use Rattle.jj_mirror.proofs.LoggedOnce.{WithEntries-map, WithEntries-push, WithEntries-split}
use Rattle.jj_mirror_tests.proofs.LoggedFiles.{entries_of, on_err, one_more}
use Rattle.jj_sqlite.specs.Inserts.{StoresEntries}
use Rattle.jj_sqlite_tests.specs.SavedFiles.{file_entry}
use Rattle.jj_sqlite_tests.proofs.crashes.write_files.Goals as goal

pub returns-in_err-log_file-clause-err : goal.returns-in_err-log_file-clause-err
returns-in_err-log_file-clause-err g c =
    let i = c.loop-contents.contents-index in
    let files = c.args.files.now in
    let old = c.loop-contents.store in
    let P = StoresEntries g.S.Store c.log_file.new.store.log.conn in
    let O : List LogEntryValue → Type 0 = λ all. StoresEntries g.S.Store old.log.conn all × IsReplay all old.backend in
    let entry = file_entry c.contents-item.result.items in
    on_err c.from_residual.result (λ entries had replay.
    let step : (all : List LogEntryValue) → O all → P all ⊎ WithEntry P all entry = λ all both. elim (c.in_err-log_file.ensures.err all both.0 both.1) [
      | inl kept ↦ inl kept
      | inr more ↦ inr (subst (λ (bytes : List ℕ). WithEntry P all (file_entry bytes)) c.deref.ensures.value more)
    ] in
    elim (WithEntries-split P (λ all. WithEntry P all entry) (entries_of (take i files)) entries (WithEntries-map O (λ all. P all ⊎ WithEntry P all entry) step (entries_of (take i files)) entries (c.loop-contents.invariant entries had replay))) [
      | inl kept ↦ (i, kept)
      | inr more ↦ (
        i + 1,
        subst (WithEntries P entries) (one_more files i c.contents-item.result c.loop-contents-test.true c.contents-item.is) (WithEntries-push P (entries_of (take i files)) entries entry more),
      )
    ])

pub loop-contents-preserved : goal.loop-contents-preserved
loop-contents-preserved g c = λ entries had replay.
    let i = c.loop-contents.contents-index in
    let files = c.args.files.now in
    let old = c.loop-contents.store in
    let new = c.log_file.new.store in
    let O : List LogEntryValue → Type 0 = λ all. StoresEntries g.S.Store old.log.conn all × IsReplay all old.backend in
    let P : List LogEntryValue → Type 0 = λ all. StoresEntries g.S.Store new.log.conn all × IsReplay all new.backend in
    let step = λ (all : List LogEntryValue) (both : O all). subst (λ (bytes : List ℕ). WithEntry P all (file_entry bytes)) c.deref.ensures.value (c.in_ok-log_file.ensures.ok all both.0 both.1) in
    subst (WithEntries P entries) (one_more files i c.contents-item.result c.loop-contents-test.true c.contents-item.is)
    (WithEntries-push P (entries_of (take i files)) entries (file_entry c.contents-item.result.items)
    (WithEntries-map O (λ all. WithEntry P all (file_entry c.contents-item.result.items)) step (entries_of (take i files)) entries (c.loop-contents.invariant entries had replay)))

pub returns-clause-ok : goal.returns-clause-ok
returns-clause-ok g c = λ entries had replay.
    let now = c.loop-contents.store in
    subst (λ (l : List (Vec ℕ Global)). WithEntries (λ all. StoresEntries g.S.Store now.log.conn all × IsReplay all now.backend) entries (entries_of l))
    (take_all c.loop-contents.contents-index c.args.files.now c.loop-contents-test.false) (c.loop-contents.invariant entries had replay)
