use Rattle.std.proofs.Common.{◌≡◌, inl, inr, List, sym, subst, take}
use Rattle.jj_mirror.specs.Entries.{LogEntryValue}
use Rattle.jj_mirror.specs.Replays.{IsReplay}
use Rattle.jj_mirror.proofs.LoggedOnce.{AreDistinct, HasReplay, distinct_all}
use Rattle.jj_mirror_tests.proofs.LoggedFiles.{either, entries_of, with_all}
use Rattle.jj_mirror_tests.proofs.logs.distinct_files.Goals as goal

pub returns-clause-distinct : goal.returns-clause-distinct
returns-clause-distinct c = λ distinct.
    let new = c.log_files.new.store in
    let log = c.args.log in
    let files = c.args.files.now in
    let replay = c.in_ok-store.ensures.replay in
    let had = c.in_ok-store.ensures.log in
    let P : List LogEntryValue → Type 0 = λ all. (new.log ≡ all) × IsReplay all new.backend in
    let Q : List LogEntryValue → Type 0 = λ all. (new.log ≡ all) × HasReplay all in
    elim (either c.log_files.result c.log_files.ensures.ok c.log_files.ensures.err) [
      | inl ok ↦ with_all (λ all. P all × AreDistinct all) (AreDistinct new.log) (λ all both. subst AreDistinct (sym both.0.0) both.1) (entries_of files) log
          (distinct_all P (entries_of files) log distinct (ok log had replay))
      | inr err ↦ with_all (λ all. Q all × AreDistinct all) (AreDistinct new.log) (λ all both. subst AreDistinct (sym both.0.0) both.1) (entries_of (take (err log had replay).0 files)) log
          (distinct_all Q (entries_of (take (err log had replay).0 files)) log distinct (err log had replay).1)
    ]

pub returns-clause-replay : goal.returns-clause-replay
returns-clause-replay c =
    let new = c.log_files.new.store in
    let log = c.args.log in
    let files = c.args.files.now in
    let replay = c.in_ok-store.ensures.replay in
    let had = c.in_ok-store.ensures.log in
    let P : List LogEntryValue → Type 0 = λ all. (new.log ≡ all) × IsReplay all new.backend in
    let Q : List LogEntryValue → Type 0 = λ all. (new.log ≡ all) × HasReplay all in
    elim (either c.log_files.result c.log_files.ensures.ok c.log_files.ensures.err) [
      | inl ok ↦ with_all P (HasReplay new.log) (λ all both. subst HasReplay (sym both.0) (new.backend, both.1)) (entries_of files) log (ok log had replay)
      | inr err ↦ with_all Q (HasReplay new.log) (λ all both. subst HasReplay (sym both.0) both.1) (entries_of (take (err log had replay).0 files)) log (err log had replay).1
    ]
