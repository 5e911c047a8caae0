-- The fields of a watched reader or writer.
-- Cited by contracts of public items: most_reads, watched_failed, watched_inner,
-- watched_reads_left.
use Rattle.std.specs.Prelude.{ℕ, ◌^◌, ◌-◌, Bool}
use Rattle.jj_files.specs.declared.file_util.Watched.{Watched}

-- the wrapped reader or writer
abbrev pub watched_inner : {T : Type 0} → Watched T → T
watched_inner w = w.inner

-- whether a call has failed
abbrev pub watched_failed : {T : Type 0} → Watched T → Bool
watched_failed w = w.failed

-- the limit of reads, `u64::MAX`
abbrev pub most_reads : ℕ
most_reads = 2 ^ 64 - 1

-- the number of reads left
abbrev pub watched_reads_left : {T : Type 0} → Watched T → ℕ
watched_reads_left w = w.reads_left
