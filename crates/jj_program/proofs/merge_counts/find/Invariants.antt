use Rattle.std.proofs.Common.{◌≡◌, ◌<◌, ℕ, false, slice_index_or}
use Rattle.std.specs.Str.{bytes_eq}
use Rattle.jj_program.specs.declared.merge_counts.ValueCount.{ValueCount}
use Rattle.jj_program.proofs.merge_counts.find.Given as goal

abbrev pub invariant-loop-at : goal.invariant-loop-at
invariant-loop-at l = (k : ℕ) (d : ValueCount) → k < l.at → bytes_eq (slice_index_or l.counts k d).text.now l.value ≡ false
