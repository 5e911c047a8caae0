use Rattle.std.proofs.Common.{◌≡◌, ℕ, ◌<◌, false}
use Rattle.std.specs.Prelude.{slice_index}
use Rattle.jj_merges.specs.Simplify.{equal_at}
use Rattle.jj_merges.proofs.merge.cancellation.find_matching_remove.Given as goal

abbrev pub invariant-loop-position : goal.invariant-loop-position
invariant-loop-position g l = (k : ℕ) → k < l.position → equal_at g.T.PartialEq.eq l.values l.add (slice_index l.removes k) ≡ false
