-- The union so far, and the states left, whose bits are bits of `states`.
use Rattle.std.proofs.Common.{◌≡◌, ℕ}
use Rattle.std.specs.Int.{bit_at}
use Rattle.jj_globs.proofs.BitTables.{UnitedSoFar}
use Rattle.jj_globs.proofs.glob.bit_tables.union.Given as goal

abbrev pub invariant-loop-left : goal.invariant-loop-left
invariant-loop-left l = record {
  united : UnitedSoFar l.sets l.states l.all l.left;
  inside : (s : ℕ) → bit_at l.left s ≡ 1 → bit_at l.states s ≡ 1;
}

abbrev pub decreases-loop-left : goal.decreases-loop-left
decreases-loop-left l = l.left
