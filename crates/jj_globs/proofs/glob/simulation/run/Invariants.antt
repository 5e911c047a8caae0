-- The NFA accepts all bytes exactly if a live state accepts the remaining ones.
use Rattle.std.proofs.Common.{◌≤◌, ◌↔◌, ℕ, length}
use Rattle.std.specs.Prelude.{IsTrue}
use Rattle.jj_globs.specs.GlobBacktracking.{Test}
use Rattle.jj_globs.specs.GlobNfa.{HasBit, AnyLive, Solves}
use Rattle.jj_globs.proofs.glob.simulation.run.Given as goal

abbrev pub invariant-loop-rest : goal.invariant-loop-rest
invariant-loop-rest g l = record {
  same : (P : ℕ → Test) → Solves l.options l.below l.steps P → AnyLive P l.now l.left ↔ IsTrue (P 0 l.bytes);
  next_none : (j : ℕ) → HasBit l.next j → ⊥;
  within : (j : ℕ) → HasBit l.now j → j ≤ length l.steps;
}

abbrev pub decreases-loop-rest : goal.decreases-loop-rest
decreases-loop-rest g l = length l.left
