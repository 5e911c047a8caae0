-- The state accepts a string if the sets accept it beyond those at the start, or the target still
-- to be entered does.
use Rattle.std.proofs.Common.{◌≤◌, ◌<◌, ◌-◌, ◌↔◌, ◌⊎◌, Bool, ℕ, length}
use Rattle.std.specs.Prelude.{IsTrue}
use Rattle.jj_globs.specs.GlobBacktracking.{Test}
use Rattle.jj_globs.specs.GlobNfa.{HasBit, AnyAhead, Solves}
use Rattle.jj_globs.proofs.glob.simulation.activate_fork.Given as goal

abbrev pub invariant-loop-further : goal.invariant-loop-further
invariant-loop-further g l = record {
  same : (below : Bool) (P : ℕ → Test) → Solves l.options below l.steps P
      → (IsTrue (P l.second l.left) ⊎ AnyAhead P l.now l.next l.left) ↔ (IsTrue (P l.state l.left) ⊎ AnyAhead P l.fn.now l.fn.next l.left);
  above : (j : ℕ) → HasBit l.now j → HasBit l.fn.now j ⊎ ((l.state < j) × (j ≤ length l.steps));
  within : (j : ℕ) → HasBit l.next j → HasBit l.fn.next j ⊎ (j ≤ length l.steps);
  from : l.state < l.second;
  inside : l.second ≤ length l.steps;
}

abbrev pub decreases-loop-further : goal.decreases-loop-further
decreases-loop-further g l = length l.steps - l.second
