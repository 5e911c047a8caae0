-- The sets accept what they accepted at the start; no state below `from` is in `now`.
use Rattle.std.proofs.Common.{◌≤◌, ◌-◌, ◌+◌, ◌↔◌, ℕ, length}
use Rattle.jj_globs.specs.GlobBacktracking.{Test}
use Rattle.jj_globs.specs.GlobNfa.{HasBit, AnyAhead, Solves}
use Rattle.jj_globs.proofs.glob.simulation.advance.Given as goal

abbrev pub invariant-loop-state : goal.invariant-loop-state
invariant-loop-state g l = record {
  same : (P : ℕ → Test) → Solves l.options l.below l.steps P → AnyAhead P l.now l.next l.left ↔ AnyAhead P l.fn.now l.fn.next l.left;
  from : (j : ℕ) → HasBit l.now j → l.from ≤ j;
  now_within : (j : ℕ) → HasBit l.now j → j ≤ length l.steps;
  next_within : (j : ℕ) → HasBit l.next j → j ≤ length l.steps;
}

abbrev pub decreases-loop-state : goal.decreases-loop-state
decreases-loop-state g l = length l.steps + 1 - l.from
