-- The whole NFA accepts all bytes exactly if the remaining steps accept the remaining bytes.
use Rattle.std.proofs.Common.{◌≡◌, ◌<◌, length}
use Rattle.jj_globs.specs.GlobNfa.{accepts_from, TargetsInRange}
use Rattle.jj_globs.specs.GlobTables.{after_bytes}
use Rattle.jj_globs.proofs.glob.pattern.nfa_accepts.Given as goal

abbrev pub invariant-loop-step : goal.invariant-loop-step
invariant-loop-step l = record {
  same : accepts_from l.options l.below l.steps 0 l.bytes ≡ accepts_from l.options l.below l.left 0 l.text;
  inside : TargetsInRange l.left;
  size : length l.left < 1048576;
  rest : after_bytes l.left ≡ after_bytes l.steps;
}

abbrev pub decreases-loop-step : goal.decreases-loop-step
decreases-loop-step l = length l.left
