-- Only steps of one byte are skipped.
use Rattle.std.proofs.Common.{◌≡◌, length}
use Rattle.jj_globs.specs.GlobNfa.{TargetsInRange}
use Rattle.jj_globs.specs.GlobTables.{after_bytes}
use Rattle.jj_globs.proofs.glob.bit_tables.after_bytes.Given as goal

abbrev pub invariant-loop-step : goal.invariant-loop-step
invariant-loop-step l = record {
  same : after_bytes l.left ≡ after_bytes l.steps;
  inside : TargetsInRange l.left;
}

abbrev pub decreases-loop-step : goal.decreases-loop-step
decreases-loop-step l = length l.left
