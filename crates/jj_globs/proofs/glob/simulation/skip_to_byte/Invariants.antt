-- No byte before those left matches `own`.
use Rattle.std.proofs.Common.{◌≡◌, ◌≤◌, length}
use Rattle.jj_globs.specs.GlobMeaning.{same_byte}
use Rattle.jj_globs.specs.GlobBacktracking.{Test, one, many, any_byte}
use Rattle.jj_globs.proofs.glob.simulation.skip_to_byte.Given as goal

abbrev pub invariant-loop-byte : goal.invariant-loop-byte
invariant-loop-byte l = record {
  same : (t : Test) → many any_byte (one (same_byte l.options l.own) t) l.bytes ≡ many any_byte (one (same_byte l.options l.own) t) l.left;
  shorter : length l.left ≤ length l.bytes;
}

abbrev pub decreases-loop-byte : goal.decreases-loop-byte
decreases-loop-byte l = length l.left
