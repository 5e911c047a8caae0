use Rattle.std.proofs.Common.{◌≡◌, false, length}
use Rattle.jj_fast_import.specs.Lines.{without_comments}
use Rattle.jj_fast_import.proofs.lines.skip_comments.Given as goal

abbrev pub invariant-loop-byte : goal.invariant-loop-byte
invariant-loop-byte l = without_comments l.within l.rest ≡ without_comments false l.fn.bytes

abbrev pub decreases-loop-byte : goal.decreases-loop-byte
decreases-loop-byte l = length l.rest
