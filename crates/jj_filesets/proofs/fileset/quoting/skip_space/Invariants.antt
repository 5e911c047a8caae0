use Rattle.std.proofs.Common.{◌≡◌, ◌≤◌, length}
use Rattle.jj_filesets.specs.Strings.{without_space}
use Rattle.jj_filesets.proofs.fileset.quoting.skip_space.Given as goal

abbrev pub invariant-loop-byte : goal.invariant-loop-byte
invariant-loop-byte l = (without_space l.rest ≡ without_space l.fn.text) × (length l.rest ≤ length l.fn.text)

abbrev pub decreases-loop-byte : goal.decreases-loop-byte
decreases-loop-byte l = length l.rest
