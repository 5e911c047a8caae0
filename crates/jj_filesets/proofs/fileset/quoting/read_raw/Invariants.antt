use Rattle.std.proofs.Common.{◌≡◌, ◌≤◌, length}
use Rattle.jj_filesets.specs.Strings.{raw}
use Rattle.jj_filesets.proofs.Strings.{prepended}
use Rattle.jj_filesets.proofs.fileset.quoting.read_raw.Given as goal

abbrev pub invariant-loop-byte : goal.invariant-loop-byte
invariant-loop-byte l = record {
  string : prepended l.bytes.items (raw l.start l.rest) ≡ raw l.start l.fn.text;
  within : length l.rest ≤ length l.fn.text;
}

abbrev pub decreases-loop-byte : goal.decreases-loop-byte
decreases-loop-byte l = length l.rest
