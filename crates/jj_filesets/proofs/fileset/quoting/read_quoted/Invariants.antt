use Rattle.std.proofs.Common.{◌≡◌, ◌≤◌, length}
use Rattle.jj_filesets.specs.declared.fileset.quoting.Escape.TheVariants.{Outside}
use Rattle.jj_filesets.specs.Strings.{quoted}
use Rattle.jj_filesets.proofs.Strings.{prepended}
use Rattle.jj_filesets.proofs.fileset.quoting.read_quoted.Given as goal

abbrev pub invariant-loop-byte : goal.invariant-loop-byte
invariant-loop-byte l = record {
  string : prepended l.bytes.items (quoted l.total l.start l.escape l.rest) ≡ quoted l.total l.start Outside l.fn.text;
  within : length l.rest ≤ length l.fn.text;
}

abbrev pub decreases-loop-byte : goal.decreases-loop-byte
decreases-loop-byte l = length l.rest
