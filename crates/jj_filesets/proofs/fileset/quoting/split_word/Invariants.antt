use Rattle.std.proofs.Common.{◌-◌, length}
use Rattle.jj_filesets.proofs.Strings.{IsWordSoFar}
use Rattle.jj_filesets.proofs.fileset.quoting.split_word.Given as goal

abbrev pub invariant-loop-len : goal.invariant-loop-len
invariant-loop-len l = IsWordSoFar l.text l.len

abbrev pub decreases-loop-len : goal.decreases-loop-len
decreases-loop-len l = length l.text - l.len
