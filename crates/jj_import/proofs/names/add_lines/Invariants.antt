use Rattle.std.proofs.Common.{length}
use Rattle.jj_import.proofs.names.add_lines.Given as goal

abbrev pub decreases-loop-len : goal.decreases-loop-len
decreases-loop-len l = length l.rest
