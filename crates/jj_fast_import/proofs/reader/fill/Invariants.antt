-- The bytes so far are those that were read.
use Rattle.std.specs.Io.KnownBytes.{Consumes}
use Rattle.jj_fast_import.proofs.reader.fill.Given as goal

abbrev pub invariant-loop-n : goal.invariant-loop-n
invariant-loop-n g l = Consumes (g.R.Source.remaining l.initial.source) (g.R.Source.remaining l.source) l.added.items

abbrev pub decreases-loop-n : goal.decreases-loop-n
decreases-loop-n g l = g.R.Source.reads_left l.source
