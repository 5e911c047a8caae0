-- The bytes consumed so far are the input, and the source has not failed unless it had before.
use Rattle.std.proofs.Common.{◌≡◌, false}
use Rattle.std.specs.Io.KnownBytes.{Consumes}
use Rattle.jj_filter.proofs.filter.read_input.Given as goal

abbrev pub invariant-loop-n : goal.invariant-loop-n
invariant-loop-n g l =
    Consumes (g.R.Source.remaining l.initial.reader) (g.R.Source.remaining l.reader) l.input.items
    × (g.R.Source.has_failed l.initial.reader ≡ false → g.R.Source.has_failed l.reader ≡ false)

abbrev pub decreases-loop-n : goal.decreases-loop-n
decreases-loop-n g l = g.R.Source.reads_left l.reader
