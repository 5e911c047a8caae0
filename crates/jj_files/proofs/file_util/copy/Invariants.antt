-- The bytes read so far were written and counted, and no call has failed.
use Rattle.std.proofs.Common.{◌≡◌, List, ℕ, length, false}
use Rattle.std.specs.Io.KnownBytes.{Appends, Consumes}
use Rattle.jj_files.specs.Streams.{usize_saturate}
use Rattle.jj_files.proofs.file_util.copy.Given as goal

abbrev pub invariant-loop-n : goal.invariant-loop-n
invariant-loop-n g l =
    (moved : List ℕ) × (l.count ≡ usize_saturate (length moved))
    × Consumes (g.R.Source.remaining l.initial.reader) (g.R.Source.remaining l.reader) moved
    × Appends (g.W.Sink.contents l.initial.writer) (g.W.Sink.contents l.writer) moved
    × (g.R.Source.has_failed l.reader ≡ false)
    × (g.W.Sink.has_failed l.writer ≡ false)

abbrev pub decreases-loop-n : goal.decreases-loop-n
decreases-loop-n g l = g.R.Source.reads_left l.reader
