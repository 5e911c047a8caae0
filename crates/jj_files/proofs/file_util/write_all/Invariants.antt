-- The bytes before `rest` were appended, and the sink fails only if it had failed before.
use Rattle.std.proofs.Common.{◌≡◌, List, ℕ, ◌++◌, length}
use Rattle.std.specs.Io.KnownBytes.{Appends}
use Rattle.jj_files.proofs.file_util.write_all.Given as goal

abbrev pub invariant-loop-rest : goal.invariant-loop-rest
invariant-loop-rest g l =
    (done : List ℕ) × Appends (g.W.Sink.contents l.initial.writer) (g.W.Sink.contents l.writer) done × (done ++ l.rest ≡ l.initial.rest)
    × (g.W.Sink.has_failed l.writer ≡ g.W.Sink.has_failed l.initial.writer)

abbrev pub decreases-loop-rest : goal.decreases-loop-rest
decreases-loop-rest g l = length l.rest
