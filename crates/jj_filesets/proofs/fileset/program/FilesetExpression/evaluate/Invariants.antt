use Rattle.std.proofs.Common.{length}
use Rattle.jj_paths.specs.Names.{path_of}
use Rattle.jj_filesets.proofs.Evaluated.{IsEvaluated}
use Rattle.jj_filesets.proofs.fileset.program.FilesetExpression.evaluate.Given as goal

abbrev pub invariant-loop-step : goal.invariant-loop-step
invariant-loop-step l = IsEvaluated (path_of l.path) l.self l.rest l.stack.items

abbrev pub decreases-loop-step : goal.decreases-loop-step
decreases-loop-step l = length l.rest
