-- The names tried so far are taken.
use Rattle.jj_temp_files.specs.TempNames.{PassesOverTaken}
use Rattle.jj_temp_files.proofs.temp_file.NamedTempFile.new_in.Given as goal

abbrev pub invariant-loop-count : goal.invariant-loop-count
invariant-loop-count g l = PassesOverTaken g.A.FileAccess.may_create l.dir l._count l.fn.names l.fn.files l.names l.files
