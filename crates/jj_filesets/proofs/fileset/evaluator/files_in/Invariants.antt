-- The files found so far are those among the visited ones that are in the set.
use Rattle.std.proofs.Common.{map, take}
use Rattle.jj_paths.specs.Names.{path_of}
use Rattle.jj_filesets.specs.Selection.{IsSelected, IsFileIn}
use Rattle.jj_filesets.proofs.fileset.evaluator.files_in.Given as goal

abbrev pub invariant-loop-file : goal.invariant-loop-file
invariant-loop-file l =
    IsSelected (IsFileIn l.expression) (map path_of (take l.file-index l.files)) (map path_of l.found.items)
