-- The lines of the paths so far are written.
use Rattle.std.proofs.Common.{◌≡◌, ◌++◌, map, take}
use Rattle.jj_paths.specs.Names.{path_of}
use Rattle.jj_program.specs.WalkCommand.{path_lines}
use Rattle.jj_program.proofs.walk_command.push_paths.Given as goal

abbrev pub invariant-loop-path : goal.invariant-loop-path
invariant-loop-path l = l.output.items ≡ l.initial.output.items ++ path_lines l.name (map path_of (take l.path-index l.paths))
