-- The paths before the index are borrowed.
use Rattle.std.proofs.Common.{◌≡◌, map, take}
use Rattle.jj_paths.specs.Names.{path_of}
use Rattle.jj_core_c.proofs.tree_walks.borrowed_paths.Given as goal

abbrev pub invariant-loop-path : goal.invariant-loop-path
invariant-loop-path l = map path_of l.borrowed.items ≡ take l.path-index l.paths
