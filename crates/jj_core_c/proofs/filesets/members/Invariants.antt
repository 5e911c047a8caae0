-- The flags of the paths before the index are found.
use Rattle.std.proofs.Common.{◌≡◌, length, map, take}
use Rattle.jj_paths.specs.Names.{path_of}
use Rattle.jj_core_c.specs.FilesetResults.{AreMembers}
use Rattle.jj_core_c.proofs.filesets.members.Given as goal

abbrev pub invariant-loop-path : goal.invariant-loop-path
invariant-loop-path l = record {
  found : AreMembers l.set (map path_of (take l.path-index l.paths)) l.flags.items;
  len : length l.flags.items ≡ l.path-index;
}
