-- The flags of the files before the index are found.
use Rattle.std.proofs.Common.{◌≡◌, length, map, take}
use Rattle.jj_paths.specs.Names.{path_of}
use Rattle.jj_core_c.specs.TreeWalks.{AreContained}
use Rattle.jj_core_c.proofs.tree_walks.found_flags.Given as goal

abbrev pub invariant-loop-file : goal.invariant-loop-file
invariant-loop-file l = record {
  flags : AreContained l.fn.found (map path_of (take l.file-index l.files)) l.flags.items;
  len : length l.flags.items ≡ l.file-index;
}
