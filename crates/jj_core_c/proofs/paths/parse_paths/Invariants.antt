-- The pieces before the index are parsed.
use Rattle.std.proofs.Common.{◌≡◌, length, map, take}
use Rattle.std.specs.Prelude.{All}
use Rattle.jj_paths.specs.Names.{path_of}
use Rattle.jj_core_c.specs.JoinedPaths.{IsPath, paths_of}
use Rattle.jj_core_c.specs.Pieces.{pieces_of}
use Rattle.jj_core_c.proofs.paths.parse_paths.Given as goal

abbrev pub invariant-loop-index : goal.invariant-loop-index
invariant-loop-index l = record {
  parsed : map path_of l.paths.items ≡ take l.index (paths_of l.bytes l.ends);
  valid : All IsPath (take l.index (pieces_of l.bytes l.ends));
  len : length l.paths.items ≡ l.index;
}
