-- The flags before the index are written, and the others are unchanged.
use Rattle.std.proofs.Common.{◌≡◌, drop, take}
use Rattle.jj_core_c.specs.GlobResults.{AreMatches}
use Rattle.jj_core_c.specs.Pieces.{pieces_of}
use Rattle.jj_core_c.proofs.globs.write_matches.Given as goal

abbrev pub invariant-loop-index : goal.invariant-loop-index
invariant-loop-index l = record {
  written : AreMatches l.glob (take l.index (pieces_of l.bytes l.ends)) (take l.index l.matches);
  unchanged : drop l.index l.matches ≡ drop l.index l.fn.matches;
}
