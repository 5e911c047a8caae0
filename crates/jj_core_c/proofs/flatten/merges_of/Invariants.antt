-- The merges before the index are found.
use Rattle.std.proofs.Common.{◌≡◌, take}
use Rattle.jj_core_c.specs.FlattenResults.{AreMerges}
use Rattle.jj_core_c.specs.Pieces.{pieces_of}
use Rattle.jj_core_c.proofs.flatten.merges_of.Given as goal

abbrev pub invariant-loop-index : goal.invariant-loop-index
invariant-loop-index l = record {
  found : l.merges.items ≡ take l.index (pieces_of l.indices l.ends);
  odd : AreMerges l.merges.items;
}
