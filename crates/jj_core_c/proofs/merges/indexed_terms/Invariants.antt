-- The terms before the index are found.
use Rattle.std.proofs.Common.{◌≡◌, map, take}
use Rattle.std.specs.List.{range_with_len}
use Rattle.jj_core_c.specs.Pieces.{pieces_of}
use Rattle.jj_core_c.proofs.merges.indexed_terms.Given as goal

abbrev pub invariant-loop-index : goal.invariant-loop-index
invariant-loop-index l = record {
  bytes : map (λ term. term.bytes.now) l.terms.items ≡ take l.index (pieces_of l.bytes l.ends);
  indices : map (λ term. term.index) l.terms.items ≡ range_with_len 0 l.index;
}
