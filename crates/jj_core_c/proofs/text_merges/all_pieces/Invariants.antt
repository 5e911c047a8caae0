-- The pieces before the index are found.
use Rattle.std.proofs.Common.{◌≡◌, take}
use Rattle.jj_diff.specs.Inputs.{bytes_of}
use Rattle.jj_core_c.specs.Pieces.{pieces_of}
use Rattle.jj_core_c.proofs.text_merges.all_pieces.Given as goal

abbrev pub invariant-loop-index : goal.invariant-loop-index
invariant-loop-index l = bytes_of l.found.items ≡ take l.index (pieces_of l.bytes l.ends)
