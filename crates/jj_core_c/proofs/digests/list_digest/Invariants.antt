-- The hasher has absorbed the length and the content of the pieces before the index.
use Rattle.std.proofs.Common.{◌++◌, length, take}
use Rattle.std.specs.List.{flat_map}
use Rattle.jj_content.specs.Blake2bState.{HasAbsorbed}
use Rattle.jj_content.specs.Content.{string_content, u64_content}
use Rattle.jj_core_c.specs.Pieces.{pieces_of}
use Rattle.jj_core_c.proofs.digests.list_digest.Given as goal

abbrev pub invariant-loop-index : goal.invariant-loop-index
invariant-loop-index l = HasAbsorbed l.hasher (u64_content (length l.ends) ++ flat_map string_content (take l.index (pieces_of l.bytes l.ends)))
