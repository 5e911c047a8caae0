-- The ends read so far are valid, and the remaining ones decide.
use Rattle.std.proofs.Common.{◌≡◌, drop}
use Rattle.jj_core_c.specs.Pieces.{are_ends_from}
use Rattle.jj_core_c.proofs.pieces.are_ends.Given as goal

abbrev pub invariant-loop-end : goal.invariant-loop-end
invariant-loop-end l = are_ends_from l.len 0 l.ends ≡ are_ends_from l.len l.start (drop l.end-index l.ends)
