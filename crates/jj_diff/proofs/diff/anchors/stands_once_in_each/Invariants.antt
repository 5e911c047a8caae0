use Rattle.std.proofs.Common.{ℕ, ◌<◌, [], get_or}
use Rattle.jj_diff.specs.Inputs.{bytes_of}
use Rattle.jj_diff.specs.Anchors.{StandsOnceAmong, lists_of}
use Rattle.jj_diff.proofs.diff.anchors.stands_once_in_each.Given as goal

abbrev pub invariant-loop-index : goal.invariant-loop-index
invariant-loop-index g l = (i : ℕ) → i < l.index
    → StandsOnceAmong g.C.CompareBytes.canonical (get_or (bytes_of l.row) i []) (get_or (lists_of l.offsets) i []) (g.C.CompareBytes.canonical l.token)
