use Rattle.std.proofs.Common.{◌≡◌, length, drop}
use Rattle.jj_merges.specs.Terms.{items, IsMergeStorage}
use Rattle.jj_merges.proofs.UpdateLaws.{written}
use Rattle.jj_merges.proofs.merge.Merge.update_from_simplified.Given as goal

abbrev pub invariant-loop-index : goal.invariant-loop-index
invariant-loop-index g l =
    IsMergeStorage l.terms × (length (items l.terms) ≡ length l.fn.self)
    × (written (items l.terms) (drop l.index-index l.index-items) l.updates ≡ written l.fn.self l.index-items l.fn.simplified)
    × (length l.updates ≡ length (drop l.index-index l.index-items))
