use Rattle.std.proofs.Common.{◌≡◌, take, length}
use Rattle.std.specs.List.{AllZip}
use Rattle.jj_merges.specs.Simplify.{at_indices}
use Rattle.jj_merges.specs.Terms.{items, InlineHasOne}
use Rattle.jj_merges.proofs.merge.cancellation.clone_at_indices.Given as goal

abbrev pub invariant-loop-index : goal.invariant-loop-index
invariant-loop-index g l =
    InlineHasOne l.terms × (length (items l.terms) ≡ l.index-index) × AllZip g.T.Clone.is_clone (at_indices l.values (take l.index-index l.indices)) (items l.terms)
