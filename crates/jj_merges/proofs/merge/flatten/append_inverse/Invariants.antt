use Rattle.std.proofs.Common.{◌≡◌, ◌++◌, ◌∷◌, ◌%◌, [], length}
use Rattle.jj_merges.specs.Flatten.{inverse_terms, swap_pairs}
use Rattle.jj_merges.specs.Terms.{items, InlineHasOne}
use Rattle.jj_merges.proofs.merge.flatten.append_inverse.Given as goal

abbrev pub invariant-loop-removed : goal.invariant-loop-removed
invariant-loop-removed g l =
    InlineHasOne l.terms × (length l.rest % 2 ≡ 0)
    × (items l.terms ++ (swap_pairs l.rest ++ l.first ∷ []) ≡ items l.fn.terms ++ inverse_terms l.fn.remove)

abbrev pub decreases-loop-removed : goal.decreases-loop-removed
decreases-loop-removed g l = length l.rest
