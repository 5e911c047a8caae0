use Rattle.std.proofs.Common.{◌≡◌, ◌++◌, ◌∷◌, ◌%◌, List, length}
use Rattle.jj_merges.specs.Flatten.{flattened_terms}
use Rattle.jj_merges.specs.Terms.{items, InlineHasOne}
use Rattle.jj_merges.proofs.FlattenLaws.{AreOdd}
use Rattle.jj_merges.proofs.merge.flatten.flatten_remaining.Given as goal

abbrev pub invariant-loop-remove : goal.invariant-loop-remove
invariant-loop-remove g l =
    (seen : List (List g.row.T.Denot)) × (seen ++ l.merges ≡ l.fn.first ∷ l.fn.merges) × (length seen % 2 ≡ 1) × AreOdd seen × InlineHasOne l.terms
    × (items l.terms ≡ flattened_terms seen)

abbrev pub decreases-loop-remove : goal.decreases-loop-remove
decreases-loop-remove g l = length l.merges
