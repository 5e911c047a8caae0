use Rattle.std.proofs.Common.{◌≡◌, ◌∷◌, ◌%◌, length}
use Rattle.jj_merges.specs.Sources.{diff_terms}
use Rattle.jj_merges.specs.Terms.{items, InlineHasOne}
use Rattle.jj_merges.proofs.merge.Merge.from_diffs.Given as goal

abbrev pub invariant-loop-diff : goal.invariant-loop-diff
invariant-loop-diff g l = InlineHasOne l.terms × (length (items l.terms) % 2 ≡ 1) × (items l.terms ≡ l.fn.first_side ∷ diff_terms l.yielded)
