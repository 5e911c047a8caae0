use Rattle.std.proofs.Common.{◌≡◌, take, map}
use Rattle.jj_merges.specs.Terms.{items, InlineHasOne}
use Rattle.jj_merges.proofs.merge.Merge.as_ref.Given as goal

abbrev pub invariant-loop-term : goal.invariant-loop-term
invariant-loop-term g l = InlineHasOne l.terms × (map (λ x. x.now) (items l.terms) ≡ take l.term-index l.values)
