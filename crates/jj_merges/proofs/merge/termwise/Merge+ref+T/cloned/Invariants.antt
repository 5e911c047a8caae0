use Rattle.std.proofs.Common.{take, map}
use Rattle.std.specs.List.{AllZip}
use Rattle.jj_merges.specs.Terms.{items, InlineHasOne}
use Rattle.jj_merges.proofs.merge.termwise.Merge+ref+T.cloned.Given as goal

abbrev pub invariant-loop-term : goal.invariant-loop-term
invariant-loop-term g l = InlineHasOne l.terms × AllZip g.T.Clone.is_clone (map (λ x. x.now) (take l.term-index l.values)) (items l.terms)
