use Rattle.std.proofs.Common.{take, map}
use Rattle.std.specs.List.{AllZip}
use Rattle.std.specs.Option.{option_copied}
use Rattle.jj_merges.specs.Options.{IsOptionClone}
use Rattle.jj_merges.specs.Terms.{items, InlineHasOne}
use Rattle.jj_merges.proofs.merge.termwise.Merge+Option+ref+T.cloned.Given as goal

abbrev pub invariant-loop-term : goal.invariant-loop-term
invariant-loop-term g l = InlineHasOne l.terms × AllZip (IsOptionClone g.T.Clone.is_clone) (map option_copied (take l.term-index l.values)) (items l.terms)
