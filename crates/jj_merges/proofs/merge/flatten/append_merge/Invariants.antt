use Rattle.std.proofs.Common.{◌≡◌, ◌++◌}
use Rattle.jj_merges.specs.Terms.{items, InlineHasOne}
use Rattle.jj_merges.proofs.merge.flatten.append_merge.Given as goal

abbrev pub invariant-loop-term : goal.invariant-loop-term
invariant-loop-term g l = InlineHasOne l.terms × (items l.terms ++ l.term-iterator ≡ items l.fn.terms ++ l.fn.add)
