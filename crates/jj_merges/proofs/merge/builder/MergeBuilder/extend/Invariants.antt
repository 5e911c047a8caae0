use Rattle.std.proofs.Common.{◌≡◌, ◌++◌}
use Rattle.jj_merges.specs.Terms.{items, InlineHasOne}
use Rattle.jj_merges.proofs.merge.builder.MergeBuilder.extend.Given as goal

abbrev pub invariant-loop-term : goal.invariant-loop-term
invariant-loop-term g l = InlineHasOne l.self-inside.terms × (items l.self-inside.terms ≡ l.fn.self ++ l.yielded)
