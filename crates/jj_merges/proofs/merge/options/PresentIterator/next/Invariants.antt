use Rattle.std.proofs.Common.{◌≡◌, length}
use Rattle.jj_merges.specs.Options.{present}
use Rattle.jj_merges.proofs.merge.options.PresentIterator.next.Given as goal

abbrev pub invariant-loop-term : goal.invariant-loop-term
invariant-loop-term g l = present l.self-inside.terms ≡ l.fn.self

abbrev pub decreases-loop-term : goal.decreases-loop-term
decreases-loop-term g l = length l.self-inside.terms
