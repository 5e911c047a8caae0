use Rattle.jj_merges.specs.Terms.{items, InlineHasOne}
use Rattle.jj_merges.proofs.IteratorRuns.{InterleaveInvariant}
use Rattle.jj_merges.proofs.merge.builder.push_interleaved.Given as goal

abbrev pub invariant-loop-remove : goal.invariant-loop-remove
invariant-loop-remove g l =
    InlineHasOne l.terms × InterleaveInvariant g.A.Iterator.next_gives g.A.Iterator.can_next g.A.Iterator.remaining l.fn.adds l.adds l.add l.yielded (items l.terms)
