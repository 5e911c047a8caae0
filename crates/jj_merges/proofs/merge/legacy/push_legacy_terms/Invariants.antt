use Rattle.std.proofs.Common.{◌≡◌, ◌++◌, []}
use Rattle.jj_merges.specs.Legacy.{legacy_pairs}
use Rattle.jj_merges.specs.Terms.{items, InlineHasOne}
use Rattle.jj_merges.proofs.LegacyLoop.{LegacyInvariant}
use Rattle.jj_merges.proofs.merge.legacy.push_legacy_terms.Given as goal

abbrev pub invariant-loop-remove : goal.invariant-loop-remove
invariant-loop-remove g l =
    InlineHasOne l.terms
    × LegacyInvariant g.A.Iterator.next_gives g.A.Iterator.can_next g.A.Iterator.remaining l.fn.adds l.adds l.add l.yielded (items l.terms)

abbrev pub invariant-loop-add : goal.invariant-loop-add
invariant-loop-add g l = InlineHasOne l.terms × (items l.terms ≡ items l.initial.terms ++ legacy_pairs [] l.yielded)
