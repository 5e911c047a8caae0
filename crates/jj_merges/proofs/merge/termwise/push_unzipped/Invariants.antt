use Rattle.std.proofs.Common.{◌≡◌, ◌++◌, length, map}
use Rattle.jj_merges.specs.Terms.{items, InlineHasOne}
use Rattle.jj_merges.proofs.merge.termwise.push_unzipped.Given as goal

abbrev pub invariant-loop-first : goal.invariant-loop-first
invariant-loop-first g l =
    InlineHasOne l.firsts × InlineHasOne l.seconds
    × (items l.firsts ++ map (λ p. p.0) l.pairs ≡ map (λ p. p.0) l.fn.pairs)
    × (items l.seconds ++ map (λ p. p.1) l.pairs ≡ map (λ p. p.1) l.fn.pairs)

abbrev pub decreases-loop-first : goal.decreases-loop-first
decreases-loop-first g l = length l.pairs
