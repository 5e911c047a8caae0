use Rattle.std.proofs.Common.{◌≡◌, ◌++◌, length, map}
use Rattle.jj_merges.specs.Terms.{items, InlineHasOne}
use Rattle.jj_merges.proofs.merge.termwise.zip_terms.Given as goal

abbrev pub invariant-loop-first : goal.invariant-loop-first
invariant-loop-first g l =
    InlineHasOne l.pairs × (length l.firsts ≡ length l.seconds) × (map (λ p. p.0) (items l.pairs) ++ l.firsts ≡ l.fn.firsts)
    × (map (λ p. p.1) (items l.pairs) ++ l.seconds ≡ l.fn.seconds)

abbrev pub decreases-loop-first : goal.decreases-loop-first
decreases-loop-first g l = length l.firsts
