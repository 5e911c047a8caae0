use Rattle.std.proofs.Common.{◌≡◌, ◌++◌, List, length}
use Rattle.jj_merges.specs.Calls.{CallsReturn}
use Rattle.jj_merges.specs.Terms.{items, InlineHasOne}
use Rattle.jj_merges.proofs.merge.termwise.map_remaining.Given as goal

abbrev pub invariant-loop-term : goal.invariant-loop-term
invariant-loop-term g l =
    goal.F-IsAlwaysCallable g l.f × InlineHasOne l.termwise × ((seen : List g.row.T.Denot) × (seen ++ l.terms ≡ l.fn.terms)
    × CallsReturn (goal.F-step g) l.fn.f seen (items l.termwise) l.f)

abbrev pub decreases-loop-term : goal.decreases-loop-term
decreases-loop-term g l = length l.terms
