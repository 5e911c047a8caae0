use Rattle.std.proofs.Common.{take, Ok}
use Rattle.std.specs.Fn.{CalledAt}
use Rattle.jj_merges.specs.Calls.{CallsReturn}
use Rattle.jj_merges.specs.Terms.{items, InlineHasOne}
use Rattle.jj_merges.proofs.merge.Merge.try_map.Given as goal

abbrev pub invariant-loop-term : goal.invariant-loop-term
invariant-loop-term g l = goal.F-IsAlwaysCallable g l.f × InlineHasOne l.termwise × CallsReturn (λ f x y next. CalledAt g.F.FnMut f x (Ok y) next) l.fn.f (take l.term-index l.values) (items l.termwise) l.f
