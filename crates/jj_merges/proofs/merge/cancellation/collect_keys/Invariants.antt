use Rattle.std.proofs.Common.{take}
use Rattle.std.specs.Fn.{CalledAt}
use Rattle.jj_merges.specs.Calls.{CallsReturn}
use Rattle.jj_merges.proofs.merge.cancellation.collect_keys.Given as goal

abbrev pub invariant-loop-value : goal.invariant-loop-value
invariant-loop-value g l = goal.F-IsAlwaysCallable g l.f × CallsReturn (CalledAt g.F.FnMut) l.fn.f (take l.value-index l.values) l.keys.items l.f
