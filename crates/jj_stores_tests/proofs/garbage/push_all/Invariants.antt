use Rattle.std.proofs.Common.{◌≡◌, ◌++◌, take}
use Rattle.jj_stores_tests.proofs.garbage.push_all.Given as goal

abbrev pub invariant-loop-id : goal.invariant-loop-id
invariant-loop-id l = l.pending.items ≡ l.initial.pending.items ++ take l.id-index l.ids
