use Rattle.std.proofs.Common.{take}
use Rattle.jj_stores_tests.specs.MemoryStores.{by_id}
use Rattle.jj_stores_tests.proofs.Sweeping.{Removed}
use Rattle.jj_stores_tests.proofs.garbage.remove_all.Given as goal

abbrev pub invariant-loop-id : goal.invariant-loop-id
invariant-loop-id g l = Removed (take l.id-index l.ids) (by_id l.initial.objects.entries) (by_id l.objects.entries)
