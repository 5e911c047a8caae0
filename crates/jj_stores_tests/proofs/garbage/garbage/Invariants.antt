use Rattle.std.proofs.Common.{◌≡◌, ◌++◌, ℕ, List, Bor, map}
use Rattle.std.specs.Map.{keys_of}
use Rattle.jj_stores_tests.specs.MemoryStores.{by_id, is_kept}
use Rattle.jj_stores_tests.proofs.Sweeping.{Swept}
use Rattle.jj_stores_tests.proofs.garbage.garbage.Given as goal

abbrev pub invariant-loop-id : goal.invariant-loop-id
invariant-loop-id g l = record {
  can : (goal.iterator-loop-id g).can_next l.id-iterator;
  ends : (goal.iterator-loop-id g).is_finite l.id-iterator;
  left : map (λ (k : Bor (List ℕ)). k.now) l.yielded ++ l.id-iterator ≡ keys_of l.objects.entries;
  swept : Swept (is_kept l.marked (by_id l.times.entries) l.keep_newer) (map (λ (k : Bor (List ℕ)). k.now) l.yielded) l.ids.items;
}
