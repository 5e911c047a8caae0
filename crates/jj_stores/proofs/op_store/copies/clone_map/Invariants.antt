-- The clones of the entries so far.
use Rattle.std.proofs.Common.{◌≡◌, ◌++◌, true, map}
use Rattle.std.specs.Cmp.Lexicographic.{slice_cmp}
use Rattle.std.specs.List.{AllZip}
use Rattle.std.specs.List.Sorted.{IsStrictlySortedBy}
use Rattle.std.specs.Map.{keys_of}
use Rattle.std.specs.Map.Iter.{deref_pair}
use Rattle.std.specs.Ordering.{nat_cmp}
use Rattle.jj_stores.proofs.op_store.copies.clone_map.Given as goal

abbrev pub invariant-loop-name : goal.invariant-loop-name
invariant-loop-name g l = record {
  can : (goal.iterator-loop-name g).can_next l.name-iterator;
  ends : (goal.iterator-loop-name g).is_finite l.name-iterator;
  left : map deref_pair l.yielded ++ l.name-iterator ≡ l.map.entries;
  ordered : IsStrictlySortedBy (slice_cmp nat_cmp) (keys_of l.map.entries);
  copied : AllZip (λ p q. (q.0 ≡ p.0) × (g.V.PartialEq.eq q.1 p.1 ≡ true))
      (map deref_pair l.yielded) l.copy.entries;
}
