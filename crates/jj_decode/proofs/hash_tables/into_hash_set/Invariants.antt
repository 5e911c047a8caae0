use Rattle.std.proofs.Common.{◌≡◌, ◌++◌, length}
use Rattle.std.specs.List.Sorted.{IsPermutation}
use Rattle.std.specs.HashSet.{IsUnique}
use Rattle.std.specs.Vec.Iter.{into_iter_items, into_iter_len}
use Rattle.jj_decode.proofs.hash_tables.into_hash_set.Given as goal

abbrev pub invariant-loop-member : goal.invariant-loop-member
invariant-loop-member g l = record {
  can : (goal.iterator-loop-member g).can_next l.member-iterator;
  ends : (goal.iterator-loop-member g).is_finite l.member-iterator;
  moved : IsPermutation l.fn.members.items (into_iter_items l.member-iterator ++ l.set.keys);
  len : into_iter_len l.member-iterator ≡ length (into_iter_items l.member-iterator);
  unique : IsUnique g.K.PartialEq.eq l.set;
}
