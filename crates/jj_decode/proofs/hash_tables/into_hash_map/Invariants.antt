use Rattle.std.proofs.Common.{◌++◌}
use Rattle.std.specs.List.Sorted.{IsPermutation}
use Rattle.std.specs.HashMap.{IsUnique}
use Rattle.jj_decode.proofs.hash_tables.into_hash_map.Given as goal

abbrev pub invariant-loop-key : goal.invariant-loop-key
invariant-loop-key g l = record {
  can : (goal.iterator-loop-key g).can_next l.key-iterator;
  ends : (goal.iterator-loop-key g).is_finite l.key-iterator;
  moved : IsPermutation l.fn.map.entries (l.key-iterator ++ l.table.entries);
  unique : IsUnique g.K.PartialEq.eq l.table;
}
