-- The nodes yielded so far.
use Rattle.std.proofs.Common.{◌≡◌, Ok, map}
use Rattle.jj_log.proofs.grouping.collect_nodes.Given as goal

abbrev pub invariant-loop-item : goal.invariant-loop-item
invariant-loop-item g l = record {
  can : (goal.iterator-loop-item g).can_next l.item-iterator;
  finite : (goal.iterator-loop-item g).is_finite l.item-iterator;
  items : l.yielded ≡ map (λ x. Ok x) l.found.items;
}
