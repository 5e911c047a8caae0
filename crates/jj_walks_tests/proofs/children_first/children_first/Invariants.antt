use Rattle.std.proofs.Common.{◌≡◌, map, Ok}
use Rattle.jj_walks_tests.proofs.children_first.children_first.Given as goal

abbrev pub invariant-loop-item : goal.invariant-loop-item
invariant-loop-item l = record {
  can : goal.iterator-loop-item.can_next l.item-iterator;
  nodes : l.yielded ≡ map (λ x. Ok x) l.order.items;
}
