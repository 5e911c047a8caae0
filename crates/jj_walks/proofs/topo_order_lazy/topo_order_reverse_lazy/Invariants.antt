use Rattle.std.proofs.Common.{◌≡◌, Ok, None, map}
use Rattle.jj_walks.proofs.topo_order_lazy.topo_order_reverse_lazy.Given as goal

abbrev pub invariant-loop-item : goal.invariant-loop-item
invariant-loop-item g l = record {
  can : (goal.iterator-loop-item g).can_next l.item-iterator;
  finite : (goal.iterator-loop-item g).is_finite l.item-iterator;
  failed : l.failed ≡ None;
  sound : l.yielded ≡ map (λ x. Ok x) l.nodes.items;
}
