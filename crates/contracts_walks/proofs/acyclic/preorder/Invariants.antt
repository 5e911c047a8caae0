use Rattle.std.proofs.Common.{◌≡◌, map, Ok}
use Rattle.contracts_walks.proofs.acyclic.preorder.Given as goal

abbrev pub invariant-loop-item : goal.invariant-loop-item
invariant-loop-item g l = record {
  can : (goal.iterator-loop-item g).can_next l.item-iterator;
  nodes : l.yielded ≡ map (λ x. Ok x) l.nodes.items;
}
