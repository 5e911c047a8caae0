use Rattle.std.proofs.Common.{◌≡◌, ◌++◌, List, Ok, false, map}
use Rattle.jj_dag.proofs.forward.push_all.Given as goal

abbrev pub invariant-loop-item : goal.invariant-loop-item
invariant-loop-item g l = record {
  can : (goal.iterator-loop-item g).can_next l.item-iterator;
  finite : (goal.iterator-loop-item g).is_finite l.item-iterator;
  sound : (xs : List g.row.T.Denot) × (l.yielded ≡ map (λ x. Ok x) xs) × (l.stack.items ≡ l.initial.stack.items ++ map (λ x. (x, false)) xs);
}
