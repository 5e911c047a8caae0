-- The nodes yielded so far.
use Rattle.std.proofs.Common.{◌≡◌, List, Ok, map}
use Rattle.jj_walks.specs.GroupedSteps.{Item}
use Rattle.jj_store_walks.proofs.grouped.collect_nodes.Given as goal

abbrev pub invariant-loop-item : goal.invariant-loop-item
invariant-loop-item g l = record {
  can : (goal.iterator-loop-item g).can_next l.item-iterator;
  finite : (goal.iterator-loop-item g).is_finite l.item-iterator;
  items : (items : List (Item g.row.N.Denot g.row.ID.Denot)) × (l.yielded ≡ map (λ x. Ok x) items) × (map (λ x. x.0) items ≡ l.found.items);
}
