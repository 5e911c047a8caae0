use Rattle.std.proofs.Common.{◌≡◌, ℕ, ◌-◌, ◌^◌, ◌<◌, List, [], None, Some, map, length, get_or, drop}
use Rattle.std.specs.BinaryHeap.{heap_items, IsHeap}
use Rattle.std.specs.Ordering.{nat_cmp, ordering_then}
use Rattle.jj_dag.specs.PackedLists.{lists_of}
use Rattle.jj_dag.proofs.TakingReady.{IsSorting, IsTaking}
use Rattle.jj_dag.proofs.greatest_order.take_greatest_first.Given as goal

abbrev pub invariant-loop-index : goal.invariant-loop-index
invariant-loop-index g l = record {
  sorting : IsSorting g.T.Ord.cmp l.fn.pending.items (lists_of l.targets) l.indegrees.items l.index l.pending.items (heap_items l.ready);
  heap_order : IsHeap (λ x y. ordering_then (g.T.Ord.cmp x.0 y.0) (nat_cmp x.1 y.1)) (heap_items l.ready);
}

abbrev pub invariant-loop-node : goal.invariant-loop-node
invariant-loop-node g l = record {
  heap_order : IsHeap (λ x y. ordering_then (g.T.Ord.cmp x.0 y.0) (nat_cmp x.1 y.1)) (heap_items l.ready);
  taking : (order : List ℕ) × (live : List (List ℕ)) × (map (λ x. Some x) l.order.items ≡ map (λ k. get_or l.fn.pending.items k None) order)
      × IsTaking g.T.Ord.cmp l.fn.pending.items (lists_of l.targets) l.pending.items l.indegrees.items [] live order (heap_items l.ready);
}

abbrev pub decreases-loop-node : goal.decreases-loop-node
decreases-loop-node g l = 2 ^ 64 - length l.order.items

abbrev pub invariant-loop-target : goal.invariant-loop-target
invariant-loop-target g l = record {
  heap_order : IsHeap (λ x y. ordering_then (g.T.Ord.cmp x.0 y.0) (nat_cmp x.1 y.1)) (heap_items l.ready);
  list : l.target-items ≡ get_or (lists_of l.targets) l.index [];
  taking : (order : List ℕ) × (live : List (List ℕ)) × (map (λ x. Some x) l.order.items ≡ map (λ k. get_or l.fn.pending.items k None) order)
      × IsTaking g.T.Ord.cmp l.fn.pending.items (lists_of l.targets) l.pending.items l.indegrees.items (drop l.target-index l.target-items) live order (heap_items l.ready);
}

abbrev pub invariant-loop-left : goal.invariant-loop-left
invariant-loop-left g l = record {
  same : l.pending.items ≡ l.initial.pending.items;
  gone : (k : ℕ) → k < l.left → get_or l.pending.items k None ≡ None;
}
