use Rattle.std.proofs.Common.{drop, rules, ◌≡◌, ℕ, ◌<◌, ◌∷◌, List, length, IsSome, [], ◌++◌, arith, refl, sym, ◌∙◌, ap, None, get_or, set, ◌≢◌, inl, inr}
use Rattle.std.specs.List.{Contains}
use Rattle.std.specs.BinaryHeap.{heap_items}
use Rattle.jj_dag.specs.PackedLists.{lists_of}
use Rattle.jj_dag.proofs.TakingReady.{sorting_kept, sorting_taken, taking_starts, taking_popped, popped_index, popped_above, picked_push, read_is, edge_counts, edge_kept, edge_readied, left_is, taken_all, none_is}
use Rattle.std.proofs.lemmas.List.{drop_all, nil_from_length, get_or_default}
use Rattle.std.proofs.lemmas.Bool.{cases_eq}
use Rattle.std.proofs.lemmas.List.Elements.{Contains-get_or}
use Rattle.jj_dag.proofs.greatest_order.take_greatest_first.Goals as goal
use Rattle.jj_dag.proofs.greatest_order.take_greatest_first.Goals.{then-index-eq0+in_ok-make_ready, else-index-eq0, then-index-eq0-2+in_ok-make_ready-2, else-index-eq0-2}

pub loop-index-preserved : goal.loop-index-preserved
loop-index-preserved g c =
    let before = c.loop-index.invariant in
    elim c.if-index-eq0.branch [
      | then-index-eq0+in_ok-make_ready w ↦ let a = w.in_ok-make_ready.ensures in
          let zero_degree : get_or c.args.indegrees.items c.loop-index.index 0 ≡ 0 = read_is c.args.indegrees.items c.loop-index.index c.index.result.now (omega arith) c.index.ensures ∙ w.if-index-eq0.true in
          record {
            sorting = rw (w.pending-is, w.ready-is) (sorting_taken _ _ _ c.loop-index.index _ _ before.sorting (omega arith) zero_degree (c.requires.present c.loop-index.index (omega arith)) a.pending a.ready);
            heap_order = rw (w.ready-is) (a.heap_order before.heap_order);
          }
      | else-index-eq0 w ↦
          let is = read_is c.args.indegrees.items c.loop-index.index c.index.result.now (omega arith) c.index.ensures in
          let more : c.index.result.now ≢ 0 = w.if-index-eq0.false in
          record {
            sorting = rw (w.pending-is, w.ready-is) (sorting_kept _ _ _ c.loop-index.index before.sorting (omega arith) (omega arith));
            heap_order = rw (w.ready-is) before.heap_order;
          }
    ]

pub loop-node-init : goal.loop-node-init
loop-node-init g c =
    let before = c.loop-index.invariant in
    let all : c.loop-index.index ≡ length c.args.pending.items = omega arith in
    record {
      heap_order = before.heap_order;
      taking = (
        [],
        _,
        rw (c.new-order.ensures.items) refl,
        taking_starts _ _ _ c.args.indegrees.items (rw (← all) before.sorting) c.requires.counts
            c.requires.lists c.requires.indegrees,
      );
    }

pub list-target-items-requires : goal.list-target-items-requires
list-target-items-requires g c =
    let p = c.loop-node.invariant.taking in
    let index = popped_index g.T.Ord.cmp c.args.pending.items (lists_of c.args.targets.now) c.in-Some.node c.in-Some.index c.pop.new.self.data.items p.3 c.in-Some.ensures.permutation in
    omega arith

pub loop-target-init : goal.loop-target-init
loop-target-init g c =
    let p = c.loop-node.invariant.taking in
    let popped = c.in-Some.ensures.heap_order c.loop-node.invariant.heap_order in
    let index = popped_index g.T.Ord.cmp c.args.pending.items (lists_of c.args.targets.now) c.in-Some.node c.in-Some.index c.pop.new.self.data.items p.3 c.in-Some.ensures.permutation in
    record {
      heap_order = popped.0;
      list = c.list-target-items.ensures;
      taking = (
        p.0 ++ c.in-Some.index ∷ [],
        set p.1 c.in-Some.index [],
        picked_push g.T.Ord.cmp c.args.pending.items (lists_of c.args.targets.now) c.loop-node.order.items c.push.new.self.items p.0 c.in-Some.node c.in-Some.index p.2 index.1 c.in_ok-push.ensures.items,
        rw c.list-target-items.ensures (taking_popped g.T.Ord.cmp c.args.pending.items (lists_of c.args.targets.now) c.in-Some.node c.in-Some.index c.pop.new.self.data.items p.3 c.in-Some.ensures.permutation (popped_above g.T.Ord.cmp c.args.pending.items (lists_of c.args.targets.now) c.in-Some.node c.in-Some.index _ popped.1)),
      );
    }

-- the next target is in range, and its in-degree is not 0
next_target : (xs : List ℕ) (i n : ℕ) → i < length xs → ((b : ℕ) → Contains xs b → b < n) → get_or xs i 0 < n
next_target xs i n lt within = within (get_or xs i 0) (Contains-get_or xs i 0 lt)

pub index_mut-requires : goal.index_mut-requires
index_mut-requires g c =
    let before = c.loop-target.invariant in
    let n : length c.loop-target.indegrees.items ≡ length c.args.pending.items = before.taking.3.counters in
    let lt = next_target c.list-target-items.result.now c.loop-target.target-index (length c.args.pending.items) (omega arith) (λ b h. c.requires.within c.in-Some.index b (rw before.list at h)) in
    omega arith

pub overflow_sub-index_mut : goal.overflow_sub-index_mut
overflow_sub-index_mut g c =
    let before = c.loop-target.invariant in
    let n : length c.loop-target.indegrees.items ≡ length c.args.pending.items = before.taking.3.counters in
    let lt = next_target c.list-target-items.result.now c.loop-target.target-index (length c.args.pending.items) (omega arith) (λ b h. c.requires.within c.in-Some.index b (rw before.list at h)) in
    edge_counts g.T.Ord.cmp c.args.pending.items (lists_of c.args.targets.now) c.list-target-items.result.now c.loop-target.target-index c.index_mut.result.now before.taking.3 (omega arith) lt c.index_mut.ensures.value

pub index-requires-in-loop-target : goal.index-requires-in-loop-target
index-requires-in-loop-target g c =
    let before = c.loop-target.invariant in
    let n : length c.loop-target.indegrees.items ≡ length c.args.pending.items = before.taking.3.counters in
    let lt = next_target c.list-target-items.result.now c.loop-target.target-index (length c.args.pending.items) (omega arith) (λ b h. c.requires.within c.in-Some.index b (rw before.list at h)) in
    omega arith

pub make_ready-requires-then-index-eq0-2 : goal.make_ready-requires-then-index-eq0-2
make_ready-requires-then-index-eq0-2 g c =
    let before = c.loop-target.invariant in
    let n : length c.loop-target.pending.items ≡ length c.args.pending.items = before.taking.3.queued in
    let lt = next_target c.list-target-items.result.now c.loop-target.target-index (length c.args.pending.items) (omega arith) (λ b h. c.requires.within c.in-Some.index b (rw before.list at h)) in
    omega arith

pub loop-target-preserved : goal.loop-target-preserved
loop-target-preserved g c =
    let before = c.loop-target.invariant in
    let lt = next_target c.list-target-items.result.now c.loop-target.target-index (length c.args.pending.items) (omega arith) (λ b h. c.requires.within c.in-Some.index b (rw before.list at h)) in
    record {
      heap_order = elim c.if-index-eq0-2.branch [
        | then-index-eq0-2+in_ok-make_ready-2 w ↦ rw (w.ready-is) (w.in_ok-make_ready-2.ensures.heap_order before.heap_order)
        | else-index-eq0-2 w ↦ rw (w.ready-is) before.heap_order
      ];
      list = before.list;
      taking = (
        before.taking.0,
        before.taking.1,
        before.taking.2,
        elim c.if-index-eq0-2.branch [
          | then-index-eq0-2+in_ok-make_ready-2 w ↦
              let a = w.in_ok-make_ready-2.ensures in
              rw (w.pending-is, w.ready-is)
              (edge_readied g.T.Ord.cmp c.args.pending.items (lists_of c.args.targets.now) c.list-target-items.result.now c.loop-target.target-index c.index_mut.result.now c.index-in-loop-target.result.now _ _ before.taking.3 (omega arith) lt
              c.index_mut.ensures.value c.index-in-loop-target.ensures w.if-index-eq0-2.true (c.requires.present _ lt) a.pending a.ready)
          | else-index-eq0-2 w ↦
              rw (w.pending-is, w.ready-is)
              (edge_kept g.T.Ord.cmp c.args.pending.items (lists_of c.args.targets.now) c.list-target-items.result.now c.loop-target.target-index c.index_mut.result.now c.index-in-loop-target.result.now before.taking.3 (omega arith) lt
              c.index_mut.ensures.value c.index-in-loop-target.ensures w.if-index-eq0-2.false)
        ],
      );
    }

pub returns-then-is_some : goal.returns-then-is_some
returns-then-is_some g c =
    let p = c.loop-node.invariant.taking in
    let n : length c.loop-node.pending.items ≡ length c.args.pending.items = p.3.queued in
    let same : c.loop-left.pending.items ≡ c.loop-node.pending.items = c.loop-left.invariant.same in
    let lengths = ap length same in
    let within : c.loop-left.left < length c.loop-left.pending.items = omega arith in
    let none : c.loop-node.ready.data.len ≡ 0 = c.in_default.ensures.none in
    let ok = c.loop-node.ready.data.ok in
    let nothing : length c.loop-node.ready.data.items ≡ 0 = omega arith in
    let empty : heap_items c.loop-node.ready ≡ [] = nil_from_length _ nothing in
    let read : get_or c.loop-node.pending.items c.loop-left.left None ≡ c.swap_remove.result = ap (λ l. get_or l c.loop-left.left None) (sym same) ∙ get_or_default c.loop-left.pending.items c.loop-left.left None c.swap_remove.result within ∙ sym c.swap_remove.ensures.value in
    let seen : c.index-in-loop-left.result.now ≡ c.swap_remove.result = c.index-in-loop-left.ensures ∙ get_or_default c.loop-left.pending.items c.loop-left.left c.index-in-loop-left.result.now c.swap_remove.result within ∙ sym c.swap_remove.ensures.value in
    let some : IsSome c.index-in-loop-left.result.now = sym c.is_some.ensures ∙ c.if-is_some.true in
    (p.0, p.2, p.3.takes, left_is g.T.Ord.cmp c.args.pending.items (lists_of c.args.targets.now) empty p.3 c.loop-left.left c.swap_remove.result (omega arith) read (rw seen at some))

pub loop-left-preserved : goal.loop-left-preserved
loop-left-preserved g c = record {
  same = c.loop-left.invariant.same;
  gone = λ k lt. elim (cases_eq k c.loop-left.left) [
    | inl e ↦
        let n : length c.loop-left.pending.items ≡ length c.loop-node.pending.items = ap length c.loop-left.invariant.same in
        let within : c.loop-left.left < length c.loop-left.pending.items = omega arith in
        ap (λ j. get_or c.loop-left.pending.items j None) e ∙ get_or_default c.loop-left.pending.items c.loop-left.left None c.index-in-loop-left.result.now within ∙ sym c.index-in-loop-left.ensures
        ∙ none_is c.index-in-loop-left.result.now (sym c.is_some.ensures ∙ c.if-is_some.false)
    | inr ne ↦ c.loop-left.invariant.gone k (omega arith)
  ];
}

pub returns : goal.returns
returns g c =
    let p = c.loop-node.invariant.taking in
    let n : length c.loop-node.pending.items ≡ length c.args.pending.items = p.3.queued in
    let same : c.loop-left.pending.items ≡ c.loop-node.pending.items = c.loop-left.invariant.same in
    let lengths = ap length same in
    let none : c.loop-node.ready.data.len ≡ 0 = c.in_default.ensures.none in
    let ok = c.loop-node.ready.data.ok in
    let nothing : length c.loop-node.ready.data.items ≡ 0 = omega arith in
    let empty : heap_items c.loop-node.ready ≡ [] = nil_from_length _ nothing in
    (p.0, p.2, p.3.takes, taken_all g.T.Ord.cmp c.args.pending.items (lists_of c.args.targets.now) empty p.3 c.requires.present (λ k lt. rw (← same) (c.loop-left.invariant.gone k (omega arith))))

pub loop-index-init : goal.loop-index-init
loop-index-init g c = search rules

pub index-requires : goal.index-requires
index-requires g c = search rules

pub make_ready-requires : goal.make_ready-requires
make_ready-requires g c = search rules

pub loop-index-smaller : goal.loop-index-smaller
loop-index-smaller g c = search rules

pub loop-node-smaller : goal.loop-node-smaller
loop-node-smaller g c = search rules

pub loop-node-preserved : goal.loop-node-preserved
loop-node-preserved g c =
    let before = c.loop-target.invariant in
    let none : drop c.loop-target.target-index c.list-target-items.result.now ≡ [] = drop_all c.loop-target.target-index c.list-target-items.result.now (omega arith) in
    record { heap_order = before.heap_order; taking = (before.taking.0, before.taking.1, before.taking.2, rw none at before.taking.3) }

pub offset_bounds-target-items-target-index : goal.offset_bounds-target-items-target-index
offset_bounds-target-items-target-index g c = search rules

pub bounds-target-items-target-index : goal.bounds-target-items-target-index
bounds-target-items-target-index g c = search rules

pub loop-target-smaller : goal.loop-target-smaller
loop-target-smaller g c = search rules

pub loop-left-init : goal.loop-left-init
loop-left-init g c = search rules

pub index-requires-in-loop-left : goal.index-requires-in-loop-left
index-requires-in-loop-left g c = search rules

pub swap_remove-requires : goal.swap_remove-requires
swap_remove-requires g c = search rules

pub loop-left-smaller : goal.loop-left-smaller
loop-left-smaller g c = search rules
