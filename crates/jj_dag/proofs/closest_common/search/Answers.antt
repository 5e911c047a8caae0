use Rattle.std.proofs.Common.{rules, arith, append-nil, ◌≡◌, ℕ, Bool, ◌++◌, ◌∷◌, List, [], map, length, refl, sym, ◌∙◌, subst}
use Rattle.std.specs.BinaryHeap.{heap_items, heap_len}
use Rattle.std.specs.Bool.{MatchBool}
use Rattle.std.specs.List.{Contains}
use Rattle.std.specs.List.Sorted.{IsPermutation}
use Rattle.std.proofs.lemmas.List.{nil_from_length}
use Rattle.std.proofs.lemmas.Bool.{and_parts}
use Rattle.std.proofs.lemmas.Result.{err_from_is_err_and}
use Rattle.jj_dag.specs.CommonSearch.{sides_of_sets}
use Rattle.jj_dag.specs.ClosureGraph.CallsLead.{none}
use Rattle.jj_dag.specs.NodeStates.{state_at}
use Rattle.jj_dag.specs.ClosureGraph.MayReturn.{at_once}
use Rattle.jj_dag.proofs.ClosestCommon.{asks, closest_at_end, ends, ends_early, hands_over, ids_more, insert_new, new_id, started_holds, was_reached}
use Rattle.jj_dag.proofs.ClosureGraphs.{implements_after, leads_on, returns_id, may_return_later}
use Rattle.jj_dag.proofs.Errors.{node_weaker}
use Rattle.jj_dag.proofs.Heads.{Contains-map}
use Rattle.jj_dag.proofs.Relaxing.{all_handed}
use Rattle.jj_dag.proofs.closest_common.search.Goals as goal

pub loop-node-init : goal.loop-node-init
loop-node-init g c = record {
  can = c.requires.graph;
  calls = none;
  small = c.requires.small;
  walking = λ walk set1 set2 implemented first second start. (
    implemented,
    (sides_of_sets set1 set2, started_holds walk set1 set2 (heap_items c.args.pending.now) c.args.common.now.entries (state_at g.ID.PartialEq.eq (g.M.NodeMap.entries c.args.known.now)) c.requires.none start),
  );
}

pub loop-node-preserved : goal.loop-node-preserved
loop-node-preserved g c =
    let before = c.loop-node.invariant in
    let node = c.in-Some.node in
    let id = c.in_ok-id.id in
    let popped : IsPermutation (heap_items c.loop-node.pending) (node ∷ heap_items c.pop.new.self) = c.in-Some.ensures.permutation in
    let did = c.in_ok-is_root.ensures.states in
    let marked = did.2 in
    let nodes = marked.nodes in
    record {
      can = c.relax_neighbors.ensures.graph;
      calls = leads_on before.calls did.1;
      small = c.in_ok-is_root.ensures.small (omega (arith, c.take_queued-sides.ensures.side_count, before.small));
      walking = λ walk set1 set2 implemented first second start.
          let known = before.walking walk set1 set2 implemented first second start in
          let held = known.1.1 in
          let at = asks walk g.ID.PartialEq.eq (state_at g.ID.PartialEq.eq (g.M.NodeMap.entries c.take_queued-sides.new.known)) node id c.take_queued-sides.result implemented.closed implemented.apart first second held popped
          (λ here. implemented.ids_match node id here (returns_id g.F.Fn c.id_fn.ensures c.in_ok-id.was)) c.take_queued-sides.ensures.sides c.take_queued-sides.ensures.known in
          let turn = implements_after walk g.ID.PartialEq.eq g.F.Fn g.N.FnMut _ known.0 did.1 in
          let listed : map walk.node nodes ≡ walk.graph (walk.node node) = turn.1 nodes at.0 marked.drained in
          let inner = all_handed walk set1 set2 known.1.0 (walk.node node) c.take_queued-sides.result c.loop-node.common.entries c.loop-node.root_met [] implemented.apart implemented.ids_match implemented.closed
          (rw c.propagated-above.ensures at marked.states) at.0 at.2 (append-nil (map walk.node nodes) ∙ listed) in (
            turn.0,
            (
              inner.0,
              hands_over walk _ node id c.in_ok-is_root.is_root inner.1 at.1 c.in_ok-keep_common.ensures
                  (insert_new g.ID.PartialEq.eq c.loop-node.common.entries id node (new_id walk g.ID.PartialEq.eq node id implemented.closed implemented.apart first inner.1 at.0 at.1))
                  (λ b h. subst (λ (l : List ℕ). Contains l b) (sym listed) h)
                  (λ found.
                  let some = subst (λ (b : Bool). MatchBool b (nodes ≡ []) ((x : g.row.T.Denot) × Contains nodes x)) found marked.none in
                  (walk.node some.0, subst (λ (l : List ℕ). Contains l (walk.node some.0)) listed (Contains-map walk.node nodes some.0 some.1))),
            ),
          );
    }

pub returns-in_err-is_root : goal.returns-in_err-is_root
returns-in_err-is_root g c =
    let p = err_from_is_err_and c.from_residual-in_err-is_root.result c.from_residual-in_err-is_root.ensures.1 in
    rw (p.1, p.2) (record {
      closest = tt;
      error = node_weaker c.in_err-is_root.field-0.0 _ _ (λ error called.
          let node = c.in-Some.node in
          let popped : IsPermutation (heap_items c.loop-node.pending) (node ∷ heap_items c.pop.new.self) = c.in-Some.ensures.permutation in (
            node,
            (_, may_return_later c.loop-node.invariant.calls (at_once called), refl),
            λ walk set1 set2 implemented first second start.
                let known = c.loop-node.invariant.walking walk set1 set2 implemented first second start in
                (was_reached walk (heap_items c.pop.new.self) node implemented.closed first second known.1.1 popped).0,
          )) c.in_err-is_root.ensures.error;
    })

pub returns-then-not-root_met : goal.returns-then-not-root_met
returns-then-not-root_met g c = record {
  closest =
      let node = c.in-Some.node in
      let id = c.in_ok-id.id in
      let popped : IsPermutation (heap_items c.loop-node.pending) (node ∷ heap_items c.pop.new.self) = c.in-Some.ensures.permutation in
      let ok = c.pop.new.self.data.ok in
      let left : heap_len c.pop.new.self ≡ 0 = search rules in
      let nothing : length c.pop.new.self.data.items ≡ 0 = omega (arith, ok, left) in
      let empty : heap_items c.pop.new.self ≡ [] = nil_from_length _ nothing in
      λ walk set1 set2 implemented first second start acyclic.
      let known = c.loop-node.invariant.walking walk set1 set2 implemented first second start in
      let held = known.1.1 in
      let at = asks walk g.ID.PartialEq.eq (state_at g.ID.PartialEq.eq (g.M.NodeMap.entries c.take_queued-sides.new.known)) node id c.take_queued-sides.result implemented.closed implemented.apart first second held popped
      (λ here. implemented.ids_match node id here (returns_id g.F.Fn c.id_fn.ensures c.in_ok-id.was)) c.take_queued-sides.ensures.sides c.take_queued-sides.ensures.known in
      let end = ends_early walk node id at.2 empty (and_parts _ _ (sym c.is_common.ensures ∙ c.if-is_common.true)) c.if-not-root_met.true in
      let more : c.insert.new.self.entries ≡ c.loop-node.common.entries ++ (id, node) ∷ [] =
      c.in_ok-insert.ensures.entries ∙ insert_new g.ID.PartialEq.eq c.loop-node.common.entries id node (new_id walk g.ID.PartialEq.eq node id implemented.closed implemented.apart first at.2 at.0 at.1) in
      rw more (closest_at_end walk (walk.node node ∷ []) (map (λ entry. walk.node entry.1) c.loop-node.common.entries) (c.loop-node.common.entries ++ (id, node) ∷ []) end at.2.states
      (ids_more walk c.loop-node.common.entries node id held.ids at.1) implemented.closed first acyclic);
  error = tt;
}

pub returns : goal.returns
returns g c = record {
  closest =
      let left : c.loop-node.pending.data.len ≡ 0 = c.in_default.ensures.none in
      let ok = c.loop-node.pending.data.ok in
      let nothing : length c.loop-node.pending.data.items ≡ 0 = omega arith in
      let empty : heap_items c.loop-node.pending ≡ [] = nil_from_length _ nothing in
      λ walk set1 set2 implemented first second start acyclic.
      let known = c.loop-node.invariant.walking walk set1 set2 implemented first second start in
      let held = known.1.1 in
      closest_at_end walk [] (map (λ entry. walk.node entry.1) c.loop-node.common.entries) c.loop-node.common.entries (ends walk held empty) held.states held.ids implemented.closed first acyclic;
  error = tt;
}
