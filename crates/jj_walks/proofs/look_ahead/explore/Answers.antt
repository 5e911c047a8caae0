use Rattle.std.proofs.Common.{rules, arith, ◌≡◌, ◌∷◌, [], refl, sym, ◌∙◌, ap, map, length, Some}
use Rattle.std.proofs.lemmas.List.{length-map, map_push}
use Rattle.std.proofs.lemmas.List.Sorted.{IsPermutation-append_right, IsPermutation-trans, length_permutation}
use Rattle.std.specs.BinaryHeap.{heap_items}
use Rattle.std.proofs.lemmas.Result.{err_from_is_err_and}
use Rattle.jj_dag.proofs.Collecting.{are_nodes, some_of, top_reached}
use Rattle.jj_dag.proofs.Errors.{node_weaker}
use Rattle.jj_dag.specs.Collecting.{index_in}
use Rattle.jj_dag.specs.Expanding.{whole}
use Rattle.jj_dag.proofs.Expanding.{fails_before, filled_more, implements-more, implements-none, ids_told, whole_listed}
use Rattle.jj_dag.proofs.ClosureGraphs.{returns_id}
use Rattle.jj_dag.proofs.Wrapped.{all_sound}
use Rattle.jj_walks.proofs.LookingAhead.{looked, looking_entered, looking_passed, looking_starts, some_edge, top_collecting}
use Rattle.jj_dag.proofs.Plain.{neither}
use Rattle.jj_dag.proofs.Starts.{of_collected}
use Rattle.jj_dag.proofs.TakingReady.{none_is}
use Rattle.jj_walks.proofs.look_ahead.explore.Goals as goal

pub loop-node-init : goal.loop-node-init
loop-node-init g c = record {
  graph = implements-none g.ID.PartialEq.eq g.F.Fn g.N.FnMut g.NI.IntoIterator g.NI.IntoIter.Iterator _ c.requires.graph;
  found = (
    record { visited = []; nodes = c.new-found.ensures.nodes; ids = ap length c.new-found.ensures.ids; indices = λ i k found. let none = rw c.requires.none_indexed at found in absurd cc },
    λ walk implemented nodes. looking_starts walk (whole walk) c.args.start.items (heap_items c.from-frontier.result) [] (map (λ v. v.items) c.new-found.result.neighbor_ids.items) _
        c.from-frontier.ensures.1 refl (ap (map (λ v. v.items)) c.new-found.ensures.ids) (λ i. rw c.requires.none_indexed refl),
  );
}

pub loop-node-smaller-then-contains_key : goal.loop-node-smaller-then-contains_key
loop-node-smaller-then-contains_key g c =
    let n : length (c.in-Some.node ∷ heap_items c.next_to_explore.new.frontier) ≡ length (heap_items c.loop-node.frontier) =
    length_permutation (heap_items c.loop-node.frontier) (c.in-Some.node ∷ heap_items c.next_to_explore.new.frontier) c.in-Some.ensures.taken in
    omega arith

pub loop-node-preserved-then-contains_key : goal.loop-node-preserved-then-contains_key
loop-node-preserved-then-contains_key g c =
    let before = c.loop-node.invariant in
    let node = c.in-Some.node in
    let rest = heap_items c.next_to_explore.new.frontier in
    let found = some_of (index_in g.ID.PartialEq.eq c.loop-node.index_of.entries c.in_ok-id.id) c.if-contains_key.ensures in
    record {
      graph = before.graph;
      found = of_collected before.found (λ from walk implemented nodes.
          let known = from walk implemented nodes in
          let is = are_nodes walk (whole walk) (map walk.node c.args.start.items) implemented.closed nodes _ (top_reached walk (whole walk) rest node (top_collecting walk (whole walk) rest node known c.in-Some.ensures.taken) refl) in
          looking_passed walk (whole walk) rest node c.in_ok-id.id known c.in-Some.ensures.taken is (implemented.ids_match node c.in_ok-id.id is (rw before.graph.id_fn at (returns_id g.F.Fn c.id_fn.ensures c.in_ok-id.was))) found.0 found.1);
    }

pub loop-node-preserved : goal.loop-node-preserved
loop-node-preserved g c =
    let before = c.loop-node.invariant in
    let node = c.in-Some.node in
    let id = c.in_ok-id.id in
    let rest = heap_items c.next_to_explore.new.frontier in
    let named = rw before.graph.id_fn at (returns_id g.F.Fn c.id_fn.ensures c.in_ok-id.was) in
    let below = c.in_ok-neighbors.neighbors.items in
    let missed = none_is (index_in g.ID.PartialEq.eq c.loop-node.index_of.entries id) (sym c.if-contains_key.ensures) in
    let more = filled_more g.ID.PartialEq.eq _ _ c.loop-node.found c.add_node.new.self node id c.in_ok-ids.ids before.found.0 c.in_ok-add_node.ensures.nodes c.in_ok-add_node.ensures.ids c.in_ok-add_node.ensures.indices in
    let graph = implements-more g.ID.PartialEq.eq g.F.Fn g.N.FnMut g.NI.IntoIterator g.NI.IntoIter.Iterator c.args.closures.now c.loop-node.closures c.neighbors.new.self before.graph c.neighbors.ensures.graph in
    let ids_ok = c.in_ok-ids.ids.ok in
    let count : c.in_ok-ids.ids.len ≡ length c.in_ok-ids.ids.items = omega arith in
    let queued = IsPermutation-trans _ _ _ (IsPermutation-append_right rest below (heap_items c.from.result) c.from.ensures.1) c.in_ok-append.ensures.permutation in
    record {
      graph = graph;
      found = of_collected more (λ visited walk implemented nodes.
          let known = before.found.1 walk implemented nodes in
          let is = are_nodes walk (whole walk) (map walk.node c.args.start.items) implemented.closed nodes _ (top_reached walk (whole walk) rest node (top_collecting walk (whole walk) rest node known c.in-Some.ensures.taken) refl) in
          let listed = c.in_ok-neighbors.ensures.listed walk (rw before.graph.id_fn (before.graph.implemented walk implemented)) is in
          let same_ids = ids_told walk _ (rw (← graph.id_fn) at implemented.ids_match) below c.in_ok-ids.ids.items (rw c.deref.ensures.value at c.in_ok-ids.ensures) (λ b h. implemented.closed (walk.node node) is b (rw listed at h)) in
          looking_entered walk (whole walk) g.ID.PartialEq.eq _ _ rest node id below _ _ c.in_ok-ids.ids.items _ (length c.loop-node.found.nodes.items)
          (λ a. all_sound _ (walk.graph a)) implemented.closed implemented.apart known c.in-Some.ensures.taken is (implemented.ids_match node id is named) missed
          (whole_listed walk (walk.node node) below listed) listed same_ids queued visited (ap (map (λ v. v.items)) c.in_ok-add_node.ensures.ids ∙ map_push (λ v. v.items) c.loop-node.found.neighbor_ids.items c.in_ok-ids.ids)
          (ap length before.found.0.nodes ∙ length-map before.found.0.visited (λ x. Some x)) c.in_ok-add_node.ensures.indices
          (λ f. let both = neither c.loop-node.root_met c.is_empty-root_met.result f in (both.0, some_edge walk.node walk.id c.in_ok-ids.ids.items below (walk.graph (walk.node node)) c.in_ok-ids.ids.len same_ids listed count (sym c.is_empty-root_met.ensures ∙ both.1))));
    }

pub returns-in_err-neighbors : goal.returns-in_err-neighbors
returns-in_err-neighbors g c =
    let p = err_from_is_err_and c.from_residual-in_err-neighbors.result c.from_residual-in_err-neighbors.ensures.1 in
    rw (p.1, p.2) (record {
      graph = implements-more g.ID.PartialEq.eq g.F.Fn g.N.FnMut g.NI.IntoIterator g.NI.IntoIter.Iterator c.args.closures.now c.loop-node.closures c.neighbors.new.self c.loop-node.invariant.graph c.neighbors.ensures.graph;
      explored = tt;
      failed = node_weaker c.in_err-neighbors.field-0.0 _ _ (λ error failure.
          let before = c.loop-node.invariant in
          let rest = heap_items c.next_to_explore.new.frontier in (
            c.in-Some.node,
            fails_before g.ID.PartialEq.eq g.F.Fn g.N.FnMut g.NI.IntoIterator g.NI.IntoIter.Iterator c.args.closures.now c.loop-node.closures before.graph c.in-Some.node error failure,
            λ walk implemented nodes. top_reached walk (whole walk) rest c.in-Some.node (top_collecting walk (whole walk) rest c.in-Some.node (before.found.1 walk implemented nodes) c.in-Some.ensures.taken) refl,
          )) c.in_err-neighbors.ensures.failed;
    })

pub returns-in_err-ids : goal.returns-in_err-ids
returns-in_err-ids g c = record {
  graph = implements-more g.ID.PartialEq.eq g.F.Fn g.N.FnMut g.NI.IntoIterator g.NI.IntoIter.Iterator c.args.closures.now c.loop-node.closures c.neighbors.new.self c.loop-node.invariant.graph c.neighbors.ensures.graph;
  explored = search rules;
  failed = search rules;
}

pub returns-in_err-add_node : goal.returns-in_err-add_node
returns-in_err-add_node g c = record {
  graph = implements-more g.ID.PartialEq.eq g.F.Fn g.N.FnMut g.NI.IntoIterator g.NI.IntoIter.Iterator c.args.closures.now c.loop-node.closures c.neighbors.new.self c.loop-node.invariant.graph c.neighbors.ensures.graph;
  explored = search rules;
  failed = search rules;
}

pub returns-in_err-append : goal.returns-in_err-append
returns-in_err-append g c = record {
  graph = implements-more g.ID.PartialEq.eq g.F.Fn g.N.FnMut g.NI.IntoIterator g.NI.IntoIter.Iterator c.args.closures.now c.loop-node.closures c.neighbors.new.self c.loop-node.invariant.graph c.neighbors.ensures.graph;
  explored = search rules;
  failed = search rules;
}

pub returns : goal.returns
returns g c = record {
  graph = c.loop-node.invariant.graph;
  failed = tt;
  explored =
      let p = c.loop-node.invariant.found in
      let left : c.into_vec.result.items ≡ heap_items c.loop-node.frontier = ap (λ v. v.items) c.into_vec.ensures.value ∙ c.in_default.ensures.same in (
        p.0,
        λ none.
            let stored : length c.loop-node.found.nodes.items ≡ 0 = ap length p.0.nodes ∙ length-map p.0.visited (λ x. Some x) ∙ ap length none in
            let ok = c.loop-node.found.nodes.ok in
            let size : c.len.result ≡ 0 = omega arith in
            left ∙ c.in_default.ensures.begun size,
        rw left c.in_default.ensures.few,
        λ walk implemented nodes. looked walk (whole walk) c.into_vec.result.items (p.1 walk implemented nodes) left c.in_default.ensures.rootless,
      );
}
