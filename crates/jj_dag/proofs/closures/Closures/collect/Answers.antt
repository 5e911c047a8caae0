use Rattle.std.proofs.Common.{rules, arith, ◌≡◌, [], refl, sym, ◌∙◌, ap, map, length, Some, is_some}
use Rattle.std.proofs.lemmas.Grind.{common_steps}
use Rattle.std.proofs.lemmas.List.{length-map, map_push}
use Rattle.std.proofs.lemmas.Result.{err_from_is_err_and}
use Rattle.jj_dag.proofs.Collecting.{are_nodes, collecting_entered, collecting_passed, collecting_starts, some_of, top_reached}
use Rattle.jj_dag.proofs.Errors.{node_weaker}
use Rattle.jj_dag.proofs.Expanding.{fails_before, filled_more, implements-more, implements-none, ids_told, whole_listed}
use Rattle.jj_dag.specs.Collecting.{index_in}
use Rattle.jj_dag.specs.Expanding.{whole}
use Rattle.jj_dag.proofs.ClosureGraphs.{returns_id}
use Rattle.jj_dag.proofs.Wrapped.{all_sound}
use Rattle.jj_dag.proofs.Starts.{of_collected}
use Rattle.jj_dag.proofs.TakingReady.{none_is}
use Rattle.jj_dag.proofs.Walking.{left-yielded}
use Rattle.jj_dag.proofs.closures.Closures.collect.Goals as goal

pub loop-node-init : goal.loop-node-init
loop-node-init g c = record {
  graph = implements-none g.ID.PartialEq.eq g.F.Fn g.N.FnMut g.NI.IntoIterator g.NI.IntoIter.Iterator _ c.requires.graph;
  found = (
    record { visited = []; nodes = c.new-found.ensures.nodes; ids = ap length c.new-found.ensures.ids; indices = λ i k found. let none = rw c.requires.none_indexed at found in absurd cc },
    λ walk implemented nodes. collecting_starts walk (whole walk) c.args.start.items c.args.start.items [] (map (λ v. v.items) c.new-found.result.neighbor_ids.items) _ refl refl
        (ap (map (λ v. v.items)) c.new-found.ensures.ids) (λ i. rw c.requires.none_indexed refl),
  );
}

pub loop-node-preserved-then-is_some : goal.loop-node-preserved-then-is_some
loop-node-preserved-then-is_some g c =
    let before = c.loop-node.invariant in
    let node = c.in-Some.node in
    let found = some_of (index_in g.ID.PartialEq.eq (g.M.NodeMap.entries c.loop-node.index_of) c.in_ok-id.id) (c.if-is_some.ensures ∙ ap is_some c.get.ensures) in
    record {
      graph = before.graph;
      found = of_collected before.found (λ from walk implemented nodes.
          let known = from walk implemented nodes in
          let is = are_nodes walk (whole walk) (map walk.node c.args.start.items) implemented.closed nodes _ (top_reached walk (whole walk) c.pop.new.self.items node known c.in-Some.ensures.items) in
          collecting_passed walk (whole walk) c.pop.new.self.items node c.in_ok-id.id known c.in-Some.ensures.items is (implemented.ids_match node c.in_ok-id.id is (rw before.graph.id_fn at (returns_id g.F.Fn c.id_fn.ensures c.in_ok-id.was))) found.0 found.1);
    }

pub loop-node-preserved : goal.loop-node-preserved
loop-node-preserved g c =
    let before = c.loop-node.invariant in
    let node = c.in-Some.node in
    let id = c.in_ok-id.id in
    let told = rw before.graph.id_fn at (returns_id g.F.Fn c.id_fn.ensures c.in_ok-id.was) in
    let below = c.in_ok-neighbors.neighbors.items in
    let missed = none_is (index_in g.ID.PartialEq.eq (g.M.NodeMap.entries c.loop-node.index_of) id) (sym (c.if-is_some.ensures ∙ ap is_some c.get.ensures)) in
    let more = filled_more g.ID.PartialEq.eq _ _ c.loop-node.found c.add_node.new.self node id c.in_ok-ids.ids before.found.0 c.in_ok-add_node.ensures.nodes c.in_ok-add_node.ensures.ids c.in_ok-add_node.ensures.indices in
    let graph = implements-more g.ID.PartialEq.eq g.F.Fn g.N.FnMut g.NI.IntoIterator g.NI.IntoIter.Iterator c.args.self.now c.loop-node.self c.neighbors.new.self before.graph c.neighbors.ensures.graph in
    record {
      graph = graph;
      found = of_collected more (λ visited walk implemented nodes.
          let known = before.found.1 walk implemented nodes in
          let is = are_nodes walk (whole walk) (map walk.node c.args.start.items) implemented.closed nodes _ (top_reached walk (whole walk) c.pop.new.self.items node known c.in-Some.ensures.items) in
          let listed = c.in_ok-neighbors.ensures.listed walk (rw before.graph.id_fn (before.graph.implemented walk implemented)) is in
          let same_ids = ids_told walk _ (rw (← graph.id_fn) at implemented.ids_match) below c.in_ok-ids.ids.items (rw c.deref.ensures.value at c.in_ok-ids.ensures) (λ b h. implemented.closed (walk.node node) is b (rw listed at h)) in
          collecting_entered walk (whole walk) g.ID.PartialEq.eq _ c.pop.new.self.items node id below _ _ c.in_ok-ids.ids.items _ (length c.loop-node.found.nodes.items)
          (λ a. all_sound _ (walk.graph a)) implemented.closed implemented.apart known c.in-Some.ensures.items is (implemented.ids_match node id is told) missed
          (whole_listed walk (walk.node node) below listed) same_ids c.in_ok-append.ensures.items visited (ap (map (λ v. v.items)) c.in_ok-add_node.ensures.ids ∙ map_push (λ v. v.items) c.loop-node.found.neighbor_ids.items c.in_ok-ids.ids)
          (ap length before.found.0.nodes ∙ length-map before.found.0.visited (λ x. Some x)) c.in_ok-add_node.ensures.indices);
    }

pub loop-node-smaller : goal.loop-node-smaller
loop-node-smaller g c =
    let r = c.loop-node.found.nodes.ok in
    let v = c.append.new.self.ok in
    left-yielded c.loop-node.stack.items c.append.new.self.items c.loop-node.found.nodes.items c.add_node.new.self.nodes.items (Some c.in-Some.node)
    c.loop-node.found.nodes.cap c.append.new.self.cap c.in_ok-add_node.ensures.nodes (omega arith) c.loop-node.found.nodes.small (omega arith) c.append.new.self.small

pub returns-in_err-neighbors : goal.returns-in_err-neighbors
returns-in_err-neighbors g c =
    let p = err_from_is_err_and c.from_residual-in_err-neighbors.result c.from_residual-in_err-neighbors.ensures.1 in
    rw (p.1, p.2) (record {
      collected = tt;
      failed = node_weaker c.in_err-neighbors.field-0.0 _ _ (λ error failure.
          let before = c.loop-node.invariant in (
            c.in-Some.node,
            fails_before g.ID.PartialEq.eq g.F.Fn g.N.FnMut g.NI.IntoIterator g.NI.IntoIter.Iterator c.args.self.now c.loop-node.self before.graph c.in-Some.node error failure,
            λ walk implemented nodes. top_reached walk (whole walk) c.pop.new.self.items c.in-Some.node (before.found.1 walk implemented nodes) c.in-Some.ensures.items,
          )) c.in_err-neighbors.ensures.failed;
    })

pub returns : goal.returns
returns g c =
    let p = c.loop-node.invariant.found in
    let empty : c.loop-node.stack.items ≡ [] = first_of (search rules, grind (arith, common_steps)) in
    record { collected = (p.0, λ walk implemented nodes. rw empty at (p.1 walk implemented nodes)); failed = tt }
