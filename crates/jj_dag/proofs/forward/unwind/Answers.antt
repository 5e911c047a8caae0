use Rattle.std.proofs.Common.{rules, length, append-nil, ◌≡◌, true, false, ◌++◌, ◌∷◌, [], map, ap, arith}
use Rattle.std.proofs.lemmas.Grind.{common_steps}
use Rattle.std.proofs.lemmas.List.{length_push}
use Rattle.std.proofs.lemmas.Result.{err_from_is_err_and}
use Rattle.jj_dag.specs.ClosureGraph.CallsLead.{none}
use Rattle.jj_dag.specs.ClosureGraph.MayReturn.{at_once}
use Rattle.jj_dag.proofs.Calling.{cycle_weaker, failed_weaker}
use Rattle.jj_dag.proofs.ClosureGraphs.{implements_after, leads_on, returns_id, may_return_later}
use Rattle.jj_dag.proofs.Reaching.{IsAcyclicFrom-from_postorder}
use Rattle.jj_dag.proofs.Unwinding.{unwinding_starts, unwinding_passed, unwinding_finished, unwinding_entered, unwinding_cycle, top_is_node, here_reached, from_top-push, from_top-neighbors}
use Rattle.jj_dag.proofs.Unwinding.Unwinds.{ended}
use Rattle.jj_dag.proofs.Walking.{numbers, numbers-push}
use Rattle.jj_dag.proofs.forward.unwind.Goals as goal

pub loop-node-init : goal.loop-node-init
loop-node-init g c =
    let visiting : g.V.NodeSet.keys c.args.visiting.now ≡ [] = c.requires.none_visiting in
    let emitted : g.V.NodeSet.keys c.args.emitted.now ≡ [] = c.requires.none_emitted in
    record {
      can = c.requires.graph;
      calls = none;
      walking = λ xs queued walk implemented nodes. (
        implemented,
        rw (queued, from_top-neighbors walk [] xs, c.new-order.ensures.items, append-nil) (unwinding_starts walk (numbers walk xs) nodes (λ i. rw visiting) (λ i. rw emitted)),
      );
    }

pub loop-node-preserved-then-contains : goal.loop-node-preserved-then-contains
loop-node-preserved-then-contains g c =
    let before = c.loop-node.invariant in
    let node = c.in-Some.node in
    let id = c.in_ok-id.id in
    let e : c.loop-node.stack.items ≡ c.pop.new.self.items ++ (node, c.in-Some.neighbors_visited) ∷ [] = c.in-Some.ensures.items in
    record {
      can = before.can;
      calls = before.calls;
      walking = λ xs queued walk implemented nodes.
          let known = before.walking xs queued walk implemented nodes in
          let top = rw (e, from_top-push walk) at known.1 in (
            known.0,
            unwinding_passed walk (walk.node node) c.in-Some.neighbors_visited id top
                (implemented.ids_match node id (top_is_node walk (walk.node node) c.in-Some.neighbors_visited top) (returns_id g.F.Fn c.id_fn.ensures c.in_ok-id.was)) c.if-contains.ensures,
          );
    }

pub loop-node-preserved-then-neighbors_visited : goal.loop-node-preserved-then-neighbors_visited
loop-node-preserved-then-neighbors_visited g c =
    let before = c.loop-node.invariant in
    let node = c.in-Some.node in
    let id = c.in_ok-id.id in
    let e : c.loop-node.stack.items ≡ c.pop.new.self.items ++ (node, c.in-Some.neighbors_visited) ∷ [] = c.in-Some.ensures.items in
    let flag : c.in-Some.neighbors_visited ≡ true = c.if-neighbors_visited.true in
    let more : c.finish.new.order.items ≡ c.loop-node.order.items ++ node ∷ [] = c.in_ok-finish.ensures.order in
    record {
      can = before.can;
      calls = before.calls;
      walking = λ xs queued walk implemented nodes.
          let known = before.walking xs queued walk implemented nodes in
          let top = rw (e, from_top-push walk, flag) at known.1 in (
            known.0,
            rw (more, numbers-push walk) (unwinding_finished walk g.ID.PartialEq.eq _ _ (walk.node node) id implemented.apart top
                (implemented.ids_match node id (top_is_node walk (walk.node node) true top) (returns_id g.F.Fn c.id_fn.ensures c.in_ok-id.was)) c.in_ok-finish.ensures.visiting c.in_ok-finish.ensures.emitted),
          );
    }

pub loop-node-preserved : goal.loop-node-preserved
loop-node-preserved g c =
    let before = c.loop-node.invariant in
    let node = c.in-Some.node in
    let id = c.in_ok-id.id in
    let e : c.loop-node.stack.items ≡ c.pop.new.self.items ++ (node, c.in-Some.neighbors_visited) ∷ [] = c.in-Some.ensures.items in
    let flag : c.in-Some.neighbors_visited ≡ false = c.if-neighbors_visited.false in
    let did = c.in_ok-enter.ensures.neighbors in
    let ys = did.1 in
    let above : c.enter.new.stack.items ≡ (c.pop.new.self.items ++ (node, true) ∷ []) ++ map (λ y. (y, false)) ys = did.4 in
    record {
      can = record { id_fn = before.can.id_fn; neighbors_fn = c.in_ok-enter.ensures.neighbors_fn; lists = c.in_ok-enter.ensures.lists };
      calls = leads_on before.calls did.2;
      walking = λ xs queued walk implemented nodes.
          let known = before.walking xs queued walk implemented nodes in
          let turn = implements_after walk g.ID.PartialEq.eq g.F.Fn g.N.FnMut _ known.0 did.2 in
          let top = rw (e, from_top-push walk, flag) at known.1 in
          let here = top_is_node walk (walk.node node) false top in
          let listed : numbers walk ys ≡ walk.graph (walk.node node) = turn.1 ys here did.3 in (
            turn.0,
            rw (above, from_top-neighbors walk, from_top-push walk, listed)
                (unwinding_entered walk g.ID.PartialEq.eq _ (walk.node node) id implemented.closed implemented.apart top
                (implemented.ids_match node id here (returns_id g.F.Fn c.id_fn.ensures c.in_ok-id.was)) c.if-contains.ensures c.in_ok-enter.ensures.first c.in_ok-enter.ensures.visiting),
          );
    }

pub returns-in_err-enter : goal.returns-in_err-enter
returns-in_err-enter g c =
    let before = c.loop-node.invariant in
    let node = c.in-Some.node in
    let id = c.in_ok-id.id in
    let e : c.loop-node.stack.items ≡ c.pop.new.self.items ++ (node, c.in-Some.neighbors_visited) ∷ [] = c.in-Some.ensures.items in
    let flag : c.in-Some.neighbors_visited ≡ false = c.if-neighbors_visited.false in
    let p = err_from_is_err_and c.from_residual-in_err-enter.result c.from_residual-in_err-enter.ensures.1 in
    rw (p.1, p.2) (record {
      order = tt;
      failed = failed_weaker c.in_err-enter.field-0.0 _ _ (λ error did. (
        node,
        (did.0, may_return_later before.calls (at_once did.1), did.2),
        λ xs queued walk implemented nodes.
            let top = rw (e, from_top-push walk, flag) at (before.walking xs queued walk implemented nodes).1 in here_reached walk top,
      )) c.in_err-enter.ensures.failed;
      cycle = cycle_weaker c.in_err-enter.field-0.0 _ _ (λ x again. λ xs queued walk implemented nodes.
          let top = rw (e, from_top-push walk, flag) at (before.walking xs queued walk implemented nodes).1 in
          rw again.0 (unwinding_cycle walk (walk.node node) id top (implemented.ids_match node id (top_is_node walk (walk.node node) false top) (returns_id g.F.Fn c.id_fn.ensures c.in_ok-id.was)) again.1)) c.in_err-enter.ensures.cycle;
    })

pub returns : goal.returns
returns g c = record {
  order =
      let empty : c.loop-node.stack.items ≡ [] = first_of (search rules, grind (arith, common_steps)) in
      λ xs queued walk implemented nodes.
      let known = c.loop-node.invariant.walking xs queued walk implemented nodes in
      let whole = (rw empty at known.1).rest (numbers walk c.loop-node.order.items) ended in
      record {
        postorder = whole;
        no_cycle = IsAcyclicFrom-from_postorder walk.graph (numbers walk xs) (numbers walk c.loop-node.order.items) whole;
      };
  failed = tt;
  cycle = tt;
}

pub id_fn-requires : goal.id_fn-requires
id_fn-requires g c = search rules

pub enter-requires-clause-neighbors_fn : goal.enter-requires-clause-neighbors_fn
enter-requires-clause-neighbors_fn g c = c.loop-node.invariant.can.neighbors_fn

pub enter-requires-clause-lists : goal.enter-requires-clause-lists
enter-requires-clause-lists g c = c.loop-node.invariant.can.lists

pub enter-requires-clause-clones : goal.enter-requires-clause-clones
enter-requires-clause-clones g c = c.requires.clones

pub loop-node-smaller-then-contains : goal.loop-node-smaller-then-contains
loop-node-smaller-then-contains g c = omega (arith, ap length c.in-Some.ensures.items, length_push c.pop.new.self.items (c.in-Some.node, c.in-Some.neighbors_visited))

pub loop-node-smaller-then-neighbors_visited : goal.loop-node-smaller-then-neighbors_visited
loop-node-smaller-then-neighbors_visited g c =
    omega (
      arith,
      ap length c.in-Some.ensures.items,
      length_push c.pop.new.self.items (c.in-Some.node, c.in-Some.neighbors_visited),
      ap length c.in_ok-finish.ensures.order,
      length_push c.loop-node.order.items c.in-Some.node,
      c.in_ok-finish.ensures.count,
    )

pub loop-node-smaller : goal.loop-node-smaller
loop-node-smaller g c = search rules
