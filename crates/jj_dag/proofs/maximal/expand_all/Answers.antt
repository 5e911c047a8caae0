use Rattle.std.proofs.Common.{arith, append-nil, ◌≡◌, ℕ, ◌≤◌, Bool, true, ◌∷◌, List, [], length, refl, sym, ◌∙◌, ap, subst}
use Rattle.std.specs.Bool.{MatchBool}
use Rattle.std.specs.List.{Contains}
use Rattle.std.proofs.lemmas.Result.{err_from_is_err_and}
use Rattle.jj_dag.specs.ClosureGraph.CallsLead.{none}
use Rattle.jj_dag.specs.ClosureGraph.MayReturn.{at_once}
use Rattle.jj_dag.proofs.ClosureGraphs.{implements_after, leads_on, may_return_later}
use Rattle.jj_dag.proofs.Errors.{node_weaker}
use Rattle.jj_dag.proofs.Heads.{Contains-map, holds_asked, holds_maximal, no_root_queued, one_queued, search_falls, started_holds, starts_reached, still_reached}
use Rattle.jj_dag.proofs.Meeting.{all_met, all_queued}
use Rattle.jj_dag.proofs.Plain.{neither}
use Rattle.jj_dag.proofs.Walking.{numbers}
use Rattle.jj_dag.proofs.maximal.expand_all.Goals as goal

pub loop-node-init : goal.loop-node-init
loop-node-init g c = record {
  can = c.requires.graph;
  calls = none;
  walking = λ walk xs implemented nodes among started. (implemented, starts_reached walk xs c.args.queue.now.items nodes among, λ stands. ([], started_holds walk nodes (started stands)));
}

pub loop-node-preserved : goal.loop-node-preserved
loop-node-preserved g c =
    let before = c.loop-node.invariant in
    let node = c.in-Some.node in
    let popped : c.loop-node.queue.items ≡ node ∷ c.pop_in_level.new.queue.items = c.in-Some.ensures.first in
    let did = c.in_ok-is_root.ensures.met in
    let meets = did.2 in
    let ys = meets.nodes in
    record {
      can = c.in_ok-is_root.ensures.graph;
      calls = leads_on before.calls did.1;
      walking = λ walk xs implemented nodes among started.
          let known = before.walking walk xs implemented nodes among started in
          let turn = implements_after walk g.ID.PartialEq.eq g.F.Fn g.N.FnMut _ known.0 did.1 in
          let reached = rw popped at known.1 in
          let listed : numbers walk ys ≡ walk.graph (walk.node node) = turn.1 ys (reached (walk.node node) (0, omega arith, refl)).0 meets.drained in (
            turn.0,
            still_reached walk (numbers walk xs) node c.pop_in_level.new.queue.items c.visit_neighbors.new.queue.items ys (all_queued meets.met) listed implemented.closed reached,
            λ stands.
                let search = known.2 stands in
                let held = rw popped at search.1 in
                let inner = all_met walk (numbers walk xs) search.0 c.loop-node.root_met (walk.node node) [] stands (record { apart = implemented.apart; ids_match = implemented.ids_match }) implemented.closed meets.met held
                (append-nil (numbers walk ys) ∙ listed) in (
                  inner.0,
                  holds_asked walk (numbers walk c.visit_neighbors.new.queue.items) _ (walk.node node) inner.1
                      (λ b h. inner.2 b (subst (λ (l : List ℕ). Contains l b) (sym listed) h))
                      (λ none.
                      let parts = neither c.loop-node.root_met c.in_ok-is_root.is_root none in
                      let some = subst (λ (b : Bool). MatchBool b (ys ≡ []) ((x : g.row.T.Denot) × Contains ys x)) parts.1 meets.none in
                      (parts.0, (walk.node some.0, subst (λ (l : List ℕ). Contains l (walk.node some.0)) listed (Contains-map walk.node ys some.0 some.1)))),
                ),
          );
    }

pub loop-node-smaller : goal.loop-node-smaller
loop-node-smaller g c =
    let popped : c.loop-node.queue.items ≡ c.in-Some.node ∷ c.pop_in_level.new.queue.items = c.in-Some.ensures.first in
    let small = c.len-count.ensures.small in
    let len = c.len-count.ensures.len in
    let room = c.visit_neighbors.new.queue.ok in
    let top = c.visit_neighbors.new.queue.small in
    search_falls (length (g.V.NodeSet.keys c.loop-node.visited)) (length (g.V.NodeSet.keys c.visit_neighbors.new.visited)) (length c.pop_in_level.new.queue.items) (length c.loop-node.queue.items)
    (length c.visit_neighbors.new.queue.items) (omega arith) (omega arith) (ap length popped) c.in_ok-is_root.ensures.balance c.in_ok-is_root.ensures.grows

pub returns-in_err-is_root : goal.returns-in_err-is_root
returns-in_err-is_root g c =
    let p = err_from_is_err_and c.from_residual.result c.from_residual.ensures.1 in
    rw (p.1, p.2) (record {
      found = tt;
      error = node_weaker c.in_err-is_root.field-0.0 _ _ (λ error did.
          let node = c.in-Some.node in
          let popped : c.loop-node.queue.items ≡ node ∷ c.pop_in_level.new.queue.items = c.in-Some.ensures.first in (
            node,
            (did.0, may_return_later c.loop-node.invariant.calls (at_once did.1), (_, did.2.1)),
            λ walk xs implemented nodes among started.
                let known = c.loop-node.invariant.walking walk xs implemented nodes among started in
                ((rw popped at known.1) (walk.node node) (0, omega arith, refl)).1,
          )) c.in_err-is_root.ensures.error;
    })

pub returns : goal.returns
returns g c = record {
  found =
      let short : length c.loop-node.queue.items ≤ 1 = c.in_default.ensures.few in
      let none : c.loop-node.root_met ≡ true → c.loop-node.queue.items ≡ [] = c.in_default.ensures.rootless in
      λ walk xs implemented nodes among started acyclic stands.
      let search = (c.loop-node.invariant.walking walk xs implemented nodes among started).2 stands in
      holds_maximal walk g.T.PartialEq.eq xs search.1 stands c.len-count-2.ensures.distinct
      (one_queued walk c.loop-node.queue.items short) (no_root_queued walk c.loop-node.queue.items c.loop-node.root_met none) acyclic;
  error = tt;
}
