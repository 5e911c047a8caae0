use Rattle.std.proofs.Common.{rules, of_calls, List, map, refl, subst, ⊎_elim}
use Rattle.std.proofs.lemmas.Iterator.Adapters.{YieldsList-from_vec}
use denote.Param.Always.{mut_total}
use Rattle.jj_dag.specs.Graph.{IsAcyclicFrom, AreMaximalElements, ReachedFrom}
use Rattle.jj_dag.proofs.Errors.{if_fails, if_ok}
use Rattle.jj_dag.proofs.ListNumbers.{list_of_number, list_of_number-number, number}
use Rattle.jj_dag.proofs.NodeGraphs.{maximal_nodes, no_cycle_up, reached_back}
use Rattle.jj_dag.proofs.Walkable.{walkable_by}
use Rattle.jj_walks.proofs.Callers.{number_eq, vec_drained}
use Rattle.jj_store_walks.proofs.Commits.{id_graph, implements_ids, may_read_ids, walk_of_ids}
use Rattle.jj_store_walks.proofs.heads.head_commits.Goals as goal

pub heads-requires-clause-graph : goal.heads-requires-clause-graph
heads-requires-clause-graph g c = walkable_by (search rules) (mut_total _ _ (λ s a. search rules)) (λ a r f h. (first_of (search rules, search (rules, of_calls, h)), search (rules, of_calls, h)))

pub returns-clause-heads : goal.returns-clause-heads
returns-clause-heads g c =
    let store = c.args.store.now in
    let ids = c.args.ids.items in
    if_ok c.heads.result c.heads.ensures.heads (λ found k parents complete acyclic.
    let starts = vec_drained c.args.ids k.starts (k.yielded.0, (k.yielded.1.0, k.yielded.1.1), k.yielded.2) in
    let holds = k.holds (walk_of_ids (g.B.Backend.may_fail store) (g.B.Backend.objects store) parents)
    (implements_ids (g.B.Backend.may_fail store) (g.B.Backend.objects store) _ _ (λ v it b. YieldsList-from_vec v.items (search (rules, b)) (search (rules, b))) _ _ _ _ (λ x i h. search (rules, h.says.met, h.shows))
    (λ a r f h. (search (rules, of_calls, h), search (rules, of_calls, h))) parents complete)
    (λ a h. refl) in
    maximal_nodes parents number list_of_number list_of_number-number ids found.keys
    (subst (λ (xs : List (List _)). IsAcyclicFrom (id_graph parents) (map number xs) → AreMaximalElements (id_graph parents) (map number xs) (map number found.keys)) starts
    (λ none. holds none (λ x y h. number_eq x y)) (no_cycle_up parents number list_of_number list_of_number-number ids acyclic)))

pub returns-clause-error : goal.returns-clause-error
returns-clause-error g c =
    let store = c.args.store.now in
    let ids = c.args.ids.items in
    if_fails c.heads.result c.heads.ensures.error (λ e. ⊎_elim (λ none. absurd none) (λ k.
    let starts = vec_drained c.args.ids k.reached.starts (k.reached.yielded.0, (k.reached.yielded.1.0, k.reached.yielded.1.1), k.reached.yielded.2) in
    record {
      id = k.node;
      reached = λ parents complete. reached_back parents number list_of_number list_of_number-number ids k.node
          (subst (λ (xs : List (List _)). ReachedFrom (id_graph parents) (map number xs) (number k.node)) starts
          (k.reached.holds (walk_of_ids (g.B.Backend.may_fail store) (g.B.Backend.objects store) parents)
          (implements_ids (g.B.Backend.may_fail store) (g.B.Backend.objects store) _ _ (λ v it b. YieldsList-from_vec v.items (search (rules, b)) (search (rules, b))) _ _ _ _ (λ x i h. search (rules, h.says.met, h.shows))
          (λ a r f h. (search (rules, of_calls, h), search (rules, of_calls, h))) parents complete)
          (λ a h. refl)));
      read = may_read_ids (g.B.Backend.may_fail store) (g.B.Backend.objects store) _ _ (λ a r f h. (search (rules, of_calls, h), search (rules, of_calls, h))) k.node e k.fails;
    }))
