-- A postorder of the ids as an order of the commits.
use Rattle.std.proofs.Common.{◌≡◌, ℕ, true, List, [], ◌∷◌, ◌++◌, ap, map, refl, sym, ◌∙◌, subst, ⊎_elim, reverse, eqb, is_some}
use Rattle.std.specs.List.{Contains, IsDistinct}
use denote.Ref.{Bor}
use Rattle.jj_dag.specs.Graph.{IsPostorder, IsAcyclicFrom, ReachedFrom, OnCycleFrom, Precedes}
use Rattle.jj_dag.proofs.Relabelled.{Contains-map, Contains-unmap}
use Rattle.jj_dag.proofs.Reaching.{Contains-postorder}
use Rattle.jj_dag.proofs.Collecting.{are_nodes}
use Rattle.jj_walks.proofs.DistinctLists.{map_turned}
use Rattle.jj_walks_tests.specs.declared.commits.Commit.{Commit}
use Rattle.jj_walks_tests.specs.Commits.{ids_of, commit_with, parent_graph, has_commit, IsParentsFirst, IsOnCycle}
use Rattle.jj_walks_tests.proofs.Numbering.{walk_of, walk_closed, starts_are_nodes, node, node_has, node_stands, numbers_had, found_edge}
use Rattle.jj_dag.proofs.Postorders.{from_reverse, Postorder-reached, Postorder-once, Postorder-before}
use Rattle.jj_dag.proofs.Plain.{nothing}

module _ (commits : List Commit) (once : IsDistinct eqb (ids_of commits)) where
  reached_are_nodes : (a : ℕ) → ReachedFrom (parent_graph commits) (ids_of commits) a → is_some (commit_with commits a) ≡ true
  reached_are_nodes = are_nodes {E = ℕ} (walk_of commits) (λ a. []) (ids_of commits) (walk_closed commits) (starts_are_nodes commits once)

  pub ordered : (order : List (Bor Commit)) → IsPostorder (parent_graph commits) (ids_of commits) (map (node commits) order) → IsAcyclicFrom (parent_graph commits) (ids_of commits)
      → IsParentsFirst commits (map (λ x. x.now) order)
  unfolding IsDistinct
  ordered order p acyclic =
      let g = parent_graph commits in
      let numbers = map (node commits) order in
      let turned : (a : ℕ) → ReachedFrom g (reverse (ids_of commits)) a → ReachedFrom g (ids_of commits) a = λ a r. (r.0, from_reverse (ids_of commits) r.0 r.1, r.2) in
      let reached : (b : ℕ) → Contains numbers b → ReachedFrom g (ids_of commits) b =
      λ b h. ⊎_elim (λ l. absurd (nothing b l)) (λ r. turned b r) (Postorder-reached g (reverse (ids_of commits)) [] numbers p b h) in
      let had : (c : Commit) → Contains (map (λ x. x.now) order) c → has_commit commits c ≡ true = λ c h.
      let x = Contains-unmap (λ y. y.now) order c h in
      subst (λ d. has_commit commits d ≡ true) x.2 (node_has commits x.0 (reached_are_nodes (node commits x.0) (reached (node commits x.0) (Contains-map (node commits) order x.0 x.1)))) in
      let are : numbers ≡ ids_of (map (λ x. x.now) order) = numbers_had commits order had in
      let stands : (c : Commit) → Contains commits c → Contains numbers c.id =
      λ c h. Contains-postorder g (ids_of commits) numbers p c.id (c.id, Contains-map (λ x. x.id) commits c h, (0, refl)) in
      record {
        among = had;
        all = λ c h. subst (λ l. Contains l c.id) are (stands c h);
        once = subst (λ l. IsDistinct eqb l) are (Postorder-once g (reverse (ids_of commits)) [] numbers (λ a r. acyclic a (turned a r)) p tt);
        before = λ c q h parent. subst (λ l. Precedes l q.id c.id) are (Postorder-before g (ids_of commits) numbers p c.id q.id (stands c h) (found_edge commits c q once h parent));
      }

  pub ordered_reversed : (order : List (Bor Commit)) → IsPostorder (parent_graph commits) (ids_of commits) (reverse (map (node commits) order)) → IsAcyclicFrom (parent_graph commits) (ids_of commits)
      → IsParentsFirst commits (reverse (map (λ x. x.now) order))
  ordered_reversed order p acyclic =
      subst (λ l. IsParentsFirst commits l) (map_turned (λ x. x.now) order)
      (ordered (reverse order) (subst (λ l. IsPostorder (parent_graph commits) (ids_of commits) l) (sym (map_turned (node commits) order)) p) acyclic)

  pub on_cycle : (x : Bor Commit) (id : ℕ) → id ≡ x.now.id → OnCycleFrom (parent_graph commits) (ids_of commits) (node commits x) → IsOnCycle commits id
  on_cycle x id e k = subst (λ n. IsOnCycle commits n) (sym (e ∙ node_stands commits x (reached_are_nodes (node commits x) k.0))) k
