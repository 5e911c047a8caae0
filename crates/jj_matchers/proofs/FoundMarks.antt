-- `files_of` contains exactly the marks below the root that are accepted, in path order.
use Rattle.std.proofs.Common.{◌≡◌, ◌≢◌, ◌<◌, ℕ, zero, suc, Bool, true, false, ◌&&◌, cond, List, [], ◌∷◌, length, map, filter, Contains, Option, Some, None, option_map, unwrap_or, is_lt, get_or, refl, ap, subst, sym, ◌∙◌, arith, true≢false}
use Rattle.std.specs.List.{AllByRecursion}
use Rattle.std.specs.List.Sorted.{IsStrictlySortedBy}
use Rattle.std.specs.declared.cmp.Ordering.TheVariants.{Less, Equal}
use Rattle.std.proofs.lemmas.Bool.{and_parts}
use Rattle.std.proofs.lemmas.Option.{none-some}
use Rattle.jj_paths.specs.Paths.{Path, path_cmp}
use Rattle.jj_paths.specs.Tree.{Tree, get}
use Rattle.jj_paths.specs.Nodes.{NodeAt, node_at, nodes_under, all_nodes}
use Rattle.jj_paths.proofs.ListedNodes.{lists_nodes}
use Rattle.jj_paths.proofs.ListedOrder.{lists_in_order}
use Rattle.jj_matchers.specs.Laws.{FindsMarks, FindsInOrder}
use Rattle.jj_matchers.specs.Marks.{IsMarkedTree}
use Rattle.jj_matchers.specs.Walk.{files_of, is_file, paths_where}

equal≢less : Equal ≡ Less → ⊥
equal≢less h = true≢false (sym (ap is_lt h))

-- 1. Nodes that satisfy a predicate.

module _ {V : Type 0} (test : NodeAt V → Bool) where
  Contains-node : (node : NodeAt V) (nodes : List (NodeAt V)) → Contains (node ∷ nodes) node
  Contains-node node nodes = (0, omega arith, refl)

  Contains-rest : (node other : NodeAt V) (nodes : List (NodeAt V)) → Contains nodes other → Contains (node ∷ nodes) other
  Contains-rest node other nodes h = (suc h.0, omega (arith, h.1), h.2)

  -- a path is on the filtered list if and only if it is that of a node that satisfies the predicate
  abbrev Passing : List (NodeAt V) → Path → Type 0
  Passing nodes path = (node : NodeAt V) × Contains nodes node × (node.path ≡ path) × (test node ≡ true)

  later : (node : NodeAt V) (nodes : List (NodeAt V)) (path : Path) → Passing nodes path → Passing (node ∷ nodes) path
  later node nodes path p = (p.0, Contains-rest node p.0 nodes p.1, p.2, p.3)

  -- the first node satisfies the predicate
  here : (node : NodeAt V) (nodes : List (NodeAt V)) (path : Path) → ((j : ℕ) → j < length (paths_where test nodes) → get_or (paths_where test nodes) j path ≡ path → Passing nodes path)
      → (k : ℕ) → test node ≡ true → k < length (node.path ∷ paths_where test nodes) → get_or (node.path ∷ paths_where test nodes) k path ≡ path → Passing (node ∷ nodes) path
  here node nodes path deep zero e m i = (node, Contains-node node nodes, i, e)
  here node nodes path deep (suc j) e m i = later node nodes path (deep j (omega (arith, m)) i)

  pub passing_at : (nodes : List (NodeAt V)) (path : Path) (k : ℕ) → k < length (paths_where test nodes) → get_or (paths_where test nodes) k path ≡ path → Passing nodes path
  passing_at [] path k lt is = absurd (omega arith)
  passing_at (node ∷ nodes) path k lt is =
      elim (test node) as (λ b. test node ≡ b → k < length (map (λ n. n.path) (cond b (node ∷ filter test nodes) (filter test nodes)))
      → get_or (map (λ n. n.path) (cond b (node ∷ filter test nodes) (filter test nodes))) k path ≡ path → Passing (node ∷ nodes) path) [
        | true ↦ λ e m i. here node nodes path (λ j. passing_at nodes path j) k e m i
        | false ↦ λ e m i. later node nodes path (passing_at nodes path k m i)
      ] refl lt is

  pub into_at : (nodes : List (NodeAt V)) (node : NodeAt V) (k : ℕ) → k < length nodes → get_or nodes k node ≡ node → test node ≡ true → Contains (paths_where test nodes) node.path
  into_at [] node k lt is e = absurd (omega arith)
  into_at (n ∷ nodes) node zero lt is e =
      subst (λ b. Contains (map (λ m. m.path) (cond b (n ∷ filter test nodes) (filter test nodes))) node.path) (sym (ap test is ∙ e))
      (0, omega arith, ap (λ m. m.path) is)
  into_at (n ∷ nodes) node (suc k) lt is e =
      let deep = into_at nodes node k (omega arith) is e in
      elim (test n) as (λ b. Contains (map (λ m. m.path) (cond b (n ∷ filter test nodes) (filter test nodes))) node.path) [
        | true ↦ (suc deep.0, omega (arith, deep.1), deep.2)
        | false ↦ deep
      ]

  all_passing : (P : Path → Type 0) (nodes : List (NodeAt V)) → AllByRecursion P (map (λ n. n.path) nodes) → AllByRecursion P (paths_where test nodes)
  all_passing P [] h = h
  all_passing P (n ∷ nodes) h =
      elim (test n) as (λ b. AllByRecursion P (map (λ m. m.path) (cond b (n ∷ filter test nodes) (filter test nodes)))) [
        | true ↦ (h.0, all_passing P nodes h.1)
        | false ↦ all_passing P nodes h.1
      ]

  pub sorted_passing : (nodes : List (NodeAt V)) → IsStrictlySortedBy path_cmp (map (λ n. n.path) nodes) → IsStrictlySortedBy path_cmp (paths_where test nodes)
  unfolding IsStrictlySortedBy
  sorted_passing [] h = h
  sorted_passing (n ∷ nodes) h =
      elim (test n) as (λ b. IsStrictlySortedBy path_cmp (map (λ m. m.path) (cond b (n ∷ filter test nodes) (filter test nodes)))) [
        | true ↦ (all_passing (λ y. path_cmp n.path y ≡ Less) nodes h.0, sorted_passing nodes h.1)
        | false ↦ sorted_passing nodes h.1
      ]

all_at : {V : Type 0} (P : Path → Type 0) (nodes : List (NodeAt V)) (node : NodeAt V) (k : ℕ) → AllByRecursion P (map (λ n. n.path) nodes) → k < length nodes → get_or nodes k node ≡ node → P node.path
all_at P [] node k h lt is = absurd (omega arith)
all_at P (n ∷ nodes) node zero h lt is = subst (λ m. P m.path) is h.0
all_at P (n ∷ nodes) node (suc k) h lt is = all_at P nodes node k h.1 (omega arith) is

-- 2. The files of a tree of marks.

below_root : {V : Type 0} (tree : Tree V) → IsStrictlySortedBy path_cmp (map (λ node. node.path) (all_nodes tree)) → AllByRecursion (λ y. path_cmp [] y ≡ Less) (map (λ node. node.path) (nodes_under [] tree.branches))
unfolding IsStrictlySortedBy
below_root tree h = h.0

rest_sorted : {V : Type 0} (tree : Tree V) → IsStrictlySortedBy path_cmp (map (λ node. node.path) (all_nodes tree)) → IsStrictlySortedBy path_cmp (map (λ node. node.path) (nodes_under [] tree.branches))
unfolding IsStrictlySortedBy
rest_sorted tree h = h.1

module _ (marks : List Path) (tree : Tree Bool) (is : IsMarkedTree marks tree) (accepts : Path → Bool) where
  abbrev nodes : List (NodeAt Bool)
  nodes = nodes_under [] tree.branches

  rise : IsStrictlySortedBy path_cmp (map (λ node. node.path) (all_nodes tree))
  rise = lists_in_order tree is.ordered

  not_root : (node : NodeAt Bool) → Contains nodes node → node.path ≢ []
  not_root node h e = less_than_itself (all_at (λ y. path_cmp [] y ≡ Less) nodes node h.0 (below_root tree rise) h.1 h.2) e
    where
      less_than_itself : path_cmp [] node.path ≡ Less → node.path ≡ [] → ⊥
      less_than_itself less root = equal≢less (sym (ap (path_cmp []) root) ∙ less)

  found_is : (path : Path) → Contains (files_of accepts tree) path → Contains marks path × (path ≢ []) × (accepts path ≡ true)
  found_is path h =
      let p = passing_at (is_file accepts) nodes path h.0 h.1 h.2 in
      let node = p.0 in
      let parts = and_parts node.node.value (accepts node.path) p.3 in
      let there : get tree node.path ≡ Some node.node = (lists_nodes tree node.path node.node is.ordered).0 (Contains-rest (is_file accepts) (node_at [] tree) node nodes p.1) in
      let marked = (is.marked node.path).0 (ap (option_map (λ n. n.value)) there ∙ ap (λ b. Some b) parts.0) in
      subst (λ q. Contains marks q × (q ≢ []) × (accepts q ≡ true)) p.2 (marked, not_root node p.1, parts.1)

  is_found : (path : Path) → Contains marks path → path ≢ [] → accepts path ≡ true → Contains (files_of accepts tree) path
  is_found path marked below accepted = from_node (get tree path) refl ((is.marked path).1 marked)
    where
      at_node : (node : Tree Bool) (k : ℕ) → k < length (all_nodes tree) → get_or (all_nodes tree) k (node_at path node) ≡ node_at path node → node.value ≡ true → Contains (files_of accepts tree) path
      at_node node zero lt e b = absurd (below (sym (ap (λ n. n.path) e)))
      at_node node (suc k) lt e b =
          into_at (is_file accepts) nodes (node_at path node) k (omega (arith, lt)) e (ap (λ t. t && accepts path) b ∙ accepted)

      from_node : (o : Option (Tree Bool)) → get tree path ≡ o → option_map (λ n. n.value) (get tree path) ≡ Some true → Contains (files_of accepts tree) path
      from_node None there v = absurd (none-some true (sym (ap (option_map (λ n. n.value)) there) ∙ v))
      from_node (Some node) there v =
          let listed = (lists_nodes tree path node is.ordered).1 there in
          at_node node listed.0 listed.1 listed.2 (ap (λ o. unwrap_or o false) (sym (ap (option_map (λ n. n.value)) there) ∙ v))

  found_in_order : IsStrictlySortedBy path_cmp (files_of accepts tree)
  found_in_order = sorted_passing (is_file accepts) nodes (rest_sorted tree rise)

pub finds_marks : FindsMarks
finds_marks marks tree is accepts path = (found_is marks tree is accepts path, (λ h. is_found marks tree is accepts path h.0 h.1 h.2))

pub finds_in_order : FindsInOrder
finds_in_order = found_in_order
