-- The paths of the preorder list strictly ascend.
use Rattle.std.proofs.Common.{◌≡◌, true, List, [], ◌∷◌, ◌++◌, map, sym, subst, append_assoc}
use Rattle.std.specs.declared.cmp.Ordering.TheVariants.{Less}
use Rattle.std.specs.Ordering.{is_lt}
use Rattle.std.specs.List.{AllByRecursion}
use Rattle.std.specs.List.Sorted.{IsStrictlySortedBy}
use Rattle.std.specs.FinMap.Entries.{below_all}
use Rattle.std.proofs.lemmas.Bool.{and_parts}
use Rattle.std.proofs.lemmas.List.{map-append}
use Rattle.jj_paths.specs.Paths.{Name, Path, name_cmp, path_cmp}
use Rattle.jj_paths.specs.Tree.{Tree, Branches, none, branch, children, is_ordered}
use Rattle.jj_paths.specs.Nodes.{NodeAt, nodes_under, all_nodes}
use Rattle.jj_paths.proofs.PathOrders.{less_from_is_lt, before_name, before_below, all-append, sorted-append, sorted-cons, sorted_none}

module _ {V : Type 0} where
  abbrev paths : List (NodeAt V) → List Path
  paths nodes = map (λ (found : NodeAt V). found.path) nodes

  -- a property of all paths at or below the names of the branches is one of all listed paths
  all_under : (P : Path → Type 0) (dir : Path) (b : Branches V) → AllByRecursion (λ (c : Name × Tree V). (rest : Path) → P (dir ++ c.0 ∷ rest)) (children b) → AllByRecursion P (paths (nodes_under dir b))
  all_under P dir none h = tt
  all_under P dir (branch name value below after) h =
      let here = dir ++ name ∷ [] in
      let deep = all_under P here below (each below (λ n rest. subst P (sym (append_assoc dir (name ∷ []) (n ∷ rest))) (h.0 (n ∷ rest)))) in
      let later = all_under P dir after h.1 in
      (h.0 [], subst (AllByRecursion P) (sym (map-append (λ (found : NodeAt V). found.path) (nodes_under here below) (nodes_under dir after))) (all-append P _ _ deep later))
    where
      each : (b : Branches V) → ((n : Name) (rest : Path) → P ((dir ++ name ∷ []) ++ n ∷ rest)) → AllByRecursion (λ (c : Name × Tree V). (rest : Path) → P ((dir ++ name ∷ []) ++ c.0 ∷ rest)) (children b)
      each none f = tt
      each (branch n v deeper others) f = (f n, each others f)

  -- a property of all paths strictly below a directory is one of all listed paths
  all_anywhere : (P : Path → Type 0) (dir : Path) (b : Branches V) → ((n : Name) (rest : Path) → P (dir ++ n ∷ rest)) → AllByRecursion P (paths (nodes_under dir b))
  all_anywhere P dir b f = all_under P dir b (each b)
    where
      each : (b : Branches V) → AllByRecursion (λ (c : Name × Tree V). (rest : Path) → P (dir ++ c.0 ∷ rest)) (children b)
      each none = tt
      each (branch n v below after) = (f n, each after)

  -- paths at or below a name precede those at or below greater names
  greater_names : (dir : Path) (name : Name) (a : Path) (after : Branches V) → below_all name_cmp name (children after) ≡ true → AllByRecursion (λ (c : Name × Tree V). (rest : Path) → path_cmp (dir ++ name ∷ a) (dir ++ c.0 ∷ rest) ≡ Less) (children after)
  greater_names dir name a none up = tt
  greater_names dir name a (branch n v below after) up =
      let parts = and_parts (is_lt (name_cmp name n)) (below_all name_cmp name (children after)) up in
      ((λ rest. before_name dir name n a rest (less_from_is_lt _ parts.0)), greater_names dir name a after parts.1)

  ordered_under : (dir : Path) (b : Branches V) → is_ordered b ≡ true → IsStrictlySortedBy path_cmp (paths (nodes_under dir b))
  ordered_under dir none up = sorted_none
  ordered_under dir (branch name value below after) up =
      let parts = and_parts (below_all name_cmp name (children after)) _ up in
      let both = and_parts (is_ordered below) (is_ordered after) parts.1 in
      let here = dir ++ name ∷ [] in
      let deep = paths (nodes_under here below) in
      let later = paths (nodes_under dir after) in
      let here_deep : AllByRecursion (λ y. path_cmp here y ≡ Less) deep = all_anywhere (λ y. path_cmp here y ≡ Less) here below (λ n rest. before_below here n rest) in
      let here_later : AllByRecursion (λ y. path_cmp here y ≡ Less) later = all_under (λ y. path_cmp here y ≡ Less) dir after (greater_names dir name [] after parts.0) in
      let deep_later : AllByRecursion (λ x. AllByRecursion (λ y. path_cmp x y ≡ Less) later) deep =
      all_anywhere (λ x. AllByRecursion (λ y. path_cmp x y ≡ Less) later) here below
      (λ n rest. subst (λ x. AllByRecursion (λ y. path_cmp x y ≡ Less) later) (sym (append_assoc dir (name ∷ []) (n ∷ rest)))
      (all_under (λ y. path_cmp (dir ++ name ∷ n ∷ rest) y ≡ Less) dir after (greater_names dir name (n ∷ rest) after parts.0))) in
      let both_rise = sorted-append deep later (ordered_under here below both.0) (ordered_under dir after both.1) deep_later in
      subst (λ l. IsStrictlySortedBy path_cmp (here ∷ l)) (sym (map-append (λ (found : NodeAt V). found.path) (nodes_under here below) (nodes_under dir after)))
      (sorted-cons here (deep ++ later) (all-append (λ y. path_cmp here y ≡ Less) deep later here_deep here_later) both_rise)

  pub lists_in_order : (tree : Tree V) → is_ordered tree.branches ≡ true → IsStrictlySortedBy path_cmp (map (λ found. found.path) (all_nodes tree))
  lists_in_order tree up = sorted-cons [] (paths (nodes_under [] tree.branches)) (all_anywhere (λ y. path_cmp [] y ≡ Less) [] tree.branches (λ n rest. before_below [] n rest)) (ordered_under [] tree.branches up)
