-- The preorder list of the nodes below a directory, by its first branch and the rest.
use Rattle.std.proofs.Common.{◌≡◌, Bool, true, false, List, [], ◌∷◌, ◌++◌, refl, ap, sym, subst, ◌∙◌, append_assoc}
use Rattle.std.specs.declared.cmp.Ordering.TheVariants.{Less}
use Rattle.std.specs.List.{AllByRecursion}
use Rattle.std.specs.List.Sorted.{IsStrictlySortedBy}
use Rattle.std.specs.FinMap.{is_sorted}
use Rattle.std.specs.FinMap.Entries.{below_all}
use mathlib.Core.Bool.{false≢true}
use Rattle.std.proofs.lemmas.Bool.{and_parts}
use Rattle.jj_paths.specs.Paths.{Name, Path, name_cmp, path_cmp}
use Rattle.jj_paths.specs.Tree.{Tree, tree_of, Branches, none, branch, branches_of, children, has_branches}
use Rattle.jj_paths.specs.Nodes.{NodeAt, node_at, nodes_under}
use Rattle.jj_matchers.specs.Walk.{paths_where, path_if}
use Rattle.jj_paths.proofs.PathOrders.{before_name, before_below, less_from_is_lt, all-append, sorted-append, sorted-cons, sorted_none}

pub all_path_if : (P : Path → Type 0) (t : Bool) (path : Path) → (t ≡ true → P path) → AllByRecursion P (path_if t path)
all_path_if P true path h = (h refl, tt)
all_path_if P false path h = tt

sorted_path_if : (t : Bool) (path : Path) → IsStrictlySortedBy path_cmp (path_if t path)
sorted_path_if true path = sorted-cons path [] tt sorted_none
sorted_path_if false path = sorted_none

module _ {V : Type 0} where
  pub branches_of-children : (b : Branches V) → branches_of (children b) ≡ b
  branches_of-children none = refl
  branches_of-children (branch name value below after) = ap (branch name value below) (branches_of-children after)

  paths_where-cons : (test : NodeAt V → Bool) (path : Path) (tree : Tree V) (nodes : List (NodeAt V)) (t : Bool) → test (node_at path tree) ≡ t → paths_where test (node_at path tree ∷ nodes) ≡ path_if (test (node_at path tree)) path ++ paths_where test nodes
  paths_where-cons test path tree nodes true e = rw e
  paths_where-cons test path tree nodes false e = rw e

  pub paths_where_first : (test : NodeAt V → Bool) (path : Path) (tree : Tree V) (nodes : List (NodeAt V)) → paths_where test (node_at path tree ∷ nodes) ≡ path_if (test (node_at path tree)) path ++ paths_where test nodes
  paths_where_first test path tree nodes = paths_where-cons test path tree nodes (test (node_at path tree)) refl

  pub paths_where-append : (test : NodeAt V → Bool) (a b : List (NodeAt V)) → paths_where test (a ++ b) ≡ paths_where test a ++ paths_where test b
  paths_where-append test [] b = refl
  paths_where-append test (x ∷ a) b =
      paths_where_first test x.path x.node (a ++ b)
      ∙ ap (λ l. path_if (test x) x.path ++ l) (paths_where-append test a b)
      ∙ sym (append_assoc (path_if (test x) x.path) (paths_where test a) (paths_where test b))
      ∙ ap (λ l. l ++ paths_where test b) (sym (paths_where_first test x.path x.node a))

  -- the paths below a directory with a first branch
  pub paths_below_first : (test : NodeAt V → Bool) (dir : Path) (name : Name) (sub : Tree V) (after : Branches V) →
      paths_where test (nodes_under dir (branch name sub.value sub.branches after)) ≡ path_if (test (node_at (dir ++ name ∷ []) sub)) (dir ++ name ∷ []) ++ (paths_where test (nodes_under (dir ++ name ∷ []) sub.branches) ++ paths_where test (nodes_under dir after))
  paths_below_first test dir name sub after =
      paths_where_first test (dir ++ name ∷ []) sub (nodes_under (dir ++ name ∷ []) sub.branches ++ nodes_under dir after)
      ∙ ap (λ l. path_if (test (node_at (dir ++ name ∷ []) sub)) (dir ++ name ∷ []) ++ l) (paths_where-append test (nodes_under (dir ++ name ∷ []) sub.branches) (nodes_under dir after))

  -- one step of a walk: the paths found so far, those of the first branch, and the rest
  pub found_step : (test : NodeAt V → Bool) (dir : Path) (name : Name) (sub : Tree V) (after left : List (Name × Tree V)) (found all new : List Path) →
      left ≡ (name, sub) ∷ after →
      found ++ paths_where test (nodes_under dir (branches_of left)) ≡ all →
      new ≡ (found ++ path_if (test (node_at (dir ++ name ∷ []) sub)) (dir ++ name ∷ [])) ++ paths_where test (nodes_under (dir ++ name ∷ []) sub.branches) →
      new ++ paths_where test (nodes_under dir (branches_of after)) ≡ all
  found_step test dir name sub after left found all new e whole is =
      let a = path_if (test (node_at (dir ++ name ∷ []) sub)) (dir ++ name ∷ []) in
      let b = paths_where test (nodes_under (dir ++ name ∷ []) sub.branches) in
      let c = paths_where test (nodes_under dir (branches_of after)) in
      ap (λ l. l ++ c) is
      ∙ append_assoc (found ++ a) b c
      ∙ append_assoc found a (b ++ c)
      ∙ ap (λ l. found ++ l) (sym (paths_below_first test dir name sub (branches_of after)))
      ∙ ap (λ l. found ++ paths_where test (nodes_under dir (branches_of l))) (sym e)
      ∙ whole

  -- predicates that agree below a directory select the same paths there
  pub same_below : (f g : NodeAt V → Bool) (dir : Path) (b : Branches V) → ((name : Name) (rest : Path) (sub : Tree V) → f (node_at (dir ++ name ∷ rest) sub) ≡ g (node_at (dir ++ name ∷ rest) sub)) → paths_where f (nodes_under dir b) ≡ paths_where g (nodes_under dir b)
  same_below f g dir none same = refl
  same_below f g dir (branch name value below after) same =
      let p = dir ++ name ∷ [] in
      let deeper : (n : Name) (rest : Path) (sub : Tree V) → f (node_at (p ++ n ∷ rest) sub) ≡ g (node_at (p ++ n ∷ rest) sub) =
      λ n rest sub. ap (λ q. f (node_at q sub)) (append_assoc dir (name ∷ []) (n ∷ rest)) ∙ same name (n ∷ rest) sub ∙ ap (λ q. g (node_at q sub)) (sym (append_assoc dir (name ∷ []) (n ∷ rest))) in
      paths_below_first f dir name (tree_of value below) after
      ∙ ap (λ t. path_if t p ++ (paths_where f (nodes_under p below) ++ paths_where f (nodes_under dir after))) (same name [] (tree_of value below))
      ∙ ap (λ l. path_if (g (node_at p (tree_of value below))) p ++ (l ++ paths_where f (nodes_under dir after))) (same_below f g p below deeper)
      ∙ ap (λ l. path_if (g (node_at p (tree_of value below))) p ++ (paths_where g (nodes_under p below) ++ l)) (same_below f g dir after same)
      ∙ sym (paths_below_first g dir name (tree_of value below) after)

  -- a predicate that fails below a directory selects no paths there
  pub none_below : (f : NodeAt V → Bool) (dir : Path) (b : Branches V) → ((name : Name) (rest : Path) (sub : Tree V) → f (node_at (dir ++ name ∷ rest) sub) ≡ false) → paths_where f (nodes_under dir b) ≡ []
  none_below f dir b fails = same_below f (λ _. false) dir b fails ∙ nowhere (nodes_under dir b)
    where
      nowhere : (nodes : List (NodeAt V)) → paths_where (λ _. false) nodes ≡ []
      nowhere [] = refl
      nowhere (x ∷ nodes) = nowhere nodes

  -- a property of all paths at or below the names of the branches is one of all selected paths
  pub all_below : (P : Path → Type 0) (test : NodeAt V → Bool) (dir : Path) (b : Branches V) → AllByRecursion (λ (c : Name × Tree V). (rest : Path) → P (dir ++ c.0 ∷ rest)) (children b) → AllByRecursion P (paths_where test (nodes_under dir b))
  all_below P test dir none h = tt
  all_below P test dir (branch name value below after) h =
      let p = dir ++ name ∷ [] in
      let here : AllByRecursion P (path_if (test (node_at p (tree_of value below))) p) = all_path_if P _ p (λ _. h.0 []) in
      let deep : AllByRecursion P (paths_where test (nodes_under p below)) = all_below P test p below (any_children P p below (λ n rest. subst P (sym (append_assoc dir (name ∷ []) (n ∷ rest))) (h.0 (n ∷ rest)))) in
      let later : AllByRecursion P (paths_where test (nodes_under dir after)) = all_below P test dir after h.1 in
      subst (AllByRecursion P) (sym (paths_below_first test dir name (tree_of value below) after)) (all-append P _ _ here (all-append P _ _ deep later))
    where
      any_children : (P : Path → Type 0) (p : Path) (b : Branches V) → ((n : Name) (rest : Path) → P (p ++ n ∷ rest)) → AllByRecursion (λ (c : Name × Tree V). (rest : Path) → P (p ++ c.0 ∷ rest)) (children b)
      any_children P p none f = tt
      any_children P p (branch n v b a) f = (f n, any_children P p a f)

  -- a property of all paths strictly below a directory is one of all selected paths
  pub all_anywhere : (P : Path → Type 0) (test : NodeAt V → Bool) (dir : Path) (b : Branches V) → ((n : Name) (rest : Path) → P (dir ++ n ∷ rest)) → AllByRecursion P (paths_where test (nodes_under dir b))
  all_anywhere P test dir b f = all_below P test dir b (each b)
    where
      each : (b : Branches V) → AllByRecursion (λ (c : Name × Tree V). (rest : Path) → P (dir ++ c.0 ∷ rest)) (children b)
      each none = tt
      each (branch n v below after) = (f n, each after)

  -- paths at or below the first name precede those at or below the other names
  greater_names : (dir : Path) (name : Name) (a : Path) (after : List (Name × Tree V)) → below_all name_cmp name after ≡ true → AllByRecursion (λ (c : Name × Tree V). (rest : Path) → path_cmp (dir ++ name ∷ a) (dir ++ c.0 ∷ rest) ≡ Less) (children (branches_of after))
  greater_names dir name a [] e = tt
  greater_names dir name a (c ∷ after) e = (λ rest. before_name dir name c.0 a rest (less_from_is_lt _ (and_parts _ _ e).0), greater_names dir name a after (and_parts _ _ e).1)

  -- a step of a walk appends paths in order
  pub ordered_step : (test : NodeAt V → Bool) (dir : Path) (name : Name) (sub : Tree V) (after left : List (Name × Tree V)) (all : List Path) →
      left ≡ (name, sub) ∷ after →
      is_sorted name_cmp left ≡ true →
      (IsStrictlySortedBy path_cmp (paths_where test (nodes_under dir (branches_of left))) → IsStrictlySortedBy path_cmp all) →
      IsStrictlySortedBy path_cmp (paths_where test (nodes_under (dir ++ name ∷ []) sub.branches)) →
      IsStrictlySortedBy path_cmp (paths_where test (nodes_under dir (branches_of after))) → IsStrictlySortedBy path_cmp all
  ordered_step test dir name sub after left all e names whole below later =
      let p = dir ++ name ∷ [] in
      let rise = and_parts _ _ (sym (ap (is_sorted name_cmp) e) ∙ names) in
      let a = path_if (test (node_at p sub)) p in
      let b = paths_where test (nodes_under p sub.branches) in
      let c = paths_where test (nodes_under dir (branches_of after)) in
      let below_p : AllByRecursion (λ y. path_cmp p y ≡ Less) b = all_anywhere (λ y. path_cmp p y ≡ Less) test p sub.branches (λ n rest. before_below p n rest) in
      let p_first : AllByRecursion (λ y. path_cmp p y ≡ Less) c = all_below (λ y. path_cmp p y ≡ Less) test dir (branches_of after) (greater_names dir name [] after rise.0) in
      let b_first : AllByRecursion (λ x. AllByRecursion (λ y. path_cmp x y ≡ Less) c) b =
      all_anywhere (λ x. AllByRecursion (λ y. path_cmp x y ≡ Less) c) test p sub.branches
      (λ n rest. subst (λ x. AllByRecursion (λ y. path_cmp x y ≡ Less) c) (sym (append_assoc dir (name ∷ []) (n ∷ rest)))
      (all_below (λ y. path_cmp (dir ++ name ∷ n ∷ rest) y ≡ Less) test dir (branches_of after) (greater_names dir name (n ∷ rest) after rise.0))) in
      let bc : IsStrictlySortedBy path_cmp (b ++ c) = sorted-append b c below later b_first in
      let abc : IsStrictlySortedBy path_cmp (a ++ (b ++ c)) =
      sorted-append a (b ++ c) (sorted_path_if (test (node_at p sub)) p) bc (all_path_if (λ x. AllByRecursion (λ y. path_cmp x y ≡ Less) (b ++ c)) (test (node_at p sub)) p (λ _. all-append (λ y. path_cmp p y ≡ Less) b c below_p p_first)) in
      whole (subst (IsStrictlySortedBy path_cmp) (sym (paths_below_first test dir name sub (branches_of after)) ∙ ap (λ l. paths_where test (nodes_under dir (branches_of l))) (sym e)) abc)

  -- a node without branches has no paths below it
  pub nothing_below : (test : NodeAt V → Bool) (dir : Path) (b : Branches V) → has_branches b ≡ false → paths_where test (nodes_under dir b) ≡ []
  nothing_below test dir none e = refl
  nothing_below test dir (branch name value below after) e = absurd (false≢true (sym e))
