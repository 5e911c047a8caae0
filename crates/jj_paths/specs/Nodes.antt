-- The nodes of a tree in preorder.
-- Cited by contracts of public items: ListsInOrder, ListsNodes.
use Rattle.std.specs.Prelude.{◌≡◌, ◌↔◌, true, Some, List, [], ◌∷◌, ◌++◌, map, Contains}
use Rattle.std.specs.List.Sorted.{IsStrictlySortedBy}
use Rattle.jj_paths.specs.Paths.{Path, path_cmp}
use Rattle.jj_paths.specs.Tree.{Tree, tree_of, Branches, none, branch, get, is_ordered}

-- a node of a tree and its path
pub record NodeAt (V : Type 0) : Type 0 where
  pub path : Path
  pub node : Tree V

-- a node with its path
abbrev pub node_at : {V : Type 0} → Path → Tree V → NodeAt V
node_at path node = record { path = path; node = node }

module _ {V : Type 0} where
  -- the nodes strictly below a directory in preorder, with their paths
  abbrev pub nodes_under : Path → Branches V → List (NodeAt V)
  nodes_under dir none = []
  nodes_under dir (branch name value below after) =
      node_at (dir ++ name ∷ []) (tree_of value below)
      ∷ (nodes_under (dir ++ name ∷ []) below ++ nodes_under dir after)

  -- all nodes in preorder, with their paths
  abbrev pub all_nodes : Tree V → List (NodeAt V)
  all_nodes tree = node_at [] tree ∷ nodes_under [] tree.branches

-- a node is listed with a path if and only if `get` returns it for that path
abbrev pub ListsNodes : Type 0 → Type 0
ListsNodes V = (tree : Tree V) (path : Path) (node : Tree V) → is_ordered tree.branches ≡ true
    → Contains (all_nodes tree) (node_at path node) ↔ (get tree path ≡ Some node)

-- the listed paths strictly ascend, so each node is listed once
abbrev pub ListsInOrder : Type 0 → Type 0
ListsInOrder V = (tree : Tree V) → is_ordered tree.branches ≡ true
    → IsStrictlySortedBy path_cmp (map (λ found. found.path) (all_nodes tree))
