-- Trees of marked paths: the tree of a list of marks, and the list of the marks of a tree.
-- Cited by contracts of public items: IsMarkedTree, marked_paths.
use Rattle.std.specs.Prelude.{◌≡◌, ◌↔◌, ◌⊎◌, Bool, true, false, ◌||◌, List, [], ◌∷◌, ◌++◌, Option, Some, None, IsSome, map, if◌then◌else◌, Contains, unwrap_or}
use Rattle.std.specs.List.{filter, list_any}
use Rattle.jj_paths.specs.Paths.{Name, Path}
use Rattle.jj_paths.specs.Tree.{Tree, Branches, child, children, get, has_branches, is_ordered, value_at}
use Rattle.jj_paths.specs.Nodes.{all_nodes}
use Rattle.jj_matchers.specs.VisitSpecs.{VisitSpec, specific, nothing}

-- the tree of these marks: its nodes are the root, the marks and their ancestors, in path order,
-- and exactly the marks are marked
pub record IsMarkedTree (marks : List Path) (tree : Tree Bool) : Type 0 where
  pub ordered : is_ordered tree.branches ≡ true
  pub marked : (path : Path) → (value_at tree path ≡ Some true) ↔ Contains marks path
  pub nodes : (path : Path) → IsSome (get tree path)
      ↔ ((path ≡ []) ⊎ ((rest : Path) × Contains marks (path ++ rest)))

-- whether the path is marked
abbrev pub is_marked : Tree Bool → Path → Bool
is_marked tree path = unwrap_or (value_at tree path) false

-- the paths of the marked nodes
abbrev pub marked_paths : Tree Bool → List Path
marked_paths tree = filter (is_marked tree) (map (λ found. found.path) (all_nodes tree))

-- every leaf except the root is marked, so every node except the root is at or above a mark
abbrev pub LeadsToMarks : Tree Bool → Type 0
LeadsToMarks tree = (above : Path) (name : Name) → value_at tree (above ++ name ∷ []) ≡ Some false
    → ((next : Name) → value_at tree (above ++ name ∷ next ∷ []) ≡ None) → ⊥

-- whether the child with a name exists and satisfies a predicate, and whether any child does
abbrev pub option_satisfies : (Tree Bool → Bool) → Option (Tree Bool) → Bool
option_satisfies test None = false
option_satisfies test (Some node) = test node

abbrev pub child_satisfies : (Tree Bool → Bool) → Branches Bool → Name → Bool
child_satisfies test branches name = option_satisfies test (child branches name)

abbrev pub any_child : (Tree Bool → Bool) → Branches Bool → Bool
any_child test branches = list_any (λ child. test child.1) (children branches)

-- the visit of the children that satisfy `dirs` as directories, and of those that satisfy `files`
-- as files
abbrev pub children_spec : (Tree Bool → Bool) → (Tree Bool → Bool) → Branches Bool → VisitSpec
children_spec dirs files branches = if any_child dirs branches
    || any_child files branches then specific (child_satisfies dirs branches)
    (child_satisfies files branches) else nothing

abbrev pub has_children : Tree Bool → Bool
has_children node = has_branches node.branches

abbrev pub has_mark : Tree Bool → Bool
has_mark node = node.value

abbrev pub any_node : Tree Bool → Bool
any_node node = true

-- whether a child is to be visited as a directory: every child, or those with children
abbrev pub counts_as_dir : Bool → Tree Bool → Bool
counts_as_dir all_dirs node = all_dirs || has_children node
