-- The files and directories that a pruned walk of a tree of marked paths finds.
-- Cited by contracts of public items: AreInOrder, entered_by, files_of.
use Rattle.std.specs.Prelude.{Bool, true, false, ◌&&◌, List, [], ◌∷◌, ◌++◌, map}
use Rattle.std.specs.List.{filter}
use Rattle.std.specs.List.Sorted.{IsStrictlySortedBy}
use Rattle.jj_paths.specs.Paths.{Name, Path, path_cmp}
use Rattle.jj_paths.specs.Tree.{Tree, has_branches}
use Rattle.jj_paths.specs.Nodes.{NodeAt, nodes_under, all_nodes}
use Rattle.jj_matchers.specs.VisitSpecs.{VisitSpec, all_recursively, specific, nothing}

-- the paths strictly ascend in path order
abbrev pub AreInOrder : List Path → Type 0
AreInOrder paths = IsStrictlySortedBy path_cmp paths

-- a list of the path if the condition is true, and else an empty one
abbrev pub path_if : Bool → Path → List Path
path_if true path = path ∷ []
path_if false path = []

-- the paths of the nodes that satisfy a predicate
abbrev pub paths_where : {V : Type 0} → (NodeAt V → Bool) → List (NodeAt V) → List Path
paths_where test nodes = map (λ found. found.path) (filter test nodes)

-- whether a node is marked and its path accepted
abbrev pub is_file : (Path → Bool) → NodeAt Bool → Bool
is_file accepts found = found.node.value && accepts found.path

-- the marked paths below the root that are accepted
abbrev pub files_of : (Path → Bool) → Tree Bool → List Path
files_of accepts tree = paths_where (is_file accepts) (nodes_under [] tree.branches)

-- a directory is entered unless its visit is `nothing`
abbrev pub is_entered : VisitSpec → Bool
is_entered all_recursively = true
is_entered (specific dirs files) = true
is_entered nothing = false

-- whether a walk that entered a directory with this visit continues into a child, where `on` is
-- whether it continues from that child
abbrev pub continues_into : VisitSpec → Name → Bool → Bool
continues_into all_recursively name on = true
continues_into (specific dirs files) name on = dirs name && on
continues_into nothing name on = false

-- whether a walk that visits a directory enters the one at this path relative to it
abbrev pub walk_enters : (Path → VisitSpec) → Path → Path → Bool
walk_enters visit dir [] = is_entered (visit dir)
walk_enters visit dir (name ∷ rest) =
    continues_into (visit dir) name (walk_enters visit (dir ++ name ∷ []) rest)

-- whether a node has children and a walk from the root enters it
abbrev pub is_entered_directory : (Path → VisitSpec) → NodeAt Bool → Bool
is_entered_directory visit found = has_branches found.node.branches
    && walk_enters visit [] found.path

-- the directories that a walk enters, in preorder
abbrev pub entered_by : (Path → VisitSpec) → Tree Bool → List Path
entered_by visit tree = paths_where (is_entered_directory visit) (all_nodes tree)
