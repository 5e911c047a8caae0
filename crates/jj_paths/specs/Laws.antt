-- Laws of paths and trees: splitting and joining are inverse, a path has one parent, and the paths
-- of a tree are closed under ancestors.
-- Cited by contracts of public items: HasAncestors, HasRoot, JoinUndoesSplit, LastNameIsUnique,
-- SplitUndoesJoin.
use Rattle.std.specs.Prelude.{◌≡◌, IsSome, Some, true, ℕ, List, [], ◌∷◌, ◌++◌}
use Rattle.std.specs.List.{list_all}
use Rattle.jj_paths.specs.Paths.{Name, Path, components, path_string, is_name, is_path_string}
use Rattle.jj_paths.specs.Tree.{Tree, get}

-- joining the components of a string yields the string
abbrev pub JoinUndoesSplit : Type 0
JoinUndoesSplit = (text : List ℕ) → path_string (components text) ≡ text

-- splitting the string of a path yields its names, and the string is valid
abbrev pub SplitUndoesJoin : Type 0
SplitUndoesJoin = (path : Path) → list_all is_name path ≡ true
    → (components (path_string path) ≡ path) × (is_path_string (path_string path) ≡ true)

-- a path below the root has one parent and one last name
abbrev pub LastNameIsUnique : Type 0
LastNameIsUnique = (above other : Path) (name last : Name) → above ++ name ∷ [] ≡ other ++ last ∷ []
    → (above ≡ other) × (name ≡ last)

-- the node at the root is the tree itself
abbrev pub HasRoot : Type 0 → Type 0
HasRoot V = (tree : Tree V) → get tree [] ≡ Some tree

-- the ancestors of a node of a tree are nodes of it
abbrev pub HasAncestors : Type 0 → Type 0
HasAncestors V = (tree : Tree V) (prefix rest : Path) → IsSome (get tree (prefix ++ rest))
    → IsSome (get tree prefix)
