-- The trie of the values to write, and the trees that are written for its nodes.
-- Machinery of private functions and fields.
use Rattle.std.specs.Prelude.{◌≡◌, ◌⊎◌, ℕ, Bool, true, false, List, [], ◌∷◌, ◌++◌, length}
use Rattle.std.specs.Prelude.{Option, Some, None, IsSome, All, Any, Contains, Result, IfOk}
use Rattle.std.specs.Global.{Global}
use Rattle.std.specs.declared.string.String.{String}
use Rattle.jj_files.specs.declared.file_util.errors.SourceKind.TheVariants.{Data}
use Rattle.jj_paths.specs.Paths.{Name, Path, IsBelow}
use Rattle.jj_paths.specs.Tree.{Tree as Trie, Branches, none, branch, value_at}
use Rattle.jj_backend.specs.Errors.{IsOtherOf}
use Rattle.jj_backend.specs.Objects.{ById, Object, Objects}
use Rattle.jj_backend.specs.Trees.{Entries}
use Rattle.jj_backend.specs.declared.backend.tree_value.TreeValue.{TreeValue}
use Rattle.jj_backend.specs.declared.backend.tree_value.TreeValue.TheVariants.{Tree}
use Rattle.jj_backend.specs.declared.backend.errors.BackendError.{BackendError}
use Rattle.jj_backend.specs.declared.backend.errors.BackendError.TheVariants.{Memory, Unsupported}
use Rattle.jj_trees.specs.WrittenTrees.{PathValues, IsTreeWriteError}
use Rattle.jj_trees.specs.TreeWrites.{TreeWrite, IsAtPath, IsRun}

-- a trie of values: nodes without a value are directories
abbrev pub Node : Type 0
Node = Trie (Option TreeValue)

abbrev pub Nodes : Type 0
Nodes = Branches (Option TreeValue)

-- the node at a path has a value, by the look-up of the path
abbrev pub is_value : Option (Option TreeValue) → Bool
is_value None = false
is_value (Some None) = false
is_value (Some (Some value)) = true

-- the trie has exactly these values, and its directories are ancestors of their paths
pub record IsTrieOf (values : PathValues) (trie : Node) : Type 0 where
  pub root : trie.value ≡ None
  pub has : (path : Path) (value : TreeValue) → Contains values (path, value)
      → value_at trie path ≡ Some (Some value)
  pub only : (path : Path) (value : TreeValue) → value_at trie path ≡ Some (Some value)
      → Contains values (path, value)
  pub directory : (name : Name) (rest : Path) → value_at trie (name ∷ rest) ≡ Some None
      → (v : Path × TreeValue) × Contains values v × IsBelow v.0 (name ∷ rest)

module _ (trees : ById Entries) where
  -- the entry's value is the node's, which has no children; or it is the tree of a directory, whose
  -- entries satisfy P
  abbrev pub IsEntryValue : Option TreeValue → Nodes → (Entries → Type 0) → TreeValue → Type 0
  IsEntryValue (Some value) below P entry = (below ≡ none) × (entry ≡ value)
  IsEntryValue None below P entry = (id : List ℕ) × (tree : Entries) × (entry ≡ Tree id)
      × (trees id ≡ Some tree) × P tree

  -- the entries are those of the nodes, in order
  abbrev pub AreStored : Nodes → Entries → Type 0
  AreStored none [] = Unit {0}
  AreStored none (entry ∷ entries) = ⊥
  AreStored (branch name value below after) [] = ⊥
  AreStored (branch name value below after) (entry ∷ entries) =
      (entry.0 ≡ name) × IsEntryValue value below (λ tree. AreStored below tree) entry.1
      × AreStored after entries

  -- the tree with this id is that of a directory with these nodes
  abbrev pub IsStored : Nodes → List ℕ → Type 0
  IsStored nodes id = (tree : Entries) × (trees id ≡ Some tree) × AreStored nodes tree

-- the node has a value and children
abbrev pub IsFull : Node → Path → Type 0
IsFull node path = (value : TreeValue) × (name : Name) × (value_at node path ≡ Some (Some value))
    × IsSome (value_at node (path ++ name ∷ []))

module _ {B : Type 0} (objects : B → Objects)
    (may_fail_to_write : B → Object → BackendError → Type 0) where
  -- the errors of writing a directory: out of memory, a value with children, a directory at this
  -- level, or a failed write
  abbrev pub IsNodeError : B → Node → ℕ → BackendError → Type 0
  IsNodeError old node levels e =
      (e ≡ Memory)
      ⊎ (IsOtherOf Data e × ((path : Path) × IsFull node path))
      ⊎ ((message : String Global) × (e ≡ Unsupported message)
      × ((path : Path) × (length path ≡ levels) × (value_at node path ≡ Some None)))
      ⊎ IsTreeWriteError objects may_fail_to_write old e

module _ {B : Type 0} (may_write : B → Path → Object → Result (List ℕ) BackendError → B → Type 0)
  where
    -- `WritesDirectories`, of the directories of a trie whose root is at the path `dir`
    pub record WritesNodes (trees : ById Entries) (dir : Path) (node : Node) (old new : B)
        (result : Result (List ℕ) BackendError) : Type 0 where
      pub writes : List TreeWrite
      pub run : IsRun may_write old writes new
      pub directories : All (λ write. (rest : Path) × (write.0 ≡ dir ++ rest)
          × (value_at node rest ≡ Some None)) writes
      pub at_paths : IfOk result (λ root. All (λ write. (rest : Path) × (write.0 ≡ dir ++ rest)
          × IsAtPath trees root rest write) writes)
      pub all : IfOk result (λ root. (rest : Path) → value_at node rest ≡ Some None
          → Any (λ write. write.0 ≡ dir ++ rest) writes)
