-- The writes of trees of `write_back`: one for each directory, at its path.
-- Cited by contracts of public items: IsAtPath, IsDirectory, IsRun, TreeWrite, WritesDirectories.
use Rattle.std.specs.Prelude.{◌≡◌, ◌⊎◌, ℕ, List, [], ◌∷◌, ◌++◌, Some, All, Any}
use Rattle.std.specs.Prelude.{Result, IfOk, IsOkAnd}
use Rattle.jj_paths.specs.Paths.{Name, Path}
use Rattle.jj_backend.specs.Objects.{ById, Object, tree_object}
use Rattle.jj_backend.specs.Trees.{Entries}
use Rattle.jj_backend.specs.declared.backend.tree_value.TreeValue.TheVariants.{Tree}
use Rattle.jj_backend.specs.declared.backend.errors.BackendError.{BackendError}
use Rattle.jj_trees.specs.WrittenTrees.{PathValues, stored_at}

-- a write of a tree: the path and the entries that it was called with, and its result
abbrev pub TreeWrite : Type 0
TreeWrite = Path × Entries × Result (List ℕ) BackendError

-- the path is that of a directory to write: the root, or an ancestor of a path with a value
abbrev pub IsDirectory : PathValues → Path → Type 0
IsDirectory values path = (path ≡ [])
    ⊎ Any (λ v. (name : Name) × (rest : Path) × (v.0 ≡ path ++ name ∷ rest)) values

-- the write stored the tree that is at this path of the tree with this id
abbrev pub IsAtPath : ById Entries → List ℕ → Path → TreeWrite → Type 0
IsAtPath trees root path write = IsOkAnd write.2 (λ id.
    (stored_at trees (Some (Tree root)) path ≡ Some (Tree id)) × (trees id ≡ Some write.1))

-- `may_write old path object result new`: the write of the object at this path may return the
-- result and leave the backend `new`
module _ {B : Type 0} (may_write : B → Path → Object → Result (List ℕ) BackendError → B → Type 0)
  where
    -- the backend `new` is `old` after these writes, in this order
    abbrev pub IsRun : B → List TreeWrite → B → Type 0
    IsRun old [] new = new ≡ old
    IsRun old (write ∷ writes) new = (next : B)
        × may_write old write.0 (tree_object write.1) write.2 next × IsRun next writes new

    -- the backend `new` is `old` after writes of directories, each at its path; if the tree of the
    -- root was written, then of every directory
    pub record WritesDirectories (trees : ById Entries) (values : PathValues) (old new : B)
        (result : Result (List ℕ) BackendError) : Type 0 where
      pub writes : List TreeWrite
      pub run : IsRun old writes new
      pub directories : All (λ write. IsDirectory values write.0) writes
      pub at_paths : IfOk result (λ root. All (λ write. IsAtPath trees root write.0 write) writes)
      pub all : IfOk result (λ root. (path : Path) → IsDirectory values path
          → Any (λ write. write.0 ≡ path) writes)
