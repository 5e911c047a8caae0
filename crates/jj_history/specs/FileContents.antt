-- The tree of a commit, and the content at a path of it.
-- Cited by contracts of public items: IsContentAt, IsContentError, IsTreeError, IsTreeOf.
use Rattle.std.specs.Prelude.{◌≡◌, ℕ, ◌<◌, List, [], ◌∷◌, length, Option, Some, None}
use Rattle.jj_paths.specs.Paths.{Path}
use Rattle.jj_backend.specs.Objects.{Objects}
use Rattle.jj_backend.specs.Records.{CommitValue}
use Rattle.jj_backend.specs.declared.backend.tree_value.TreeValue.{TreeValue}
use Rattle.jj_backend.specs.declared.backend.tree_value.TreeValue.TheVariants.{File, Symlink, Tree, GitSubmodule}
use Rattle.jj_trees.specs.WrittenTrees.{stored_at}
use Rattle.jj_history.specs.declared.error.ContentError.{ContentError}
use Rattle.jj_history.specs.declared.error.ContentError.TheVariants.{Memory, Store, Conflict, Missing, Directory, Submodule}

-- memory ran out, or the backend failed
abbrev pub IsFailure : ContentError → Type 0
IsFailure Memory = Unit {0}
IsFailure (Store error) = Unit {0}
IsFailure Conflict = ⊥
IsFailure Missing = ⊥
IsFailure Directory = ⊥
IsFailure Submodule = ⊥

module _ (store : Objects) (id : List ℕ) where
  -- the store has the commit, and its tree is this one
  abbrev pub IsTreeOf : List ℕ → Type 0
  IsTreeOf tree = (commit : CommitValue) × (store.commits id ≡ Some commit)
      × (commit.root_tree ≡ tree ∷ [])

  -- the tree of the commit has several sides
  abbrev pub IsInConflict : Type 0
  IsInConflict = (commit : CommitValue) × (store.commits id ≡ Some commit)
      × (1 < length commit.root_tree)

  -- the error of a commit's tree: of a read, or a conflict of its trees
  abbrev pub IsTreeError : ContentError → Type 0
  IsTreeError Memory = Unit {0}
  IsTreeError (Store error) = Unit {0}
  IsTreeError Conflict = IsInConflict
  IsTreeError Missing = ⊥
  IsTreeError Directory = ⊥
  IsTreeError Submodule = ⊥

-- the store has this content for the file, or this target for the symbolic link
abbrev pub HasContent : Objects → Option TreeValue → List ℕ → Type 0
HasContent store None content = ⊥
HasContent store (Some (File id executable copy_id)) content = store.files id ≡ Some content
HasContent store (Some (Symlink id)) content = store.symlinks id ≡ Some content
HasContent store (Some (Tree id)) content = ⊥
HasContent store (Some (GitSubmodule id)) content = ⊥

-- the value has no content, and the error names its kind
abbrev pub IsValueError : Option TreeValue → ContentError → Type 0
IsValueError value Memory = Unit {0}
IsValueError value (Store error) = Unit {0}
IsValueError value Conflict = ⊥
IsValueError value Missing = value ≡ None
IsValueError value Directory = (id : List ℕ) × (value ≡ Some (Tree id))
IsValueError value Submodule = (id : List ℕ) × (value ≡ Some (GitSubmodule id))

module _ (store : Objects) (id : List ℕ) (path : Path) where
  -- the value at the path of the commit's tree
  abbrev pub IsValueAt : Option TreeValue → Type 0
  IsValueAt value = (tree : List ℕ) × IsTreeOf store id tree
      × (value ≡ stored_at store.trees (Some (Tree tree)) path)

  -- the content that the store has for the value at the path
  abbrev pub IsContentAt : List ℕ → Type 0
  IsContentAt content = (value : Option TreeValue) × IsValueAt value
      × HasContent store value content

  -- the error names the kind of the value at the path, or a conflict
  abbrev pub IsContentError : ContentError → Type 0
  IsContentError Memory = Unit {0}
  IsContentError (Store error) = Unit {0}
  IsContentError Conflict = IsInConflict store id
  IsContentError Missing = IsValueAt None
  IsContentError Directory = (tree : List ℕ) × IsValueAt (Some (Tree tree))
  IsContentError Submodule = (commit : List ℕ) × IsValueAt (Some (GitSubmodule commit))
