-- Trees as maps from paths to files, and the effect of changes on them.
-- Cited by contracts of public items: Change, Files, IsGrown, changed, files_at.
use Rattle.std.specs.Prelude.{◌≡◌, ℕ, Bool, if◌then◌else◌, List, [], ◌∷◌, Option, Some, None, is_some}
use Rattle.std.specs.Str.{bytes_eq}
use Rattle.jj_paths.specs.Paths.{Name, Path}
use Rattle.jj_backend.specs.Objects.{ById}
use Rattle.jj_backend.specs.Trees.{Entries}
use Rattle.jj_backend.specs.declared.backend.tree_value.TreeValue.{TreeValue}
use Rattle.jj_backend.specs.declared.backend.tree_value.TreeValue.TheVariants.{File, Symlink, Tree, GitSubmodule}
use Rattle.jj_trees.specs.WrittenTrees.{stored_at}

-- the file, symbolic link or submodule at each path
abbrev pub Files : Type 0
Files = Path → Option TreeValue

-- a path with the value that is put there; None removes what is there
abbrev pub Change : Type 0
Change = Path × Option TreeValue

-- the later trees are the earlier ones and possibly more
abbrev pub IsGrown : ById Entries → ById Entries → Type 0
IsGrown earlier later = (id : List ℕ) (entries : Entries) → earlier id ≡ Some entries
    → later id ≡ Some entries

-- the value, unless it is a directory
abbrev pub file_of : Option TreeValue → Option TreeValue
file_of None = None
file_of (Some (Tree id)) = None
file_of (Some (File id executable copy_id)) = Some (File id executable copy_id)
file_of (Some (Symlink id)) = Some (Symlink id)
file_of (Some (GitSubmodule id)) = Some (GitSubmodule id)

module _ (trees : ById Entries) where
  -- the files of a value: those of the directory, or the value itself at the empty path
  abbrev pub files_at : Option TreeValue → Files
  files_at value path = file_of (stored_at trees value path)

  -- A value at a path replaces the files at the path and below it, and a file above it.
  abbrev pub put : Path → Option TreeValue → Files → Files
  put [] value files path = files_at value path
  put (name ∷ rest) value files [] = if is_some value then None else files []
  put (name ∷ rest) value files (other ∷ path) =
      if bytes_eq name other then put rest value (λ below. files (other ∷ below)) path
      else files (other ∷ path)

  -- the files after changes, one after the other
  abbrev pub changed : List Change → Files → Files
  changed [] files = files
  changed (change ∷ changes) files = changed changes (put change.0 change.1 files)

-- a tree and its changes
pub record TreeBuilderValue : Type 0 where
  pub base : List ℕ
  pub changes : List Change
