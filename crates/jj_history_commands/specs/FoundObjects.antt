-- Trees that a store has with all that they lead to.
-- Cited by contracts of public items: AreWhole, HasTrees.
use Rattle.std.specs.Prelude.{◌≡◌, ℕ, List, ◌++◌, All, Contains, Some}
use Rattle.jj_backend.specs.Objects.{Objects}
use Rattle.jj_backend.specs.Trees.{Entries}
use Rattle.jj_backend.specs.declared.backend.tree_value.TreeValue.{TreeValue}
use Rattle.jj_backend.specs.declared.backend.tree_value.TreeValue.TheVariants.{File, Symlink, Tree, GitSubmodule}
use Rattle.jj_store_walks.specs.declared.read_commit.ReadCommit.{ReadCommit}

-- each element of the first list is one of the second
abbrev pub AreAmong : List (List ℕ) → List (List ℕ) → Type 0
AreAmong keys ids = All (Contains ids) keys

-- the second list begins with the first
abbrev pub IsPrefix : List (List ℕ) → List (List ℕ) → Type 0
IsPrefix old new = (more : List (List ℕ)) × (new ≡ old ++ more)

module _ (store : Objects) where
  abbrev pub IsStoredFile : List ℕ → Type 0
  IsStoredFile id = (content : List ℕ) × (store.files id ≡ Some content)

  abbrev pub AreStoredFiles : List (List ℕ) → Type 0
  AreStoredFiles ids = All IsStoredFile ids

  -- the store has the file or the link, or the tree is one of the list
  abbrev pub IsThere : List (List ℕ) → TreeValue → Type 0
  IsThere trees (File id executable copy_id) = IsStoredFile id
  IsThere trees (Symlink id) = (target : List ℕ) × (store.symlinks id ≡ Some target)
  IsThere trees (Tree id) = Contains trees id
  IsThere trees (GitSubmodule id) = Unit {0}

  -- the store has the tree, and the objects that its entries name
  abbrev pub IsWhole : List (List ℕ) → List ℕ → Type 0
  IsWhole trees id = (entries : Entries) × (store.trees id ≡ Some entries)
      × All (λ entry. IsThere trees entry.1) entries

  -- the store has each tree of the list, its files and its links, and the list has its subtrees
  abbrev pub AreWhole : List (List ℕ) → Type 0
  AreWhole trees = All (IsWhole trees) trees

-- the list has the root trees of the commits
abbrev pub HasTrees : List (List ℕ) → List ReadCommit → Type 0
HasTrees trees commits = All (λ read. All (Contains trees) read.commit.root_tree) commits
