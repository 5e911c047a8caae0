-- The directories that a walk of a tree enters, and the errors of reading them.
-- Cited by contracts of public items: IsEntered, IsWalkError.
use Rattle.std.specs.Prelude.{◌≡◌, ◌⊎◌, ℕ, true, List, [], ◌++◌, length}
use Rattle.std.specs.Prelude.{IsSomeAnd, Option, Some, None, Result, Ok, Err}
use Rattle.std.specs.Bool.{MatchBool}
use Rattle.std.specs.Global.{Global}
use Rattle.std.specs.declared.string.String.{String}
use Rattle.jj_paths.specs.Paths.{Path}
use Rattle.jj_backend.specs.Objects.{ById}
use Rattle.jj_backend.specs.Errors.{is_not_found}
use Rattle.jj_backend.specs.Trees.{Entries}
use Rattle.jj_backend.specs.declared.backend.tree_value.TreeValue.{TreeValue}
use Rattle.jj_backend.specs.declared.backend.tree_value.TreeValue.TheVariants.{Tree}
use Rattle.jj_backend.specs.declared.backend.errors.BackendError.{BackendError}
use Rattle.jj_backend.specs.declared.backend.errors.BackendError.TheVariants.{Memory, Unsupported}
use Rattle.jj_trees.specs.WrittenTrees.{stored_at}
use Rattle.jj_matchers.specs.VisitSpecs.{VisitSpec}
use Rattle.jj_matchers.specs.Walk.{walk_enters}

module _ (trees : ById Entries) where
  -- the value at `dir` has, at this path below it, a directory with this tree, and the visits lead
  -- from the root to that directory
  abbrev pub IsEntered : (Path → VisitSpec) → Path → Option TreeValue → Path → List ℕ → Type 0
  IsEntered visits dir value path id = (stored_at trees value path ≡ Some (Tree id))
      × (walk_enters visits [] (dir ++ path) ≡ true)

  -- `may_read_tree path id result`: reading the tree with this id at this path may return result;
  -- `Entered path id`: the walk of the directory `dir` enters one with this tree at this path
  module _ (may_read_tree : Path → List ℕ → Result Entries BackendError → Type 0)
      (Entered : Path → List ℕ → Type 0) (dir : Path) where
    -- a directory that is entered at this path was found and read
    abbrev pub IsReadIfEntered : Path → Type 0
    IsReadIfEntered path = (id : List ℕ) → Entered path id
        → IsSomeAnd (trees id) (λ entries. may_read_tree (dir ++ path) id (Ok entries))

    -- the errors of a walk: out of memory; a failed read of a directory that is entered,
    -- ObjectNotFound only if the tree is missing; or Unsupported for one that is entered at a path
    -- of this number of names
    abbrev pub IsWalkError : (BackendError → Type 0) → ℕ → BackendError → Type 0
    IsWalkError may_fail levels e =
        (e ≡ Memory)
        ⊎ ((path : Path) × (id : List ℕ) × Entered path id × may_read_tree (dir ++ path) id (Err e)
        × MatchBool (is_not_found e) (trees id ≡ None) (may_fail e))
        ⊎ ((message : String Global) × (path : Path) × (id : List ℕ) × (e ≡ Unsupported message)
        × Entered path id × (length path ≡ levels))
