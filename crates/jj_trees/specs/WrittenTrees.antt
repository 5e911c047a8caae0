-- The tree that a merge is written as: the values at its paths, and the errors of writing it.
-- Cited by contracts of public items: AddsTrees, IsTreeOf, IsWriteBackError, values_to_write.
use Rattle.std.specs.Prelude.{◌≡◌, ◌⊎◌, ℕ, ◌<◌, List, [], ◌∷◌, ◌++◌, length}
use Rattle.std.specs.Prelude.{Option, Some, None, All, AllPairs, Any, Contains}
use Rattle.std.specs.Global.{Global}
use Rattle.std.specs.declared.string.String.{String}
use Rattle.jj_files.specs.declared.file_util.errors.SourceKind.TheVariants.{Data}
use Rattle.jj_paths.specs.Paths.{Name, Path, IsBelow}
use Rattle.jj_backend.specs.Errors.{IsOtherOf}
use Rattle.jj_backend.specs.Objects.{ById, Object, Objects, tree_object}
use Rattle.jj_backend.specs.Trees.{Entries}
use Rattle.jj_backend.specs.MergedTreeValues.{Values}
use Rattle.jj_backend.specs.declared.backend.tree_value.TreeValue.{TreeValue}
use Rattle.jj_backend.specs.declared.backend.tree_value.TreeValue.TheVariants.{Tree}
use Rattle.jj_backend.specs.declared.backend.errors.BackendError.{BackendError}
use Rattle.jj_backend.specs.declared.backend.errors.BackendError.TheVariants.{Memory, Unsupported}
use Rattle.jj_trees.specs.TreeMerges.{child}

-- paths with their values
abbrev pub PathValues : Type 0
PathValues = List (Path × TreeValue)

-- the values chosen for the conflicts, without those that are absent
abbrev pub chosen_values : List (Path × Values × List (List ℕ)) → List (Option TreeValue)
    → PathValues
chosen_values [] chosen = []
chosen_values (conflict ∷ conflicts) [] = []
chosen_values (conflict ∷ conflicts) (None ∷ chosen) = chosen_values conflicts chosen
chosen_values (conflict ∷ conflicts) (Some value ∷ chosen) =
    (conflict.0, value) ∷ chosen_values conflicts chosen

-- the values to write: those of the resolved paths, and those chosen for the conflicts
abbrev pub values_to_write : PathValues → List (Path × Values × List (List ℕ))
    → List (Option TreeValue) → PathValues
values_to_write resolved conflicts chosen = resolved ++ chosen_values conflicts chosen

-- no path is the root, another path, or an ancestor of another path
pub record IsPrefixFree (values : PathValues) : Type 0 where
  pub not_root : All (λ v. v.0 ≡ [] → ⊥) values
  pub apart : AllPairs (λ v w. (IsBelow v.0 w.0 → ⊥) × (IsBelow w.0 v.0 → ⊥)) values

module _ (trees : ById Entries) where
  -- the value at a path relative to a value; None below a value that is not a tree
  abbrev pub stored_at : Option TreeValue → Path → Option TreeValue
  stored_at value [] = value
  stored_at value (name ∷ rest) = stored_at (child trees name value) rest

  -- the tree with this id has each value at its path, and nothing at a path that is neither at,
  -- above nor below one of theirs
  pub record IsTreeOf (values : PathValues) (id : List ℕ) : Type 0 where
    pub has : (path : Path) (value : TreeValue) → Contains values (path, value)
        → stored_at (Some (Tree id)) path ≡ Some value
    pub only : (name : Name) (rest : Path) (value : TreeValue)
        → stored_at (Some (Tree id)) (name ∷ rest) ≡ Some value
        → Any (λ v. IsBelow v.0 (name ∷ rest) ⊎ IsBelow (name ∷ rest) v.0) values

-- the new objects are the old ones and possibly further trees
pub record AddsTrees (old new : Objects) : Type 0 where
  pub kept : (id : List ℕ) (entries : Entries) → old.trees id ≡ Some entries
      → new.trees id ≡ Some entries
  pub others : new ≡ record old { trees = new.trees }

-- the number of levels of directories that are written
abbrev pub written_levels : ℕ
written_levels = 1024

module _ {B : Type 0} (objects : B → Objects)
    (may_fail_to_write : B → Object → BackendError → Type 0) where
  -- the write of a tree fails, of a backend with the old objects and possibly further trees
  abbrev pub IsTreeWriteError : B → BackendError → Type 0
  IsTreeWriteError old e = (now : B) × (tree : Entries) × AddsTrees (objects old) (objects now)
      × may_fail_to_write now (tree_object tree) e

  -- the errors of writing values: out of memory; Other for paths that are not prefix-free;
  -- Unsupported for a path of too many names; or that of a write of a tree
  abbrev pub IsWriteBackError : B → PathValues → BackendError → Type 0
  IsWriteBackError old values e =
      (e ≡ Memory)
      ⊎ (IsOtherOf Data e × (IsPrefixFree values → ⊥))
      ⊎ ((message : String Global) × (e ≡ Unsupported message)
      × Any (λ v. written_levels < length v.0) values)
      ⊎ IsTreeWriteError old e
