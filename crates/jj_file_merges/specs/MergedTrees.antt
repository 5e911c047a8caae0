-- The outcomes of the conflicts of a merge of trees.
-- Cited by contracts of public items: AddsFiles, AddsFilesAndTrees, IsConflictsError, IsOutcome,
-- outcome_value.
use Rattle.std.specs.Prelude.{◌≡◌, ◌⊎◌, ℕ, List, [], Option, Some, None, Any}
use Rattle.jj_paths.specs.Paths.{Path}
use Rattle.jj_merges.specs.declared.merge.SameChange.{SameChange}
use Rattle.jj_backend.specs.MergedTreeValues.{Values, file_id_of, parts}
use Rattle.jj_backend.specs.Objects.{ById, Object, Objects, file_object}
use Rattle.jj_backend.specs.Trees.{Entries}
use Rattle.jj_backend.specs.declared.backend.errors.BackendError.{BackendError}
use Rattle.jj_backend.specs.declared.backend.errors.BackendError.TheVariants.{Memory}
use Rattle.jj_backend.specs.declared.backend.tree_value.TreeValue.{TreeValue}
use Rattle.jj_backend.specs.declared.backend.tree_value.TreeValue.TheVariants.{File, Symlink, Tree, GitSubmodule}
use Rattle.jj_content_merges.specs.declared.files.FileMergeHunkLevel.{FileMergeHunkLevel}
use Rattle.jj_conflicts.specs.declared.conflicts.ConflictMarkerStyle.{ConflictMarkerStyle}
use Rattle.jj_file_merges.specs.Markings.{IsMarkedContent, IsMarkingError, has_executable_side}
use Rattle.jj_file_merges.specs.Resolutions.{IsFileResolution, IsResolutionError}
use Rattle.jj_file_merges.specs.declared.trees.Outcome.{Outcome}
use Rattle.jj_file_merges.specs.declared.trees.Outcome.TheVariants.{Merged, Marked, Unresolved}

-- the value that is written at the path of a conflict
abbrev pub outcome_value : Outcome → Option TreeValue
outcome_value (Merged value) = Some value
outcome_value (Marked value) = Some value
outcome_value Unresolved = None

module _ (files : ById (List ℕ)) (level : FileMergeHunkLevel) (same : SameChange) where
  -- the file with the conflicts of the values between markers
  abbrev pub IsMarkedFile : ConflictMarkerStyle → Values → List (List ℕ) → TreeValue → Type 0
  IsMarkedFile style values labels (File id executable copy_id) =
      ((content : List ℕ) × (files id ≡ Some content)
      × IsMarkedContent files level same style values labels (Some content))
      × (executable ≡ has_executable_side values) × (copy_id ≡ [])
  IsMarkedFile style values labels (Symlink id) = ⊥
  IsMarkedFile style values labels (Tree id) = ⊥
  IsMarkedFile style values labels (GitSubmodule id) = ⊥

  -- the outcome of values that do not resolve to a file
  abbrev pub IsConflictOutcome : Option ConflictMarkerStyle → Values → List (List ℕ) → Outcome
      → Type 0
  IsConflictOutcome style values labels (Merged value) = ⊥
  IsConflictOutcome None values labels (Marked value) = ⊥
  IsConflictOutcome (Some style) values labels (Marked value) =
      IsMarkedFile style values labels value
  IsConflictOutcome None values labels Unresolved = Unit {0}
  IsConflictOutcome (Some style) values labels Unresolved = parts file_id_of values ≡ None

  -- the outcome of a conflict: the file that its values resolve to; or else, if there is a style
  -- and all values are files or absent, the file with markers
  abbrev pub IsOutcome : Option ConflictMarkerStyle → Path × Values × List (List ℕ) → Outcome
      → Type 0
  IsOutcome style conflict (Merged value) =
      IsFileResolution files level same conflict.1 (Some value)
  IsOutcome style conflict (Marked value) = IsFileResolution files level same conflict.1 None
      × IsConflictOutcome style conflict.1 conflict.2 (Marked value)
  IsOutcome style conflict Unresolved = IsFileResolution files level same conflict.1 None
      × IsConflictOutcome style conflict.1 conflict.2 Unresolved

-- the new objects are the old ones and possibly further files
pub record AddsFiles (old new : Objects) : Type 0 where
  pub kept : (id content : List ℕ) → old.files id ≡ Some content → new.files id ≡ Some content
  pub others : new ≡ record old { files = new.files }

-- the new objects are the old ones and possibly further files and trees
pub record AddsFilesAndTrees (old new : Objects) : Type 0 where
  pub files : (id content : List ℕ) → old.files id ≡ Some content → new.files id ≡ Some content
  pub trees : (id : List ℕ) (entries : Entries) → old.trees id ≡ Some entries
      → new.trees id ≡ Some entries
  pub others : new ≡ record old { files = new.files; trees = new.trees }

-- the terms of a conflict and their labels, at a path
abbrev pub PathConflict : Type 0
PathConflict = Path × Values × List (List ℕ)

-- ---- errors

module _ {B : Type 0} (objects : B → Objects) (may_fail : B → BackendError → Type 0)
    (may_fail_to_write : B → Object → BackendError → Type 0) (level : FileMergeHunkLevel)
    (same : SameChange) where
  -- the error of a read of the values, or of the write of the content with markers
  abbrev pub IsMarkError : ConflictMarkerStyle → B → PathConflict → BackendError → Type 0
  IsMarkError style store conflict e =
      IsMarkingError (objects store).files (may_fail store) conflict.1 e
      ⊎ ((content : List ℕ) × IsMarkedContent (objects store).files level same style conflict.1
      conflict.2 (Some content) × may_fail_to_write store (file_object content) e)

  -- the errors of a conflict with markers in this style; none without a style
  abbrev pub IsStyleError : Option ConflictMarkerStyle → B → PathConflict → BackendError → Type 0
  IsStyleError None store conflict e = ⊥
  IsStyleError (Some style) store conflict e = IsMarkError style store conflict e

  -- the error of resolving the values of a conflict, or of writing them with markers, in a store
  -- with the old objects and possibly further files
  abbrev pub IsConflictError : Option ConflictMarkerStyle → B → PathConflict → BackendError → Type 0
  IsConflictError style old conflict e =
      (store : B) × AddsFiles (objects old) (objects store)
      × (IsResolutionError (objects store).files level same (may_fail store)
      (may_fail_to_write store) conflict.1 e ⊎ IsStyleError style store conflict e)

  -- out of memory, or the error of one of the conflicts
  abbrev pub IsConflictsError : Option ConflictMarkerStyle → B → List PathConflict → BackendError
      → Type 0
  IsConflictsError style old conflicts e =
      (e ≡ Memory) ⊎ Any (λ conflict. IsConflictError style old conflict e) conflicts
