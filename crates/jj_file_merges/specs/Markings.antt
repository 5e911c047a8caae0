-- The content of a file whose conflicts are between markers.
-- Cited by contracts of public items: IsMarkedContent, IsMarkingError.
use Rattle.std.specs.Prelude.{◌≡◌, ◌⊎◌, ℕ, Bool, false, List, [], Option, Some, None, Contains}
use Rattle.std.specs.Bool.{MatchBool}
use Rattle.std.specs.List.{AllZip, list_any}
use Rattle.jj_merges.specs.Labels.{labels_as_merge}
use Rattle.jj_merges.specs.Merge.{adds}
use Rattle.jj_merges.specs.declared.merge.SameChange.{SameChange}
use Rattle.jj_backend.specs.Errors.{is_not_found}
use Rattle.jj_backend.specs.MergedTreeValues.{Values, file_id_of, parts}
use Rattle.jj_backend.specs.Objects.{ById}
use Rattle.jj_backend.specs.declared.backend.errors.BackendError.{BackendError}
use Rattle.jj_backend.specs.declared.backend.errors.BackendError.TheVariants.{Memory}
use Rattle.jj_backend.specs.declared.backend.tree_value.TreeValue.{TreeValue}
use Rattle.jj_backend.specs.declared.backend.tree_value.TreeValue.TheVariants.{File, Symlink, Tree, GitSubmodule}
use Rattle.jj_content_merges.specs.Files.{IsMergeResult}
use Rattle.jj_content_merges.specs.declared.files.FileMergeHunkLevel.{FileMergeHunkLevel}
use Rattle.jj_content_merges.specs.declared.files.MergeResult.{MergeResult}
use Rattle.jj_content_merges.specs.declared.files.MergeResult.TheVariants.{Resolved, Conflict}
use Rattle.jj_conflicts.specs.Contents.{contents}
use Rattle.jj_conflicts.specs.Markers.{chosen_marker_len}
use Rattle.jj_conflicts.specs.Rendering.{IsRendered}
use Rattle.jj_conflicts.specs.declared.conflicts.ConflictMarkerStyle.{ConflictMarkerStyle}

-- the content of a term: empty for an absent one, else that of the file with the id
abbrev pub IsTermContent : ById (List ℕ) → Option (List ℕ) → List ℕ → Type 0
IsTermContent files None content = content ≡ []
IsTermContent files (Some id) content = files id ≡ Some content

-- the merged content, or the rendered hunks with markers of the chosen length
abbrev pub IsShown : ConflictMarkerStyle → List (List ℕ) → MergeResult → List ℕ → Type 0
IsShown style labels (Resolved text) content = content ≡ text.items
IsShown style labels (Conflict hunks) content =
    IsRendered style (chosen_marker_len (contents hunks.items)) (labels_as_merge labels)
    (contents hunks.items) content

-- the contents are merged by hunks, and the conflicts rendered
pub record IsMarkedMerge (level : FileMergeHunkLevel) (same : SameChange)
    (style : ConflictMarkerStyle) (labels terms : List (List ℕ)) (content : List ℕ) : Type 0 where
  pub merged : MergeResult
  pub merge : IsMergeResult level same terms merged
  pub shown : IsShown style labels merged content

-- the content for the values at a path, or None if a value is no file
abbrev pub IsMarkedContent : ById (List ℕ) → FileMergeHunkLevel → SameChange → ConflictMarkerStyle
    → Values → List (List ℕ) → Option (List ℕ) → Type 0
IsMarkedContent files level same style values labels None = parts file_id_of values ≡ None
IsMarkedContent files level same style values labels (Some content) =
    (ids : List (Option (List ℕ))) × (terms : List (List ℕ)) × (parts file_id_of values ≡ Some ids)
    × AllZip (IsTermContent files) ids terms
    × IsMarkedMerge level same style labels terms content

-- the errors of reading the content of a term: out of memory, or a failed read, ObjectNotFound only
-- if the file is missing
abbrev pub IsTermError : ById (List ℕ) → (BackendError → Type 0) → Option (List ℕ) → BackendError
    → Type 0
IsTermError files may_fail None e = e ≡ Memory
IsTermError files may_fail (Some id) e =
    (e ≡ Memory) ⊎ MatchBool (is_not_found e) (files id ≡ None) (may_fail e)

-- the errors of reading the contents of terms
abbrev pub IsTermsError : ById (List ℕ) → (BackendError → Type 0) → List (Option (List ℕ))
    → BackendError → Type 0
IsTermsError files may_fail ids e =
    (e ≡ Memory)
    ⊎ ((id : List ℕ) × Contains ids (Some id)
    × MatchBool (is_not_found e) (files id ≡ None) (may_fail e))

-- the errors: out of memory, or the failed read of a file of the values
abbrev pub IsMarkingError : ById (List ℕ) → (BackendError → Type 0) → Values → BackendError → Type 0
IsMarkingError files may_fail values e =
    (e ≡ Memory)
    ⊎ ((ids : List (Option (List ℕ))) × (parts file_id_of values ≡ Some ids)
    × IsTermsError files may_fail ids e)

-- the value is an executable file
abbrev pub is_executable : Option TreeValue → Bool
is_executable None = false
is_executable (Some (File id executable copy_id)) = executable
is_executable (Some (Symlink id)) = false
is_executable (Some (Tree id)) = false
is_executable (Some (GitSubmodule id)) = false

-- a side of the merge is an executable file
abbrev pub has_executable_side : Values → Bool
has_executable_side values = list_any is_executable (adds values)
