-- The file that the values at one path resolve to, and the errors of resolving them.
-- Cited by contracts of public items: IsFileResolution, IsResolutionError, WritesResolution.
use Rattle.std.specs.Prelude.{◌≡◌, ◌⊎◌, ℕ, Bool, List, Option, Some, None, map}
use Rattle.std.specs.Str.{bytes_eq}
use Rattle.std.proofs.Math.Bool.{beq}
use Rattle.jj_merges.specs.declared.merge.SameChange.{SameChange}
use Rattle.jj_merges.specs.Resolution.{ResolvesTo}
use Rattle.jj_backend.specs.MergedTreeValues.{Values}
use Rattle.jj_backend.specs.Objects.{AddsFile, ById, Object, Objects, file_object}
use Rattle.jj_backend.specs.declared.backend.errors.BackendError.{BackendError}
use Rattle.jj_backend.specs.declared.backend.errors.BackendError.TheVariants.{Memory}
use Rattle.jj_backend.specs.declared.backend.tree_value.TreeValue.{TreeValue}
use Rattle.jj_backend.specs.declared.backend.tree_value.TreeValue.TheVariants.{File, Symlink, Tree, GitSubmodule}
use Rattle.jj_content_merges.specs.declared.files.FileMergeHunkLevel.{FileMergeHunkLevel}
use Rattle.jj_file_merges.specs.FileTerms.{AreFiles, HasOther}
use Rattle.jj_file_merges.specs.Contents.{IsMergedContent, IsReadError}
use Rattle.jj_file_merges.specs.declared.terms.FileTerm.{FileTerm}

-- the signed counts of the terms decide no value
abbrev pub IsUndecided : {T : Type 0} → (T → T → Bool) → SameChange → List T → Type 0
IsUndecided {T} eq same values = (v : T) → ResolvesTo eq same values v → ⊥

-- the value that the signed counts decide, or None
abbrev pub IsDecision : {T : Type 0} → (T → T → Bool) → SameChange → List T → Option T → Type 0
IsDecision eq same values None = IsUndecided eq same values
IsDecision eq same values (Some v) = ResolvesTo eq same values v

module _ (files : ById (List ℕ)) (level : FileMergeHunkLevel) (same : SameChange) where
  -- the merged file: the id that the ids resolve to, or else that of the merged content; None if a
  -- conflict is left
  abbrev pub IsMergedFile : List (List ℕ) → Option (List ℕ) → Type 0
  IsMergedFile ids None =
      IsUndecided bytes_eq same ids × IsMergedContent files level same ids None
  IsMergedFile ids (Some id) =
      ResolvesTo bytes_eq same ids id
      ⊎ ((content : List ℕ) × IsUndecided bytes_eq same ids
      × IsMergedContent files level same ids (Some content) × (files id ≡ Some content))

  -- the files do not resolve: their executable bits, their copy ids or their contents are in
  -- conflict
  abbrev pub IsFileConflict : List FileTerm → Type 0
  IsFileConflict terms =
      IsUndecided beq same (map (λ term. term.executable) terms)
      ⊎ IsUndecided bytes_eq same (map (λ term. term.copy_id) terms)
      ⊎ IsMergedFile (map (λ term. term.id) terms) None

  -- the resolution of values at a path: the file of the merged fields, or None if a value is no
  -- file or the files do not resolve
  abbrev pub IsFileResolution : Values → Option TreeValue → Type 0
  IsFileResolution values None =
      HasOther values ⊎ ((terms : List FileTerm) × AreFiles values terms × IsFileConflict terms)
  IsFileResolution values (Some (File id executable copy_id)) =
      (terms : List FileTerm) × AreFiles values terms
      × ResolvesTo beq same (map (λ term. term.executable) terms) executable
      × ResolvesTo bytes_eq same (map (λ term. term.copy_id) terms) copy_id
      × IsMergedFile (map (λ term. term.id) terms) (Some id)
  IsFileResolution values (Some (Symlink id)) = ⊥
  IsFileResolution values (Some (Tree id)) = ⊥
  IsFileResolution values (Some (GitSubmodule id)) = ⊥

-- nothing was written, or only the content of the file that is returned
abbrev pub WritesResolution : Objects → Objects → Option TreeValue → Type 0
WritesResolution old new value =
    (new ≡ old)
    ⊎ ((id : List ℕ) × (content : List ℕ) × (copy_id : List ℕ) × (executable : Bool)
    × (value ≡ Some (File id executable copy_id)) × AddsFile old new id content)

-- the errors of merging the contents of the files with these ids: that of a read, or of the write
-- of the merged content
abbrev pub IsFileError : ById (List ℕ) → FileMergeHunkLevel → SameChange
    → (may_fail : BackendError → Type 0) → (may_fail_to_write : Object → BackendError → Type 0)
    → List (List ℕ) → BackendError → Type 0
IsFileError files level same may_fail may_fail_to_write ids e =
    IsReadError files may_fail ids e
    ⊎ ((content : List ℕ) × IsMergedContent files level same ids (Some content)
    × may_fail_to_write (file_object content) e)

-- the errors: out of memory, or that of merging the contents of the files that the values are
abbrev pub IsResolutionError : ById (List ℕ) → FileMergeHunkLevel → SameChange
    → (may_fail : BackendError → Type 0) → (may_fail_to_write : Object → BackendError → Type 0)
    → Values → BackendError → Type 0
IsResolutionError files level same may_fail may_fail_to_write values e =
    (e ≡ Memory)
    ⊎ ((terms : List FileTerm) × AreFiles values terms
    × IsFileError files level same may_fail may_fail_to_write (map (λ term. term.id) terms) e)
