-- The contents of files in a store, and their merge.
-- Machinery of private functions and fields.
use Rattle.std.specs.Prelude.{◌≡◌, ◌⊎◌, ℕ, List, Option, Some, None, Contains}
use Rattle.std.specs.Bool.{MatchBool}
use Rattle.std.specs.List.{AllZip}
use Rattle.jj_merges.specs.declared.merge.SameChange.{SameChange}
use Rattle.jj_backend.specs.Errors.{is_not_found}
use Rattle.jj_backend.specs.Objects.{ById}
use Rattle.jj_backend.specs.declared.backend.errors.BackendError.{BackendError}
use Rattle.jj_backend.specs.declared.backend.errors.BackendError.TheVariants.{Memory}
use Rattle.jj_content_merges.specs.declared.files.FileMergeHunkLevel.{FileMergeHunkLevel}
use Rattle.jj_content_merges.specs.Files.{IsContentMerge, tried_outcome}

-- the files with these ids have these contents
abbrev pub AreContents : ById (List ℕ) → List (List ℕ) → List (List ℕ) → Type 0
AreContents files ids contents = AllZip (λ id content. files id ≡ Some content) ids contents

-- the content that the files with these ids merge to by hunks, or None if a conflict is left
pub record IsMergedContent (files : ById (List ℕ)) (level : FileMergeHunkLevel) (same : SameChange)
    (ids : List (List ℕ)) (outcome : Option (List ℕ)) : Type 0 where
  pub contents : List (List ℕ)
  pub stored : AreContents files ids contents
  pub hunks : List (List (List ℕ))
  pub merge : IsContentMerge level same contents hunks
  pub outcome_is : outcome ≡ tried_outcome hunks

-- the errors of reading the files with these ids: out of memory, or a failed read of one,
-- ObjectNotFound only if it is missing
abbrev pub IsReadError : ById (List ℕ) → (BackendError → Type 0) → List (List ℕ) → BackendError
    → Type 0
IsReadError files may_fail ids e =
    (e ≡ Memory)
    ⊎ ((id : List ℕ) × Contains ids id × MatchBool (is_not_found e) (files id ≡ None) (may_fail e))
