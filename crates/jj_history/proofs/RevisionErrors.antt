-- Errors of naming a commit, by their cause.
use Rattle.std.proofs.Common.{◌≡◌, ℕ, List, None}
use Rattle.jj_history.specs.Revisions.{IsChoiceError, IsRevisionError, Names, commits_at, ref_commit}
use Rattle.jj_history.specs.declared.error.RevisionError.{RevisionError}
use Rattle.jj_history.specs.declared.error.RevisionError.TheVariants.{Memory, Unknown, Ambiguous}

-- no ref has the name
pub without_ref : (refs git_ids : Names) (ids : List (List ℕ)) (revision : List ℕ) → ref_commit refs revision ≡ None
    → (error : RevisionError) → IsChoiceError (commits_at git_ids ids revision) revision error → IsRevisionError refs git_ids ids revision error
without_ref refs git_ids ids revision no_ref Memory is = tt
without_ref refs git_ids ids revision no_ref (Unknown quoted) is = (no_ref, is.0, is.1)
without_ref refs git_ids ids revision no_ref (Ambiguous quoted) is = (no_ref, is.0, is.1)
