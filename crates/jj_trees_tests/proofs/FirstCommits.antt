-- The tree of a commit that is read back, and errors of writing an unsigned commit.
use Rattle.std.proofs.Common.{◌≡◌, ◌⊎◌, inl, inr, ℕ, Bool, cond, List, [], ◌∷◌, Some, Result, Ok, Err, refl, sym, ap, subst, ◌∙◌}
use Rattle.std.specs.Cmp.Lexicographic.{bytes_decides}
use Rattle.std.specs.Prelude.{IfOk}
use Rattle.jj_backend.specs.Objects.{AddsCommit, AddsTree, IsRead, Object, Objects, commit_object}
use Rattle.jj_backend.specs.Records.{CommitValue}
use Rattle.jj_backend.specs.Trees.{Entries}
use Rattle.jj_backend.specs.declared.backend.errors.BackendError.{BackendError}
use Rattle.jj_trees_tests.specs.Writes.{IsBackendFailure}

module _ (old next new : Objects) (tree_id : List ℕ) (tree : Entries) (id : List ℕ) (stored : CommitValue)
    (adds_tree : AddsTree old next tree_id tree) (adds_commit : AddsCommit next new id stored) (has_tree : stored.root_tree ≡ tree_id ∷ []) where
  stored_commit : new.commits id ≡ Some stored
  stored_commit = ap (λ o. o.commits id) adds_commit.1 ∙ ap (λ (b : Bool). cond b (Some stored) (next.commits id)) ((bytes_decides id id).1 refl)

  stored_tree : new.trees tree_id ≡ Some tree
  stored_tree =
      ap (λ o. o.trees tree_id) adds_commit.1 ∙ ap (λ o. o.trees tree_id) adds_tree.1
      ∙ ap (λ (b : Bool). cond b (Some tree) (old.trees tree_id)) ((bytes_decides tree_id tree_id).1 refl)

  -- a commit that is read back has the tree that was written before it
  pub has_written_tree : (May : BackendError → Type 0) (r : Result CommitValue BackendError) → IsRead May (new.commits id) (λ c. c) r
      → IfOk r (λ read. (t : List ℕ) × (read.root_tree ≡ t ∷ []) × (new.trees t ≡ Some tree))
  has_written_tree May (Ok read) found =
      let both : Some stored ≡ Some read = sym stored_commit ∙ found in
      let same : stored ≡ read = cc in
      (tree_id, subst (λ c. c.root_tree ≡ tree_id ∷ []) same has_tree, stored_tree)
  has_written_tree May (Err e) missing = tt

-- an error of an unsigned commit is one of writing the commit
pub unsigned_failure : {B : Type 0} (may_fail : B → BackendError → Type 0) (may_fail_to_write : B → Object → BackendError → Type 0) (state : B) (commit : CommitValue) (e : BackendError)
    → may_fail_to_write state (commit_object commit) e ⊎ ⊥ ⊎ ((stored : CommitValue) × (stored ≡ commit) × may_fail_to_write state (commit_object stored) e)
    → IsBackendFailure may_fail may_fail_to_write e
unsigned_failure may_fail may_fail_to_write state commit e (inl failed) = (state, inr (commit_object commit, failed))
unsigned_failure may_fail may_fail_to_write state commit e (inr (inl never)) = absurd never
unsigned_failure may_fail may_fail_to_write state commit e (inr (inr stored)) = (state, inr (commit_object stored.0, stored.2))
