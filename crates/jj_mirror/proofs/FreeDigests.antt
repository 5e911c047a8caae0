-- A digest is free or that of the object, or a different object of the same kind has it.
use Rattle.std.proofs.Common.{◌≡◌, ◌≢◌, ◌∙◌, ◌⊎◌, inl, inr, ℕ, List, [], Option, Some, None, Result, Ok, Err, IfOk, refl, sym, ap, subst}
use Rattle.jj_content.specs.Blake2b.{blake2b}
use Rattle.jj_content.specs.Content.{string_content}
use Rattle.jj_files.specs.declared.file_util.errors.SourceKind.TheVariants.{Other as OtherKind}
use Rattle.jj_backend.specs.Contents.{bytes_content, copy_history_content, commit_content}
use Rattle.jj_backend.specs.Errors.{IsOtherOf}
use Rattle.jj_backend.specs.Objects.{Object, file_object, symlink_object, copy_object, tree_object, commit_object, Objects, IsFree}
use Rattle.jj_backend.specs.Records.{CopyHistoryValue, CommitValue}
use Rattle.jj_backend.specs.TreeLaws.{tree_content}
use Rattle.jj_backend.specs.Trees.{Entries}
use Rattle.jj_backend.specs.declared.backend.errors.BackendError.{BackendError}
use Rattle.jj_backend.specs.declared.backend.errors.BackendError.TheVariants.{Memory}
use Rattle.jj_trees.specs.MemoryObjects.{MemoryBackendValue, objects_of, by_id, object_id, digest_length, IsStoreError, IsTakenByOther}
use Rattle.jj_trees.specs.Signing.{IsCommitIdTaken}
use Rattle.jj_mirror.specs.Entries.{LogEntryValue, entry_of}
use Rattle.jj_mirror.specs.Logs.{AppendsOnce, IsLogFailure}
use Rattle.jj_mirror.specs.Objects.{Stores, IsDigestTaken}
use Rattle.jj_mirror.proofs.WholeDigests.{whole_digest}

is_same : {V : Type 0} (o : Option V) (v w : V) → (o ≡ None) ⊎ (o ≡ Some v) → o ≡ Some w → w ≡ v
is_same o v w (inl none) there = absurd (let e = sym none ∙ there in cc)
is_same o v w (inr some) there = let e = sym there ∙ some in cc

file_same : (o : Objects) (v : List ℕ) → IsFree o.files (blake2b (bytes_content v)) v → (other : Object) → (entry_of other).kind ≡ (entry_of (file_object v)).kind
    → Stores o (blake2b (bytes_content v)) other → other ≡ file_object v
file_same o v free (file_object w) kind there = ap file_object (is_same (o.files (blake2b (bytes_content v))) v w free there)
file_same o v free (symlink_object w) kind there = absurd (let e = kind in cc)
file_same o v free (copy_object w) kind there = absurd (let e = kind in cc)
file_same o v free (tree_object w) kind there = absurd (let e = kind in cc)
file_same o v free (commit_object w) kind there = absurd (let e = kind in cc)

pub file_free : (o : Objects) (v : List ℕ) → IsFree o.files (blake2b (bytes_content v)) v → ¬ (IsDigestTaken o (file_object v))
file_free o v free taken = taken.3 (file_same o v free taken.0 taken.1 taken.2)

pub file_taken : (b : MemoryBackendValue) (v : List ℕ) (e : BackendError) → IsStoreError b.files (blake2b (bytes_content v)) v e
    → (e ≡ Memory) ⊎ (IsOtherOf OtherKind e × IsDigestTaken (objects_of b) (file_object v))
file_taken b v e (inl memory) = inl memory
file_taken b v e (inr other) = inr (other.0, (file_object other.1.0, refl, other.1.1, λ is. other.1.2 (let same = is in cc)))

pub file_memory : (b : MemoryBackendValue) (v : List ℕ) (e : BackendError) → b.id_length ≡ digest_length → ¬ (IsDigestTaken (objects_of b) (file_object v))
    → IsStoreError b.files (object_id b.id_length (bytes_content v)) v e → e ≡ Memory
file_memory b v e whole free failure =
    elim (file_taken b v e (subst (λ (id : List ℕ). IsStoreError b.files id v e) (whole_digest (bytes_content v) b.id_length whole) failure)) [
      | inl memory ↦ memory
      | inr other ↦ absurd (free other.1)
    ]

symlink_same : (o : Objects) (v : List ℕ) → IsFree o.symlinks (blake2b (string_content v)) v → (other : Object) → (entry_of other).kind ≡ (entry_of (symlink_object v)).kind
    → Stores o (blake2b (string_content v)) other → other ≡ symlink_object v
symlink_same o v free (file_object w) kind there = absurd (let e = kind in cc)
symlink_same o v free (symlink_object w) kind there = ap symlink_object (is_same (o.symlinks (blake2b (string_content v))) v w free there)
symlink_same o v free (copy_object w) kind there = absurd (let e = kind in cc)
symlink_same o v free (tree_object w) kind there = absurd (let e = kind in cc)
symlink_same o v free (commit_object w) kind there = absurd (let e = kind in cc)

pub symlink_free : (o : Objects) (v : List ℕ) → IsFree o.symlinks (blake2b (string_content v)) v → ¬ (IsDigestTaken o (symlink_object v))
symlink_free o v free taken = taken.3 (symlink_same o v free taken.0 taken.1 taken.2)

pub symlink_taken : (b : MemoryBackendValue) (v : List ℕ) (e : BackendError) → IsStoreError b.symlinks (blake2b (string_content v)) v e
    → (e ≡ Memory) ⊎ (IsOtherOf OtherKind e × IsDigestTaken (objects_of b) (symlink_object v))
symlink_taken b v e (inl memory) = inl memory
symlink_taken b v e (inr other) = inr (other.0, (symlink_object other.1.0, refl, other.1.1, λ is. other.1.2 (let same = is in cc)))

pub symlink_memory : (b : MemoryBackendValue) (v : List ℕ) (e : BackendError) → b.id_length ≡ digest_length → ¬ (IsDigestTaken (objects_of b) (symlink_object v))
    → IsStoreError b.symlinks (object_id b.id_length (string_content v)) v e → e ≡ Memory
symlink_memory b v e whole free failure =
    elim (symlink_taken b v e (subst (λ (id : List ℕ). IsStoreError b.symlinks id v e) (whole_digest (string_content v) b.id_length whole) failure)) [
      | inl memory ↦ memory
      | inr other ↦ absurd (free other.1)
    ]

copy_same : (o : Objects) (v : CopyHistoryValue) → IsFree o.copies (blake2b (copy_history_content v)) v → (other : Object) → (entry_of other).kind ≡ (entry_of (copy_object v)).kind
    → Stores o (blake2b (copy_history_content v)) other → other ≡ copy_object v
copy_same o v free (file_object w) kind there = absurd (let e = kind in cc)
copy_same o v free (symlink_object w) kind there = absurd (let e = kind in cc)
copy_same o v free (copy_object w) kind there = ap copy_object (is_same (o.copies (blake2b (copy_history_content v))) v w free there)
copy_same o v free (tree_object w) kind there = absurd (let e = kind in cc)
copy_same o v free (commit_object w) kind there = absurd (let e = kind in cc)

pub copy_free : (o : Objects) (v : CopyHistoryValue) → IsFree o.copies (blake2b (copy_history_content v)) v → ¬ (IsDigestTaken o (copy_object v))
copy_free o v free taken = taken.3 (copy_same o v free taken.0 taken.1 taken.2)

pub copy_taken : (b : MemoryBackendValue) (v : CopyHistoryValue) (e : BackendError) → IsStoreError b.copies (blake2b (copy_history_content v)) v e
    → (e ≡ Memory) ⊎ (IsOtherOf OtherKind e × IsDigestTaken (objects_of b) (copy_object v))
copy_taken b v e (inl memory) = inl memory
copy_taken b v e (inr other) = inr (other.0, (copy_object other.1.0, refl, other.1.1, λ is. other.1.2 (let same = is in cc)))

pub copy_memory : (b : MemoryBackendValue) (v : CopyHistoryValue) (e : BackendError) → b.id_length ≡ digest_length → ¬ (IsDigestTaken (objects_of b) (copy_object v))
    → IsStoreError b.copies (object_id b.id_length (copy_history_content v)) v e → e ≡ Memory
copy_memory b v e whole free failure =
    elim (copy_taken b v e (subst (λ (id : List ℕ). IsStoreError b.copies id v e) (whole_digest (copy_history_content v) b.id_length whole) failure)) [
      | inl memory ↦ memory
      | inr other ↦ absurd (free other.1)
    ]

tree_same : (o : Objects) (v : Entries) → IsFree o.trees (blake2b (tree_content v)) v → (other : Object) → (entry_of other).kind ≡ (entry_of (tree_object v)).kind
    → Stores o (blake2b (tree_content v)) other → other ≡ tree_object v
tree_same o v free (file_object w) kind there = absurd (let e = kind in cc)
tree_same o v free (symlink_object w) kind there = absurd (let e = kind in cc)
tree_same o v free (copy_object w) kind there = absurd (let e = kind in cc)
tree_same o v free (tree_object w) kind there = ap tree_object (is_same (o.trees (blake2b (tree_content v))) v w free there)
tree_same o v free (commit_object w) kind there = absurd (let e = kind in cc)

pub tree_free : (o : Objects) (v : Entries) → IsFree o.trees (blake2b (tree_content v)) v → ¬ (IsDigestTaken o (tree_object v))
tree_free o v free taken = taken.3 (tree_same o v free taken.0 taken.1 taken.2)

pub tree_taken : (b : MemoryBackendValue) (v : Entries) (e : BackendError) → IsStoreError b.trees (blake2b (tree_content v)) v e
    → (e ≡ Memory) ⊎ (IsOtherOf OtherKind e × IsDigestTaken (objects_of b) (tree_object v))
tree_taken b v e (inl memory) = inl memory
tree_taken b v e (inr other) = inr (other.0, (tree_object other.1.0, refl, other.1.1, λ is. other.1.2 (let same = is in cc)))

pub tree_memory : (b : MemoryBackendValue) (v : Entries) (e : BackendError) → b.id_length ≡ digest_length → ¬ (IsDigestTaken (objects_of b) (tree_object v))
    → IsStoreError b.trees (object_id b.id_length (tree_content v)) v e → e ≡ Memory
tree_memory b v e whole free failure =
    elim (tree_taken b v e (subst (λ (id : List ℕ). IsStoreError b.trees id v e) (whole_digest (tree_content v) b.id_length whole) failure)) [
      | inl memory ↦ memory
      | inr other ↦ absurd (free other.1)
    ]

commit_same : (o : Objects) (v : CommitValue) → IsFree o.commits (blake2b (commit_content v)) v → (other : Object) → (entry_of other).kind ≡ (entry_of (commit_object v)).kind
    → Stores o (blake2b (commit_content v)) other → other ≡ commit_object v
commit_same o v free (file_object w) kind there = absurd (let e = kind in cc)
commit_same o v free (symlink_object w) kind there = absurd (let e = kind in cc)
commit_same o v free (copy_object w) kind there = absurd (let e = kind in cc)
commit_same o v free (tree_object w) kind there = absurd (let e = kind in cc)
commit_same o v free (commit_object w) kind there = ap commit_object (is_same (o.commits (blake2b (commit_content v))) v w free there)

pub commit_free : (o : Objects) (v : CommitValue) → IsFree o.commits (blake2b (commit_content v)) v → ¬ (IsDigestTaken o (commit_object v))
commit_free o v free taken = taken.3 (commit_same o v free taken.0 taken.1 taken.2)

pub commit_taken : (b : MemoryBackendValue) (v : CommitValue) (e : BackendError) → IsStoreError b.commits (blake2b (commit_content v)) v e
    → (e ≡ Memory) ⊎ (IsOtherOf OtherKind e × IsDigestTaken (objects_of b) (commit_object v))
commit_taken b v e (inl memory) = inl memory
commit_taken b v e (inr other) = inr (other.0, (commit_object other.1.0, refl, other.1.1, λ is. other.1.2 (let same = is in cc)))

pub commit_memory : (b : MemoryBackendValue) (v : CommitValue) (e : BackendError) → b.id_length ≡ digest_length → ¬ (IsDigestTaken (objects_of b) (commit_object v))
    → IsStoreError b.commits (object_id b.id_length (commit_content v)) v e → e ≡ Memory
commit_memory b v e whole free failure =
    elim (commit_taken b v e (subst (λ (id : List ℕ). IsStoreError b.commits id v e) (whole_digest (commit_content v) b.id_length whole) failure)) [
      | inl memory ↦ memory
      | inr other ↦ absurd (free other.1)
    ]

-- ---- an object that is stored: nothing is appended

module _ {L : Type 0} (contains : L → List LogEntryValue → Type 0) (log : L) where
  pub file_stored : (b : MemoryBackendValue) (v digest : List ℕ) → digest ≡ blake2b (bytes_content v) → by_id b.files digest ≡ Some v
      → AppendsOnce contains log log (objects_of b) (file_object v) × ¬ (IsDigestTaken (objects_of b) (file_object v))
  file_stored b v digest is there =
      let here = subst (λ (d : List ℕ). by_id b.files d ≡ Some v) is there in
      (inl (here, refl), file_free (objects_of b) v (inr here))

  pub symlink_stored : (b : MemoryBackendValue) (v digest : List ℕ) → digest ≡ blake2b (string_content v) → by_id b.symlinks digest ≡ Some v
      → AppendsOnce contains log log (objects_of b) (symlink_object v) × ¬ (IsDigestTaken (objects_of b) (symlink_object v))
  symlink_stored b v digest is there =
      let here = subst (λ (d : List ℕ). by_id b.symlinks d ≡ Some v) is there in
      (inl (here, refl), symlink_free (objects_of b) v (inr here))

  pub copy_stored : (b : MemoryBackendValue) (v : CopyHistoryValue) (digest : List ℕ) → digest ≡ blake2b (copy_history_content v) → by_id b.copies digest ≡ Some v
      → AppendsOnce contains log log (objects_of b) (copy_object v) × ¬ (IsDigestTaken (objects_of b) (copy_object v))
  copy_stored b v digest is there =
      let here = subst (λ (d : List ℕ). by_id b.copies d ≡ Some v) is there in
      (inl (here, refl), copy_free (objects_of b) v (inr here))

  pub tree_stored : (b : MemoryBackendValue) (v : Entries) (digest : List ℕ) → digest ≡ blake2b (tree_content v) → by_id b.trees digest ≡ Some v
      → AppendsOnce contains log log (objects_of b) (tree_object v) × ¬ (IsDigestTaken (objects_of b) (tree_object v))
  tree_stored b v digest is there =
      let here = subst (λ (d : List ℕ). by_id b.trees d ≡ Some v) is there in
      (inl (here, refl), tree_free (objects_of b) v (inr here))

  pub commit_stored : (b : MemoryBackendValue) (v : CommitValue) (digest : List ℕ) → digest ≡ blake2b (commit_content v) → by_id b.commits digest ≡ Some v
      → AppendsOnce contains log log (objects_of b) (commit_object v) × ¬ (IsDigestTaken (objects_of b) (commit_object v))
  commit_stored b v digest is there =
      let here = subst (λ (d : List ℕ). by_id b.commits d ≡ Some v) is there in
      (inl (here, refl), commit_free (objects_of b) v (inr here))

-- ---- a failed test, when nothing was logged

module _ {L : Type 0} (contains : L → List LogEntryValue → Type 0) (log : L) (may_fail : L → LogEntryValue → BackendError → Type 0) where
  pub file_failure : (b : MemoryBackendValue) (v : List ℕ) (digest : List ℕ) (e : BackendError) → digest ≡ blake2b (bytes_content v) → IsStoreError b.files digest v e
      → IsLogFailure contains log log may_fail (objects_of b) (file_object v) e
  file_failure b v digest e is failure = (
    λ _ had. had,
    elim (file_taken b v e (subst (λ (d : List ℕ). IsStoreError b.files d v e) is failure)) [
      | inl memory ↦ inl memory
      | inr taken ↦ inr (inr taken)
    ],
  )

  pub symlink_failure : (b : MemoryBackendValue) (v : List ℕ) (digest : List ℕ) (e : BackendError) → digest ≡ blake2b (string_content v) → IsStoreError b.symlinks digest v e
      → IsLogFailure contains log log may_fail (objects_of b) (symlink_object v) e
  symlink_failure b v digest e is failure = (
    λ _ had. had,
    elim (symlink_taken b v e (subst (λ (d : List ℕ). IsStoreError b.symlinks d v e) is failure)) [
      | inl memory ↦ inl memory
      | inr taken ↦ inr (inr taken)
    ],
  )

  pub copy_failure : (b : MemoryBackendValue) (v : CopyHistoryValue) (digest : List ℕ) (e : BackendError) → digest ≡ blake2b (copy_history_content v) → IsStoreError b.copies digest v e
      → IsLogFailure contains log log may_fail (objects_of b) (copy_object v) e
  copy_failure b v digest e is failure = (
    λ _ had. had,
    elim (copy_taken b v e (subst (λ (d : List ℕ). IsStoreError b.copies d v e) is failure)) [
      | inl memory ↦ inl memory
      | inr taken ↦ inr (inr taken)
    ],
  )

  pub tree_failure : (b : MemoryBackendValue) (v : Entries) (digest : List ℕ) (e : BackendError) → digest ≡ blake2b (tree_content v) → IsStoreError b.trees digest v e
      → IsLogFailure contains log log may_fail (objects_of b) (tree_object v) e
  tree_failure b v digest e is failure = (
    λ _ had. had,
    elim (tree_taken b v e (subst (λ (d : List ℕ). IsStoreError b.trees d v e) is failure)) [
      | inl memory ↦ inl memory
      | inr taken ↦ inr (inr taken)
    ],
  )

  pub commit_failure : (b : MemoryBackendValue) (v : CommitValue) (digest : List ℕ) (e : BackendError) → digest ≡ blake2b (commit_content v) → IsStoreError b.commits digest v e
      → IsLogFailure contains log log may_fail (objects_of b) (commit_object v) e
  commit_failure b v digest e is failure = (
    λ _ had. had,
    elim (commit_taken b v e (subst (λ (d : List ℕ). IsStoreError b.commits d v e) is failure)) [
      | inl memory ↦ inl memory
      | inr taken ↦ inr (inr taken)
    ],
  )

-- a failed write of a commit with parents and a free digest, without a signer
pub commit_failed : (b : MemoryBackendValue) (v : CommitValue) (e : BackendError) → b.id_length ≡ digest_length → v.parents ≢ [] → ¬ (IsDigestTaken (objects_of b) (commit_object v))
    → (e ≡ Memory) ⊎ (IsOtherOf OtherKind e × (v.parents ≡ [])) ⊎ ((v.parents ≢ []) × ⊥) ⊎ (IsOtherOf OtherKind e × IsCommitIdTaken b (λ stored. stored ≡ v)) → e ≡ Memory
commit_failed b v e whole parents free (inl memory) = memory
commit_failed b v e whole parents free (inr (inl parentless)) = absurd (parents parentless.1)
commit_failed b v e whole parents free (inr (inr (inl none))) = absurd none.1
commit_failed b v e whole parents free (inr (inr (inr taken))) =
    let t = taken.1 in
    commit_memory b v e whole free (inr (taken.0, subst (λ (c : CommitValue). IsTakenByOther b.commits (object_id b.id_length (commit_content c)) c) t.1 t.2))

-- a third fact on a success follows from two
pub IfOk-with : {X Y : Type 0} (r : Result X Y) (P Q R : X → Type 0) → ((x : X) → P x → Q x → R x) → IfOk r P → IfOk r Q → IfOk r R
IfOk-with (Ok x) P Q R both p q = both x p q
IfOk-with (Err e) P Q R both p q = tt
