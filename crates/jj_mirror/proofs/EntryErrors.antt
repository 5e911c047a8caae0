-- Errors of writing the object of an entry, by kind.
use Rattle.std.proofs.Common.{◌≡◌, ◌≢◌, ◌∙◌, ◌⊎◌, inl, inr, ℕ, List, [], refl, sym, ap, subst}
use Rattle.std.specs.Str.{IsUtf8}
use Rattle.jj_backend.specs.Contents.{IsCopyHistory, copy_history_content, IsCommit, commit_content}
use Rattle.jj_backend.specs.Errors.{IsOtherOf}
use Rattle.jj_backend.specs.Objects.{Object, file_object, symlink_object, copy_object, tree_object, commit_object, AddsFile, AddsSymlink, AddsCopy, AddsTree, AddsCommit}
use Rattle.jj_backend.specs.Records.{CopyHistoryValue, CommitValue}
use Rattle.jj_backend.specs.TreeLaws.{IsTree, tree_content}
use Rattle.jj_backend.specs.Trees.{Entries}
use Rattle.jj_mirror.specs.Entries.{LogEntryValue, entry_of}
use Rattle.jj_mirror.specs.declared.object_log.ObjectKind.TheVariants.{File, Symlink, Copy, Tree, Commit}
use Rattle.jj_mirror.specs.Entries.{digest_of}
use Rattle.jj_mirror.specs.Objects.{IsDigestTaken, IsObject, IsParentless}
use Rattle.jj_content.specs.Blake2b.{blake2b}
use Rattle.jj_content.specs.Content.{string_content}
use Rattle.jj_files.specs.declared.file_util.errors.SourceKind.TheVariants.{Other as OtherKind}
use Rattle.jj_backend.specs.Contents.{bytes_content}
use Rattle.jj_backend.specs.declared.backend.errors.BackendError.{BackendError}
use Rattle.jj_backend.specs.declared.backend.errors.BackendError.TheVariants.{Memory as MemoryCause}
use Rattle.jj_trees.specs.MemoryObjects.{MemoryBackendValue, objects_of, by_id, object_id, digest_length, IsTakenByOther, IsStoreError, MayFailToWrite}
use Rattle.jj_trees.specs.Signing.{IsCommitIdTaken}
use Rattle.jj_mirror.specs.Replays.{HasBytesOf, IsEntryError, replay_error}
use Rattle.jj_mirror.specs.Writes.{Adds, AddsEntry, IsDecodeError, IsWrongId}
use Rattle.jj_mirror.specs.declared.error.ReplayError.{ReplayError}
use Rattle.jj_mirror.specs.declared.error.ReplayError.TheVariants.{Memory, Malformed, WrongObject, Backend}
use Rattle.jj_mirror.proofs.WholeDigests.{whole_digest}

-- ---- bytes that no object has

no_symlink : (entry : LogEntryValue) → entry.kind ≡ Symlink → ((x : List ℕ) → IsUtf8 x → entry.bytes ≢ x) → (object : Object) → IsObject object → ¬ (HasBytesOf entry object)
no_symlink entry is none (file_object x) valid has = absurd (let e = sym is ∙ has.0 in cc)
no_symlink entry is none (symlink_object x) valid has = none x valid has.1
no_symlink entry is none (copy_object x) valid has = absurd (let e = sym is ∙ has.0 in cc)
no_symlink entry is none (tree_object x) valid has = absurd (let e = sym is ∙ has.0 in cc)
no_symlink entry is none (commit_object x) valid has = absurd (let e = sym is ∙ has.0 in cc)

pub symlink_malformed : (backend : MemoryBackendValue) (entry : LogEntryValue) (e : ReplayError) → entry.kind ≡ Symlink → IsDecodeError IsUtf8 (λ target. target) entry e → IsEntryError backend entry e
symlink_malformed backend entry Memory is error = tt
symlink_malformed backend entry (Malformed kind id reason offset) is error = (error.0, no_symlink entry is (error.1 (λ e. cc)))
symlink_malformed backend entry (WrongObject kind id) is error = absurd error.0
symlink_malformed backend entry (Backend cause) is error = absurd error.0

no_copy : (entry : LogEntryValue) → entry.kind ≡ Copy → ((x : CopyHistoryValue) → IsCopyHistory x → entry.bytes ≢ copy_history_content x) → (object : Object) → IsObject object → ¬ (HasBytesOf entry object)
no_copy entry is none (file_object x) valid has = absurd (let e = sym is ∙ has.0 in cc)
no_copy entry is none (symlink_object x) valid has = absurd (let e = sym is ∙ has.0 in cc)
no_copy entry is none (copy_object x) valid has = none x valid has.1
no_copy entry is none (tree_object x) valid has = absurd (let e = sym is ∙ has.0 in cc)
no_copy entry is none (commit_object x) valid has = absurd (let e = sym is ∙ has.0 in cc)

pub copy_malformed : (backend : MemoryBackendValue) (entry : LogEntryValue) (e : ReplayError) → entry.kind ≡ Copy → IsDecodeError IsCopyHistory copy_history_content entry e → IsEntryError backend entry e
copy_malformed backend entry Memory is error = tt
copy_malformed backend entry (Malformed kind id reason offset) is error = (error.0, no_copy entry is (error.1 (λ e. cc)))
copy_malformed backend entry (WrongObject kind id) is error = absurd error.0
copy_malformed backend entry (Backend cause) is error = absurd error.0

no_tree : (entry : LogEntryValue) → entry.kind ≡ Tree → ((x : Entries) → IsTree x → entry.bytes ≢ tree_content x) → (object : Object) → IsObject object → ¬ (HasBytesOf entry object)
no_tree entry is none (file_object x) valid has = absurd (let e = sym is ∙ has.0 in cc)
no_tree entry is none (symlink_object x) valid has = absurd (let e = sym is ∙ has.0 in cc)
no_tree entry is none (copy_object x) valid has = absurd (let e = sym is ∙ has.0 in cc)
no_tree entry is none (tree_object x) valid has = none x valid has.1
no_tree entry is none (commit_object x) valid has = absurd (let e = sym is ∙ has.0 in cc)

pub tree_malformed : (backend : MemoryBackendValue) (entry : LogEntryValue) (e : ReplayError) → entry.kind ≡ Tree → IsDecodeError IsTree tree_content entry e → IsEntryError backend entry e
tree_malformed backend entry Memory is error = tt
tree_malformed backend entry (Malformed kind id reason offset) is error = (error.0, no_tree entry is (error.1 (λ e. cc)))
tree_malformed backend entry (WrongObject kind id) is error = absurd error.0
tree_malformed backend entry (Backend cause) is error = absurd error.0

no_commit : (entry : LogEntryValue) → entry.kind ≡ Commit → ((x : CommitValue) → IsCommit x → entry.bytes ≢ commit_content x) → (object : Object) → IsObject object → ¬ (HasBytesOf entry object)
no_commit entry is none (file_object x) valid has = absurd (let e = sym is ∙ has.0 in cc)
no_commit entry is none (symlink_object x) valid has = absurd (let e = sym is ∙ has.0 in cc)
no_commit entry is none (copy_object x) valid has = absurd (let e = sym is ∙ has.0 in cc)
no_commit entry is none (tree_object x) valid has = absurd (let e = sym is ∙ has.0 in cc)
no_commit entry is none (commit_object x) valid has = none x valid has.1

pub commit_malformed : (backend : MemoryBackendValue) (entry : LogEntryValue) (e : ReplayError) → entry.kind ≡ Commit → IsDecodeError IsCommit commit_content entry e → IsEntryError backend entry e
commit_malformed backend entry Memory is error = tt
commit_malformed backend entry (Malformed kind id reason offset) is error = (error.0, no_commit entry is (error.1 (λ e. cc)))
commit_malformed backend entry (WrongObject kind id) is error = absurd error.0
commit_malformed backend entry (Backend cause) is error = absurd error.0

-- ---- an object that cannot be stored

-- the error that `?` makes of the backend's
abbrev IsConverted : BackendError → ReplayError → Type 0
IsConverted cause e = e ≡ replay_error cause

-- a failed write of an object: out of memory, no parents, or the digest of a different object
abbrev IsStoreFailure : MemoryBackendValue → Object → BackendError → Type 0
IsStoreFailure backend object cause = (cause ≡ MemoryCause)
    ⊎ (IsOtherOf OtherKind cause × (IsParentless object ⊎ IsDigestTaken (objects_of backend) object))

store_error : (backend : MemoryBackendValue) (entry : LogEntryValue) (object : Object) (cause : BackendError) (e : ReplayError)
    → IsObject object → HasBytesOf entry object → IsStoreFailure backend object cause → IsConverted cause e → IsEntryError backend entry e
store_error backend entry object cause e valid has (inl memory) is = subst (IsEntryError backend entry) (sym (is ∙ ap replay_error memory)) tt
store_error backend entry object cause e valid has (inr other) is =
    let source = other.0 in
    subst (IsEntryError backend entry) (sym (is ∙ ap replay_error source.1)) ((source.0, refl, source.2), (object, valid, has, other.1))

file_taken : (backend : MemoryBackendValue) (v : List ℕ) (cause : BackendError) → backend.id_length ≡ digest_length → IsStoreError backend.files (object_id backend.id_length (bytes_content v)) v cause
    → IsStoreFailure backend (file_object v) cause
file_taken backend v cause n (inl memory) = inl memory
file_taken backend v cause n (inr other) =
    let t = other.1 in
    inr (other.0, inr (file_object t.0, refl, ap (by_id backend.files) (sym (whole_digest (bytes_content v) backend.id_length n)) ∙ t.1, λ e. t.2 (let same = e in cc)))

symlink_taken : (backend : MemoryBackendValue) (v : List ℕ) (cause : BackendError) → backend.id_length ≡ digest_length → IsStoreError backend.symlinks (object_id backend.id_length (string_content v)) v cause
    → IsStoreFailure backend (symlink_object v) cause
symlink_taken backend v cause n (inl memory) = inl memory
symlink_taken backend v cause n (inr other) =
    let t = other.1 in
    inr (other.0, inr (symlink_object t.0, refl, ap (by_id backend.symlinks) (sym (whole_digest (string_content v) backend.id_length n)) ∙ t.1, λ e. t.2 (let same = e in cc)))

copy_taken : (backend : MemoryBackendValue) (v : CopyHistoryValue) (cause : BackendError) → backend.id_length ≡ digest_length → IsStoreError backend.copies (object_id backend.id_length (copy_history_content v)) v cause
    → IsStoreFailure backend (copy_object v) cause
copy_taken backend v cause n (inl memory) = inl memory
copy_taken backend v cause n (inr other) =
    let t = other.1 in
    inr (other.0, inr (copy_object t.0, refl, ap (by_id backend.copies) (sym (whole_digest (copy_history_content v) backend.id_length n)) ∙ t.1, λ e. t.2 (let same = e in cc)))

tree_taken : (backend : MemoryBackendValue) (v : Entries) (cause : BackendError) → backend.id_length ≡ digest_length → IsStoreError backend.trees (object_id backend.id_length (tree_content v)) v cause
    → IsStoreFailure backend (tree_object v) cause
tree_taken backend v cause n (inl memory) = inl memory
tree_taken backend v cause n (inr other) =
    let t = other.1 in
    inr (other.0, inr (tree_object t.0, refl, ap (by_id backend.trees) (sym (whole_digest (tree_content v) backend.id_length n)) ∙ t.1, λ e. t.2 (let same = e in cc)))

commit_taken : (backend : MemoryBackendValue) (v : CommitValue) (cause : BackendError) → backend.id_length ≡ digest_length → IsStoreError backend.commits (object_id backend.id_length (commit_content v)) v cause
    → IsStoreFailure backend (commit_object v) cause
commit_taken backend v cause n (inl memory) = inl memory
commit_taken backend v cause n (inr other) =
    let t = other.1 in
    inr (other.0, inr (commit_object t.0, refl, ap (by_id backend.commits) (sym (whole_digest (commit_content v) backend.id_length n)) ∙ t.1, λ e. t.2 (let same = e in cc)))

-- ---- an id that is not the digest

wrong_id : (backend : MemoryBackendValue) (entry : LogEntryValue) (id : List ℕ) (e : ReplayError) → digest_of entry.kind entry.bytes ≡ id → IsWrongId entry id e
    → IsEntryError backend entry e
wrong_id backend entry id Memory is wrong = tt
wrong_id backend entry id (Malformed kind named reason offset) is wrong = absurd wrong.0
wrong_id backend entry id (WrongObject kind named) is wrong = (wrong.0, λ same. wrong.1 (sym same ∙ is))
wrong_id backend entry id (Backend cause) is wrong = absurd wrong.0

-- ---- the object of an entry is added

added : (old new : MemoryBackendValue) (entry : LogEntryValue) (id : List ℕ) (object : Object) → IsObject object → ¬ (IsParentless object) → HasBytesOf entry object
    → id ≡ (entry_of object).id → entry.id ≡ id → Adds old new id object → AddsEntry old new entry
added old new entry id object valid parents has digest is adds = (
  object,
  valid,
  parents,
  (λ i. record { kind = has.0 i; id = (is ∙ digest) i; bytes = has.1 i }),
  subst (λ (q : List ℕ). Adds old new q object) (sym is) adds,
)

-- ---- by kind

pub file_added : (old new : MemoryBackendValue) (entry : LogEntryValue) (v id : List ℕ) → old.id_length ≡ digest_length → entry.kind ≡ File → entry.bytes ≡ v → id ≡ object_id old.id_length (bytes_content v) → entry.id ≡ id
    → AddsFile (objects_of old) (objects_of new) id v → new ≡ record old { files = new.files } → AddsEntry old new entry
file_added old new entry v id n is d digest same adds frame =
    added old new entry id (file_object v) tt (λ none. none) (is, d) (digest ∙ whole_digest (bytes_content v) old.id_length n) same (adds, frame)

pub file_error : (old : MemoryBackendValue) (entry : LogEntryValue) (v : List ℕ) (cause : BackendError) (e : ReplayError) → old.id_length ≡ digest_length → entry.kind ≡ File → entry.bytes ≡ v
    → IsStoreError old.files (object_id old.id_length (bytes_content v)) v cause → IsConverted cause e → IsEntryError old entry e
file_error old entry v cause e n is d failure =
    store_error old entry (file_object v) cause e tt (is, d) (file_taken old v cause n failure)

pub file_wrong : (old : MemoryBackendValue) (entry : LogEntryValue) (id : List ℕ) (e : ReplayError) → old.id_length ≡ digest_length → entry.kind ≡ File
    → id ≡ object_id old.id_length (bytes_content entry.bytes) → IsWrongId entry id e → IsEntryError old entry e
file_wrong old entry id e n is digest =
    wrong_id old entry id e (ap (λ kind. digest_of kind entry.bytes) is ∙ sym (digest ∙ whole_digest (bytes_content entry.bytes) old.id_length n))

pub symlink_added : (old new : MemoryBackendValue) (entry : LogEntryValue) (v : List ℕ) (id : List ℕ) → old.id_length ≡ digest_length → entry.kind ≡ Symlink → IsUtf8 v × (entry.bytes ≡ v) → id ≡ object_id old.id_length (string_content v) → entry.id ≡ id
    → AddsSymlink (objects_of old) (objects_of new) id v → new ≡ record old { symlinks = new.symlinks } → AddsEntry old new entry
symlink_added old new entry v id n is d digest same adds frame =
    added old new entry id (symlink_object v) d.0 (λ none. none) (is, d.1) (digest ∙ whole_digest (string_content v) old.id_length n) same (adds, frame)

pub symlink_error : (old : MemoryBackendValue) (entry : LogEntryValue) (v : List ℕ) (cause : BackendError) (e : ReplayError) → old.id_length ≡ digest_length → entry.kind ≡ Symlink → IsUtf8 v × (entry.bytes ≡ v)
    → IsStoreError old.symlinks (object_id old.id_length (string_content v)) v cause → IsConverted cause e → IsEntryError old entry e
symlink_error old entry v cause e n is d failure =
    store_error old entry (symlink_object v) cause e d.0 (is, d.1) (symlink_taken old v cause n failure)

pub symlink_wrong : (old : MemoryBackendValue) (entry : LogEntryValue) (v : List ℕ) (id : List ℕ) (e : ReplayError) → old.id_length ≡ digest_length → entry.kind ≡ Symlink → IsUtf8 v × (entry.bytes ≡ v)
    → id ≡ object_id old.id_length (string_content v) → IsWrongId entry id e → IsEntryError old entry e
symlink_wrong old entry v id e n is d digest =
    wrong_id old entry id e (ap (λ kind. digest_of kind entry.bytes) is ∙ ap (λ (bytes : List ℕ). blake2b (string_content bytes)) d.1 ∙ sym (digest ∙ whole_digest (string_content v) old.id_length n))

pub copy_added : (old new : MemoryBackendValue) (entry : LogEntryValue) (v : CopyHistoryValue) (id : List ℕ) → old.id_length ≡ digest_length → entry.kind ≡ Copy → IsCopyHistory v × (entry.bytes ≡ copy_history_content v) → id ≡ object_id old.id_length (copy_history_content v) → entry.id ≡ id
    → AddsCopy (objects_of old) (objects_of new) id v → new ≡ record old { copies = new.copies } → AddsEntry old new entry
copy_added old new entry v id n is d digest same adds frame =
    added old new entry id (copy_object v) d.0 (λ none. none) (is, d.1) (digest ∙ whole_digest (copy_history_content v) old.id_length n) same (adds, frame)

pub copy_error : (old : MemoryBackendValue) (entry : LogEntryValue) (v : CopyHistoryValue) (cause : BackendError) (e : ReplayError) → old.id_length ≡ digest_length → entry.kind ≡ Copy → IsCopyHistory v × (entry.bytes ≡ copy_history_content v)
    → IsStoreError old.copies (object_id old.id_length (copy_history_content v)) v cause → IsConverted cause e → IsEntryError old entry e
copy_error old entry v cause e n is d failure =
    store_error old entry (copy_object v) cause e d.0 (is, d.1) (copy_taken old v cause n failure)

pub copy_wrong : (old : MemoryBackendValue) (entry : LogEntryValue) (v : CopyHistoryValue) (id : List ℕ) (e : ReplayError) → old.id_length ≡ digest_length → entry.kind ≡ Copy → IsCopyHistory v × (entry.bytes ≡ copy_history_content v)
    → id ≡ object_id old.id_length (copy_history_content v) → IsWrongId entry id e → IsEntryError old entry e
copy_wrong old entry v id e n is d digest =
    wrong_id old entry id e (ap (λ kind. digest_of kind entry.bytes) is ∙ ap blake2b d.1 ∙ sym (digest ∙ whole_digest (copy_history_content v) old.id_length n))

pub tree_added : (old new : MemoryBackendValue) (entry : LogEntryValue) (v : Entries) (id : List ℕ) → old.id_length ≡ digest_length → entry.kind ≡ Tree → IsTree v × (entry.bytes ≡ tree_content v) → id ≡ object_id old.id_length (tree_content v) → entry.id ≡ id
    → AddsTree (objects_of old) (objects_of new) id v → new ≡ record old { trees = new.trees } → AddsEntry old new entry
tree_added old new entry v id n is d digest same adds frame =
    added old new entry id (tree_object v) d.0 (λ none. none) (is, d.1) (digest ∙ whole_digest (tree_content v) old.id_length n) same (adds, frame)

pub tree_error : (old : MemoryBackendValue) (entry : LogEntryValue) (v : Entries) (cause : BackendError) (e : ReplayError) → old.id_length ≡ digest_length → entry.kind ≡ Tree → IsTree v × (entry.bytes ≡ tree_content v)
    → IsStoreError old.trees (object_id old.id_length (tree_content v)) v cause → IsConverted cause e → IsEntryError old entry e
tree_error old entry v cause e n is d failure =
    store_error old entry (tree_object v) cause e d.0 (is, d.1) (tree_taken old v cause n failure)

pub tree_wrong : (old : MemoryBackendValue) (entry : LogEntryValue) (v : Entries) (id : List ℕ) (e : ReplayError) → old.id_length ≡ digest_length → entry.kind ≡ Tree → IsTree v × (entry.bytes ≡ tree_content v)
    → id ≡ object_id old.id_length (tree_content v) → IsWrongId entry id e → IsEntryError old entry e
tree_wrong old entry v id e n is d digest =
    wrong_id old entry id e (ap (λ kind. digest_of kind entry.bytes) is ∙ ap blake2b d.1 ∙ sym (digest ∙ whole_digest (tree_content v) old.id_length n))

pub commit_added : (old new : MemoryBackendValue) (entry : LogEntryValue) (v : CommitValue) (id : List ℕ) → old.id_length ≡ digest_length → entry.kind ≡ Commit → IsCommit v × (entry.bytes ≡ commit_content v) → id ≡ object_id old.id_length (commit_content v) → entry.id ≡ id
    → v.parents ≢ [] → AddsCommit (objects_of old) (objects_of new) id v → new ≡ record old { commits = new.commits } → AddsEntry old new entry
commit_added old new entry v id n is d digest same parents adds frame =
    added old new entry id (commit_object v) d.0 parents (is, d.1) (digest ∙ whole_digest (commit_content v) old.id_length n) same (adds, frame)

pub commit_error : (old : MemoryBackendValue) (entry : LogEntryValue) (v : CommitValue) (cause : BackendError) (e : ReplayError) → old.id_length ≡ digest_length → entry.kind ≡ Commit → IsCommit v × (entry.bytes ≡ commit_content v)
    → MayFailToWrite old (commit_object v) cause → IsConverted cause e → IsEntryError old entry e
commit_error old entry v cause e n is d (inl parentless) =
    store_error old entry (commit_object v) cause e d.0 (is, d.1) (inr (parentless.0, inl parentless.1))
commit_error old entry v cause e n is d (inr failure) =
    store_error old entry (commit_object v) cause e d.0 (is, d.1) (commit_taken old v cause n failure)

pub commit_wrong : (old : MemoryBackendValue) (entry : LogEntryValue) (v : CommitValue) (id : List ℕ) (e : ReplayError) → old.id_length ≡ digest_length → entry.kind ≡ Commit → IsCommit v × (entry.bytes ≡ commit_content v)
    → id ≡ object_id old.id_length (commit_content v) → IsWrongId entry id e → IsEntryError old entry e
commit_wrong old entry v id e n is d digest =
    wrong_id old entry id e (ap (λ kind. digest_of kind entry.bytes) is ∙ ap blake2b d.1 ∙ sym (digest ∙ whole_digest (commit_content v) old.id_length n))

-- a failed write of a commit without a signer
pub commit_failure : (old : MemoryBackendValue) (v : CommitValue) (cause : BackendError)
    → (cause ≡ MemoryCause) ⊎ (IsOtherOf OtherKind cause × (v.parents ≡ [])) ⊎ ((v.parents ≢ []) × ⊥) ⊎ (IsOtherOf OtherKind cause × IsCommitIdTaken old (λ stored. stored ≡ v))
    → MayFailToWrite old (commit_object v) cause
commit_failure old v cause (inl memory) = inr (inl memory)
commit_failure old v cause (inr (inl parentless)) = inl parentless
commit_failure old v cause (inr (inr (inl none))) = absurd none.1
commit_failure old v cause (inr (inr (inr taken))) =
    let t = taken.1 in
    inr (inr (taken.0, subst (λ (c : CommitValue). IsTakenByOther old.commits (object_id old.id_length (commit_content c)) c) t.1 t.2))
