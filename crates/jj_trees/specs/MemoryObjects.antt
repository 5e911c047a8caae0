-- The model of an in-memory backend: its objects, their ids, and its initial state.
-- Cited by contracts of public items: IsStoreError, MayFailToWrite, MemoryBackendValue,
-- change_id_length, digest_length, fixed_of, new_backend, object_id, objects_of.
use Rattle.std.specs.Prelude.{◌≡◌, ◌≢◌, ◌⊎◌, ℕ, List, [], ◌∷◌, take, replicate, codes, Some}
use Rattle.std.specs.Map.{lookup}
use Rattle.std.specs.Str.{bytes_eq}
use Rattle.jj_content.specs.Blake2b.{blake2b}
use Rattle.jj_content.specs.Content.{string_content}
use Rattle.jj_files.specs.declared.file_util.errors.SourceKind.TheVariants.{Other as OtherKind}
use Rattle.jj_backend.specs.Contents.{bytes_content, copy_history_content, commit_content}
use Rattle.jj_backend.specs.Errors.{IsOtherOf}
use Rattle.jj_backend.specs.Objects.{ById, FixedValues, Object, file_object, symlink_object, copy_object, tree_object, commit_object, Objects}
use Rattle.jj_backend.specs.Records.{CopyHistoryValue, CommitValue, root_commit}
use Rattle.jj_backend.specs.TreeLaws.{tree_content}
use Rattle.jj_backend.specs.Trees.{Entries}
use Rattle.jj_backend.specs.declared.backend.errors.BackendError.{BackendError}
use Rattle.jj_backend.specs.declared.backend.errors.BackendError.TheVariants.{Memory}

-- objects with their ids, as an association list
abbrev pub ObjectEntries : Type 0 → Type 0
ObjectEntries V = List (List ℕ × V)

module _ {V : Type 0} where
  -- the map from ids to objects
  unfoldable pub by_id : ObjectEntries V → ById V
  by_id entries = λ id. lookup (bytes_eq id) entries

  -- the id is that of a different object
  abbrev pub IsTakenByOther : ObjectEntries V → List ℕ → V → Type 0
  IsTakenByOther entries id value = (other : V) × (by_id entries id ≡ Some other) × (other ≢ value)

  -- an error of storing a value under an id: out of memory, or Other if a different object has it
  abbrev pub IsStoreError : ObjectEntries V → List ℕ → V → BackendError → Type 0
  IsStoreError entries id value e =
      (e ≡ Memory) ⊎ (IsOtherOf OtherKind e × IsTakenByOther entries id value)

-- an in-memory backend: the length of its ids, the ids of its initial objects, and its objects
pub record MemoryBackendValue : Type 0 where
  pub id_length : ℕ
  pub root_commit_id : List ℕ
  pub root_change_id : List ℕ
  pub empty_tree_id : List ℕ
  pub files : ObjectEntries (List ℕ)
  pub symlinks : ObjectEntries (List ℕ)
  pub copies : ObjectEntries CopyHistoryValue
  pub trees : ObjectEntries Entries
  pub commits : ObjectEntries CommitValue

-- the objects that the backend has, as maps from ids to values
abbrev pub objects_of : MemoryBackendValue → Objects
objects_of backend = record {
  files = by_id backend.files;
  symlinks = by_id backend.symlinks;
  copies = by_id backend.copies;
  trees = by_id backend.trees;
  commits = by_id backend.commits;
}

-- the lengths in bytes of a digest and of a change id
abbrev pub digest_length : ℕ
digest_length = 64

-- the length of change ids in bytes
abbrev pub change_id_length : ℕ
change_id_length = 16

-- the values of an in-memory backend that no write changes
abbrev pub fixed_of : MemoryBackendValue → FixedValues
fixed_of backend = record {
  name = codes "memory";
  commit_id_length = backend.id_length;
  change_id_length = change_id_length;
  root_commit_id = backend.root_commit_id;
  root_change_id = backend.root_change_id;
  empty_tree_id = backend.empty_tree_id;
  concurrency = 1;
}

-- the id of an object with this content: a prefix of the digest
abbrev pub object_id : ℕ → List ℕ → List ℕ
object_id id_length content = take id_length (blake2b content)

-- The errors of writing an object: those of storing it under its id, and Other for a commit without
-- parents.
abbrev pub MayFailToWrite : MemoryBackendValue → Object → BackendError → Type 0
MayFailToWrite backend (file_object contents) =
    IsStoreError backend.files (object_id backend.id_length (bytes_content contents)) contents
MayFailToWrite backend (symlink_object target) =
    IsStoreError backend.symlinks (object_id backend.id_length (string_content target)) target
MayFailToWrite backend (copy_object history) =
    IsStoreError backend.copies (object_id backend.id_length (copy_history_content history)) history
MayFailToWrite backend (tree_object entries) =
    IsStoreError backend.trees (object_id backend.id_length (tree_content entries)) entries
MayFailToWrite backend (commit_object c) = λ e. (IsOtherOf OtherKind e × (c.parents ≡ []))
    ⊎ IsStoreError backend.commits (object_id backend.id_length (commit_content c)) c e

-- a new backend, which stores the root commit and the empty tree
abbrev pub new_backend : ℕ → MemoryBackendValue
new_backend id_length =
    let root_commit_id = replicate id_length 0 in
    let root_change_id = replicate change_id_length 0 in
    let empty_tree_id = object_id id_length (tree_content []) in
    record {
      id_length = id_length;
      root_commit_id = root_commit_id;
      root_change_id = root_change_id;
      empty_tree_id = empty_tree_id;
      files = [];
      symlinks = [];
      copies = [];
      trees = (empty_tree_id, []) ∷ [];
      commits = (root_commit_id, root_commit root_change_id empty_tree_id) ∷ [];
    }
