-- The replay of a log and one more object that a write logged.
use Rattle.std.proofs.Common.{◌≡◌, ◌≢◌, ◌∙◌, ◌⊎◌, inl, inr, ℕ, Bool, true, false, cond, List, [], ◌∷◌, ◌++◌, Option, Some, None, refl, sym, ap, true≢false}
use Rattle.std.specs.Bool.{Decides}
use Rattle.std.specs.Map.{lookup}
use Rattle.std.specs.Str.{bytes_eq}
use Rattle.std.specs.Cmp.Lexicographic.{same_text, bytes_decides}
use Rattle.jj_content.specs.Blake2b.{blake2b}
use Rattle.jj_content.specs.Content.{string_content}
use Rattle.jj_backend.specs.Contents.{bytes_content, copy_history_content, commit_content}
use Rattle.jj_backend.specs.Objects.{Object, file_object, symlink_object, copy_object, tree_object, commit_object, put}
use Rattle.jj_backend.specs.Records.{copy_history_eq, commit_eq}
use Rattle.jj_backend.specs.TreeLaws.{tree_content, tree_eq}
use Rattle.jj_trees.proofs.SameRecords.{file-Decides, copy-Decides, tree-Decides, commit-Decides}
use Rattle.jj_trees.specs.MemoryObjects.{MemoryBackendValue, ObjectEntries, by_id, objects_of}
use Rattle.jj_mirror.specs.Entries.{LogEntryValue, entry_of}
use Rattle.jj_mirror.specs.Objects.{IsDigestTaken, IsReplayable}
use Rattle.jj_mirror.specs.Replays.{IsReplay}
use Rattle.jj_mirror.specs.Writes.{Adds}
use Rattle.jj_mirror.proofs.ReplayedEntries.{replay_push}

-- after a write that stored the object, the backend is the replay of the entries and its entry
pub stored_replay : (entries : List LogEntryValue) (old new : MemoryBackendValue) (object : Object) → IsReplay entries old → IsReplayable (objects_of old) object
    → Adds old new (entry_of object).id object → IsReplay (entries ++ entry_of object ∷ []) new
stored_replay entries old new object replay fits adds =
    replay_push entries old new (entry_of object) replay (object, fits.0, fits.1, refl, adds)

-- ---- an object that was logged and not stored

module _ {V : Type 0} where
  put_first : (m : ObjectEntries V) (id : List ℕ) (v : V) → by_id ((id, v) ∷ m) ≡ put (by_id m) id v
  unfolding by_id
  put_first m id v = λ i q. cond (turned q i) (Some v) (lookup (bytes_eq q) m)
    where
      both : (q : List ℕ) (b c : Bool) → bytes_eq q id ≡ b → bytes_eq id q ≡ c → b ≡ c
      both q true c l r = sym (let e = (bytes_decides id q).1 (sym (same_text q id (sym l))) in sym r ∙ e)
      both q false true l r = absurd (true≢false (let e = (bytes_decides q id).1 (sym (same_text id q (sym r))) in sym e ∙ l))
      both q false false l r = refl

      turned : (q : List ℕ) → bytes_eq q id ≡ bytes_eq id q
      turned q = both q (bytes_eq q id) (bytes_eq id q) refl refl

  is_free : (eq : V → V → Bool) → ((x y : V) → Decides (eq x y) (x ≡ y)) → (o : Option V) (v : V) → ((w : V) → o ≡ Some w → w ≢ v → ⊥) → (o ≡ None) ⊎ (o ≡ Some v)
  is_free eq decides None v none = inl refl
  is_free eq decides (Some w) v none = by (eq w v) refl
    where
      by : (b : Bool) → eq w v ≡ b → (Some w ≡ None) ⊎ (Some w ≡ Some v)
      by true t = inr (ap Some ((decides w v).0 t))
      by false f = absurd (none w refl (λ is. true≢false (sym ((decides w v).1 is) ∙ f)))

-- the backend with the object under its digest
abbrev with_object : MemoryBackendValue → Object → MemoryBackendValue
with_object old (file_object v) = record old { files = (blake2b (bytes_content v), v) ∷ old.files }
with_object old (symlink_object v) = record old { symlinks = (blake2b (string_content v), v) ∷ old.symlinks }
with_object old (copy_object v) = record old { copies = (blake2b (copy_history_content v), v) ∷ old.copies }
with_object old (tree_object v) = record old { trees = (blake2b (tree_content v), v) ∷ old.trees }
with_object old (commit_object v) = record old { commits = (blake2b (commit_content v), v) ∷ old.commits }

adds_object : (old : MemoryBackendValue) (object : Object) → ¬ (IsDigestTaken (objects_of old) object) → Adds old (with_object old object) (entry_of object).id object
adds_object old (file_object v) free = (
  (
    is_free bytes_eq file-Decides (by_id old.files (blake2b (bytes_content v))) v (λ w there different. free (file_object w, refl, there, λ is. different (let same = is in cc))),
    (λ i. record { files = put_first old.files (blake2b (bytes_content v)) v i; symlinks = by_id old.symlinks; copies = by_id old.copies; trees = by_id old.trees; commits = by_id old.commits }),
  ),
  refl,
)
adds_object old (symlink_object v) free = (
  (
    is_free bytes_eq file-Decides (by_id old.symlinks (blake2b (string_content v))) v (λ w there different. free (symlink_object w, refl, there, λ is. different (let same = is in cc))),
    (λ i. record { files = by_id old.files; symlinks = put_first old.symlinks (blake2b (string_content v)) v i; copies = by_id old.copies; trees = by_id old.trees; commits = by_id old.commits }),
  ),
  refl,
)
adds_object old (copy_object v) free = (
  (
    is_free copy_history_eq copy-Decides (by_id old.copies (blake2b (copy_history_content v))) v (λ w there different. free (copy_object w, refl, there, λ is. different (let same = is in cc))),
    (λ i. record { files = by_id old.files; symlinks = by_id old.symlinks; copies = put_first old.copies (blake2b (copy_history_content v)) v i; trees = by_id old.trees; commits = by_id old.commits }),
  ),
  refl,
)
adds_object old (tree_object v) free = (
  (
    is_free tree_eq tree-Decides (by_id old.trees (blake2b (tree_content v))) v (λ w there different. free (tree_object w, refl, there, λ is. different (let same = is in cc))),
    (λ i. record { files = by_id old.files; symlinks = by_id old.symlinks; copies = by_id old.copies; trees = put_first old.trees (blake2b (tree_content v)) v i; commits = by_id old.commits }),
  ),
  refl,
)
adds_object old (commit_object v) free = (
  (
    is_free commit_eq commit-Decides (by_id old.commits (blake2b (commit_content v))) v (λ w there different. free (commit_object w, refl, there, λ is. different (let same = is in cc))),
    (λ i. record { files = by_id old.files; symlinks = by_id old.symlinks; copies = by_id old.copies; trees = by_id old.trees; commits = put_first old.commits (blake2b (commit_content v)) v i }),
  ),
  refl,
)

-- the entries and that of an object that replay takes have a replay, whether it was stored or not
pub logged_replay : (entries : List LogEntryValue) (old : MemoryBackendValue) (object : Object) → IsReplay entries old → IsReplayable (objects_of old) object
    → (new : MemoryBackendValue) × IsReplay (entries ++ entry_of object ∷ []) new
logged_replay entries old object replay fits =
    (with_object old object, stored_replay entries old (with_object old object) object replay fits (adds_object old object fits.2))
