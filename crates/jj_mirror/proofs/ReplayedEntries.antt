-- Replaying one more entry.
use Rattle.std.proofs.Common.{◌≡◌, ◌∙◌, inl, inr, ℕ, ◌+◌, ◌<◌, List, [], ◌∷◌, ◌++◌, length, take, get_or, slice_get, Some, sym, ap, subst, refl}
use Rattle.std.specs.Prelude.{Contains}
use Rattle.std.proofs.lemmas.List.{take_more}
use Rattle.std.proofs.lemmas.List.Elements.{All-nil, All-push, All-weaker, Contains-append_left, Contains-push}
use Rattle.jj_backend.specs.Objects.{Object, file_object, symlink_object, copy_object, tree_object, commit_object}
use Rattle.jj_trees.specs.MemoryObjects.{MemoryBackendValue, objects_of, digest_length, new_backend}
use Rattle.jj_mirror.specs.Entries.{LogEntryValue, entry_of}
use Rattle.jj_mirror.specs.Replays.{IsStored, IsReplay, IsReplayError, IsEntryError}
use Rattle.jj_mirror.specs.Writes.{Adds, AddsEntry}
use Rattle.jj_mirror.specs.declared.error.ReplayError.{ReplayError}
use Rattle.jj_mirror.specs.declared.error.ReplayError.TheVariants.{Memory, Malformed, WrongObject, Backend}
use Rattle.jj_mirror.proofs.StoredObjects.{adds_found, adds_keeps, adds_only}

pub replay_nil : IsReplay [] (new_backend digest_length)
replay_nil = record {
  stored = All-nil (IsStored (objects_of (new_backend digest_length)));
  initial = λ _ _ there. there;
  only = λ _ _ there. inl there;
  ids = refl;
}

-- the fields that no write changes
abbrev HasSameIds : MemoryBackendValue → MemoryBackendValue → Type 0
HasSameIds old new = (new.id_length ≡ old.id_length) × (new.root_commit_id ≡ old.root_commit_id)
    × (new.root_change_id ≡ old.root_change_id) × (new.empty_tree_id ≡ old.empty_tree_id)

ids_of : (old new with_objects : MemoryBackendValue) → new ≡ with_objects → HasSameIds old with_objects → HasSameIds old new
ids_of old new with_objects is same = subst (HasSameIds old) (sym is) same

kept_ids : (old new : MemoryBackendValue) (id : List ℕ) (object : Object) → Adds old new id object → HasSameIds old new
kept_ids old new id (file_object v) adds = ids_of old new _ adds.1 (refl, refl, refl, refl)
kept_ids old new id (symlink_object v) adds = ids_of old new _ adds.1 (refl, refl, refl, refl)
kept_ids old new id (copy_object v) adds = ids_of old new _ adds.1 (refl, refl, refl, refl)
kept_ids old new id (tree_object v) adds = ids_of old new _ adds.1 (refl, refl, refl, refl)
kept_ids old new id (commit_object v) adds = ids_of old new _ adds.1 (refl, refl, refl, refl)

-- the new backend has the ids of a new one
pub adds_ids : (entries : List LogEntryValue) (old new : MemoryBackendValue) (id : List ℕ) (object : Object) → IsReplay entries old → Adds old new id object
    → new ≡ record (new_backend digest_length) { files = new.files; symlinks = new.symlinks; copies = new.copies; trees = new.trees; commits = new.commits }
adds_ids entries old new id object replay adds =
    let same = kept_ids old new id object adds in
    λ i. record {
      id_length = (same.0 ∙ ap (λ (b : MemoryBackendValue). b.id_length) replay.ids) i;
      root_commit_id = (same.1 ∙ ap (λ (b : MemoryBackendValue). b.root_commit_id) replay.ids) i;
      root_change_id = (same.2 ∙ ap (λ (b : MemoryBackendValue). b.root_change_id) replay.ids) i;
      empty_tree_id = (same.3 ∙ ap (λ (b : MemoryBackendValue). b.empty_tree_id) replay.ids) i;
      files = new.files;
      symlinks = new.symlinks;
      copies = new.copies;
      trees = new.trees;
      commits = new.commits;
    }

pub replay_push : (entries : List LogEntryValue) (old new : MemoryBackendValue) (entry : LogEntryValue) → IsReplay entries old → AddsEntry old new entry
    → IsReplay (entries ++ entry ∷ []) new
replay_push entries old new entry replay adds =
    let object = adds.0 in
    let keeps = adds_keeps old new entry.id object adds.4 in
    record {
      stored = All-push (IsStored (objects_of new)) entries entry
          (All-weaker (IsStored (objects_of old)) (IsStored (objects_of new)) (λ e s. (s.0, s.1, s.2, s.3, keeps e.id s.0 s.4)) entries replay.stored)
          (object, adds.1, adds.2, adds.3, adds_found old new entry.id object adds.4);
      initial = λ id other there. keeps id other (replay.initial id other there);
      only = λ id other there. elim (adds_only old new entry.id object adds.4 id other there) [
        | inl before ↦ elim (replay.only id other before) [
          | inl initial ↦ inl initial
          | inr has ↦ inr (Contains-append_left entries (entry ∷ []) (entry_of other) has.0, has.1)
        ]
        | inr new_one ↦
            let is : entry ≡ entry_of other = adds.3 ∙ ap entry_of new_one.1 in
            inr (
              subst (Contains (entries ++ entry ∷ [])) is (Contains-push entries entry),
              ap (λ (e : LogEntryValue). e.id) (sym is) ∙ new_one.0,
            )
      ];
      ids = adds_ids entries old new entry.id object replay adds.4;
    }

-- the entries up to an index, and the one there
pub replay_more : (entries : List LogEntryValue) (i : ℕ) (old new : MemoryBackendValue) (entry : LogEntryValue) → i < length entries → entry ≡ get_or entries i entry
    → IsReplay (take i entries) old → AddsEntry old new entry → IsReplay (take (i + 1) entries) new
replay_more entries i old new entry lt is replay adds =
    subst (λ (l : List LogEntryValue). IsReplay l new) (ap (λ z. take i entries ++ z ∷ []) is ∙ sym (take_more entries i entry lt))
    (replay_push (take i entries) old new entry replay adds)

-- the error of the entry at an index, after those before it
pub replay_error : (entries : List LogEntryValue) (index : ℕ) (entry : LogEntryValue) (backend : MemoryBackendValue) (e : ReplayError)
    → slice_get entries index ≡ Some entry → IsReplay (take index entries) backend → IsEntryError backend entry e → IsReplayError entries e
replay_error entries index entry backend Memory at replay error = tt
replay_error entries index entry backend (Malformed kind id reason offset) at replay error = (index, entry, backend, at, replay, error)
replay_error entries index entry backend (WrongObject kind id) at replay error = (index, entry, backend, at, replay, error)
replay_error entries index entry backend (Backend cause) at replay error = (index, entry, backend, at, replay, error)
