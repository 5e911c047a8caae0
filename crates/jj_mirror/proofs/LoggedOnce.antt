-- A write through a store that is the replay of its log appends an entry exactly if the log lacks
-- it.
use Rattle.std.proofs.Common.{◌≡◌, ◌≢◌, ◌∙◌, ◌⊎◌, inl, inr, ℕ, Bool, true, false, cond, List, [], ◌∷◌, ◌++◌, ◌<◌, length, get_or, Option, Some, None, refl, sym, ap, subst, arith}
use Rattle.std.specs.Prelude.{All, Contains}
use Rattle.std.specs.List.{AllPairs}
use Rattle.std.specs.Map.{lookup}
use Rattle.std.specs.Str.{bytes_eq}
use Rattle.std.proofs.lemmas.List.{get_or_default}
use Rattle.std.proofs.lemmas.List.Elements.{All-contains, All-weaker, Contains-append_left, Contains-push}
use Rattle.std.proofs.lemmas.List.Quantifiers.{all_pairs_push}
use Rattle.jj_backend.specs.Objects.{Object, file_object, symlink_object, copy_object, tree_object, commit_object, Objects}
use Rattle.jj_backend.specs.Records.{CommitValue}
use Rattle.jj_backend.specs.Trees.{Entries}
use Rattle.jj_trees.specs.MemoryObjects.{MemoryBackendValue, by_id, objects_of, digest_length, new_backend}
use Rattle.jj_mirror.specs.Entries.{LogEntryValue, entry_of}
use Rattle.jj_mirror.specs.Logs.{AppendsOnce, WithEntry, WithEntries}
use Rattle.jj_mirror.specs.Objects.{HasObject, IsObject, IsParentless, IsReplayable, Stores}
use Rattle.jj_mirror.specs.Replays.{IsStored, IsReplay}
use Rattle.jj_mirror.specs.Writes.{Adds}
use Rattle.jj_mirror.proofs.LoggedObjects.{logged_replay, stored_replay}
use Rattle.jj_mirror.proofs.ReplayedAgain.{same_object}
use Rattle.jj_mirror.proofs.ReplayedEntries.{adds_ids}
use Rattle.jj_mirror.proofs.StoredObjects.{adds_keeps, adds_only}

-- ---- an object is stored exactly if its entry is in the log

pub has_logged : (entries : List LogEntryValue) (backend : MemoryBackendValue) (object : Object) → IsReplay entries backend → IsObject object
    → Contains entries (entry_of object) → HasObject (objects_of backend) object
has_logged entries backend object replay valid has =
    let s = All-contains (IsStored (objects_of backend)) entries (entry_of object) replay.stored has in
    let same = same_object object s.0 valid s.1 (ap (λ (e : LogEntryValue). e.kind) s.3) (ap (λ (e : LogEntryValue). e.bytes) s.3) in
    subst (λ (o : Object). Stores (objects_of backend) (entry_of object).id o) (sym same) s.4

initial_tree : (b : Bool) (v : Entries) → cond b (Some []) None ≡ Some v → v ≡ []
initial_tree true v is = let e = is in cc
initial_tree false v is = absurd (let e = is in cc)

initial_commit : (b : Bool) (c v : CommitValue) → c.parents ≡ [] → cond b (Some c) None ≡ Some v → v.parents ≡ []
initial_commit true c v none is = let same : c ≡ v = cc in ap (λ (x : CommitValue). x.parents) (sym same) ∙ none
initial_commit false c v none is = absurd (let e = is in cc)

-- an initial object is the empty tree, or a commit without parents
initial_is : (id : List ℕ) (object : Object) → Stores (objects_of (new_backend digest_length)) id object → IsParentless object ⊎ (object ≡ tree_object [])
unfolding by_id
initial_is id (file_object v) there = absurd (let e = there in cc)
initial_is id (symlink_object v) there = absurd (let e = there in cc)
initial_is id (copy_object v) there = absurd (let e = there in cc)
initial_is id (tree_object v) there = inr (ap tree_object (initial_tree (bytes_eq id (new_backend digest_length).empty_tree_id) v there))
initial_is id (commit_object v) there = inl (initial_commit (bytes_eq id (new_backend digest_length).root_commit_id) _ v refl there)

pub is_logged : (entries : List LogEntryValue) (backend : MemoryBackendValue) (object : Object) → IsReplay entries backend → ¬ (IsParentless object) → object ≢ tree_object []
    → HasObject (objects_of backend) object → Contains entries (entry_of object)
is_logged entries backend object replay parents not_empty has = elim (replay.only (entry_of object).id object has) [
  | inl initial ↦ absurd (elim (initial_is (entry_of object).id object initial) [
    | inl parentless ↦ parents parentless
    | inr empty ↦ not_empty empty
  ])
  | inr logged ↦ logged.0
]

-- ---- the replay after a write of an object that was stored

pub same_replay : (entries : List LogEntryValue) (old new : MemoryBackendValue) (object : Object) → IsReplay entries old → HasObject (objects_of old) object
    → Adds old new (entry_of object).id object → IsReplay entries new
same_replay entries old new object replay has adds =
    let keeps = adds_keeps old new (entry_of object).id object adds in
    record {
      stored = All-weaker (IsStored (objects_of old)) (IsStored (objects_of new)) (λ e s. (s.0, s.1, s.2, s.3, keeps e.id s.0 s.4)) entries replay.stored;
      initial = λ id other there. keeps id other (replay.initial id other there);
      only = λ id other there. elim (adds_only old new (entry_of object).id object adds id other there) [
        | inl before ↦ replay.only id other before
        | inr is ↦ replay.only id other (subst (λ (o : Object). Stores (objects_of old) id o) is.1 (subst (λ (q : List ℕ). Stores (objects_of old) q object) is.0 has))
      ];
      ids = adds_ids entries old new (entry_of object).id object replay adds;
    }

-- ---- the entries after a write

-- the entries have a replay
abbrev pub HasReplay : List LogEntryValue → Type 0
HasReplay entries = (backend : MemoryBackendValue) × IsReplay entries backend

-- the entries that a log contains after a write, if it contained these before
pub appended : {L : Type 0} (contains : L → List LogEntryValue → Type 0) (log new_log : L) (entries : List LogEntryValue) (objects : Objects) (object : Object)
    → contains log entries → AppendsOnce contains log new_log objects object
    → (HasObject objects object × contains new_log entries) ⊎ (¬ (HasObject objects object) × contains new_log (entries ++ entry_of object ∷ []))
appended {L} contains log new_log entries objects object had (inl same) = inl (same.0, subst (λ (l : L). contains l entries) (sym same.1) had)
appended {L} contains log new_log entries objects object had (inr lacks) = inr (lacks.0, lacks.1 entries had)

-- the entries of the new log have property New
module _ (New : List LogEntryValue → Type 0) (entries : List LogEntryValue) (old : MemoryBackendValue) (object : Object) (replay : IsReplay entries old)
    (fits : IsReplayable (objects_of old) object) (not_empty : object ≢ tree_object []) where
  abbrev pub Once : Type 0
  Once = (HasObject (objects_of old) object × New entries) ⊎ (¬ (HasObject (objects_of old) object) × New (entries ++ entry_of object ∷ []))

  with_entry : (P : List LogEntryValue → Type 0) → Once → (HasObject (objects_of old) object → P entries) → P (entries ++ entry_of object ∷ [])
      → WithEntry (λ all. New all × P all) entries (entry_of object)
  with_entry P (inl has) stored pushed = inl (is_logged entries old object replay fits.1 not_empty has.0, (has.1, stored has.0))
  with_entry P (inr lacks) stored pushed = inr ((λ there. lacks.0 (has_logged entries old object replay fits.0 there)), (lacks.1, pushed))

  -- the object was stored
  pub written : (new : MemoryBackendValue) → Once → Adds old new (entry_of object).id object → WithEntry (λ all. New all × IsReplay all new) entries (entry_of object)
  written new once adds = with_entry (λ all. IsReplay all new) once (λ has. same_replay entries old new object replay has adds) (stored_replay entries old new object replay fits adds)

  -- the object was logged, and may not be stored
  pub only_logged : Once → WithEntry (λ all. New all × HasReplay all) entries (entry_of object)
  only_logged once = with_entry HasReplay once (λ _. (old, replay)) (logged_replay entries old object replay fits)

-- ---- lists of entries

pub WithEntry-map : (P Q : List LogEntryValue → Type 0) → ((all : List LogEntryValue) → P all → Q all) → (entries : List LogEntryValue) (entry : LogEntryValue)
    → WithEntry P entries entry → WithEntry Q entries entry
WithEntry-map P Q more entries entry (inl has) = inl (has.0, more entries has.1)
WithEntry-map P Q more entries entry (inr lacks) = inr (lacks.0, more (entries ++ entry ∷ []) lacks.1)

pub WithEntries-map : (P Q : List LogEntryValue → Type 0) → ((all : List LogEntryValue) → P all → Q all) → (list entries : List LogEntryValue)
    → WithEntries P entries list → WithEntries Q entries list
WithEntries-map P Q more [] entries has = more entries has
WithEntries-map P Q more (e ∷ list) entries has = WithEntry-map (λ all. WithEntries P all list) (λ all. WithEntries Q all list) (λ all. WithEntries-map P Q more list all) entries e has

pub WithEntries-push : (P : List LogEntryValue → Type 0) (list entries : List LogEntryValue) (entry : LogEntryValue) → WithEntries (λ all. WithEntry P all entry) entries list
    → WithEntries P entries (list ++ entry ∷ [])
WithEntries-push P [] entries entry has = has
WithEntries-push P (e ∷ list) entries entry has =
    WithEntry-map (λ all. WithEntries (λ now. WithEntry P now entry) all list) (λ all. WithEntries P all (list ++ entry ∷ [])) (λ all. WithEntries-push P list all entry) entries e has

pub WithEntry-split : (A B : List LogEntryValue → Type 0) (entries : List LogEntryValue) (entry : LogEntryValue) → WithEntry (λ all. A all ⊎ B all) entries entry
    → WithEntry A entries entry ⊎ WithEntry B entries entry
WithEntry-split A B entries entry (inl (has, inl a)) = inl (inl (has, a))
WithEntry-split A B entries entry (inl (has, inr b)) = inr (inl (has, b))
WithEntry-split A B entries entry (inr (lacks, inl a)) = inl (inr (lacks, a))
WithEntry-split A B entries entry (inr (lacks, inr b)) = inr (inr (lacks, b))

pub WithEntries-split : (A B : List LogEntryValue → Type 0) (list entries : List LogEntryValue) → WithEntries (λ all. A all ⊎ B all) entries list
    → WithEntries A entries list ⊎ WithEntries B entries list
WithEntries-split A B [] entries has = has
WithEntries-split A B (e ∷ list) entries has =
    WithEntry-split (λ all. WithEntries A all list) (λ all. WithEntries B all list) entries e
    (WithEntry-map (λ all. WithEntries (λ now. A now ⊎ B now) all list) (λ all. WithEntries A all list ⊎ WithEntries B all list) (λ all. WithEntries-split A B list all) entries e has)

-- ---- entries of which no two are equal

abbrev pub AreDistinct : List LogEntryValue → Type 0
AreDistinct = AllPairs (λ a b. a ≢ b)

distinct_with : (P : List LogEntryValue → Type 0) (entries : List LogEntryValue) (entry : LogEntryValue) → AreDistinct entries → WithEntry P entries entry
    → WithEntry (λ all. P all × AreDistinct all) entries entry
distinct_with P entries entry distinct (inl has) = inl (has.0, (has.1, distinct))
distinct_with P entries entry distinct (inr lacks) =
    inr (lacks.0, (lacks.1, all_pairs_push (λ a b. a ≢ b) entries entry distinct (λ k d lt is. lacks.0 (k, lt, get_or_default entries k entry d lt ∙ is))))

pub distinct_all : (P : List LogEntryValue → Type 0) (list entries : List LogEntryValue) → AreDistinct entries → WithEntries P entries list
    → WithEntries (λ all. P all × AreDistinct all) entries list
distinct_all P [] entries distinct has = (has, distinct)
distinct_all P (e ∷ list) entries distinct has =
    WithEntry-map (λ all. WithEntries P all list × AreDistinct all) (λ all. WithEntries (λ now. P now × AreDistinct now) all list) (λ all both. distinct_all P list all both.1 both.0) entries e
    (distinct_with (λ all. WithEntries P all list) entries e distinct has)
