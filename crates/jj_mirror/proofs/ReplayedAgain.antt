-- Entries that were replayed once are replayed again, but for memory.
use Rattle.std.proofs.Common.{◌≡◌, ◌∙◌, inl, inr, ℕ, List, [], ◌∷◌, ◌++◌, Option, Some, refl, sym, ap, subst, take, drop, slice_get, zero, suc, arith}
use Rattle.std.specs.Prelude.{Contains}
use Rattle.std.proofs.lemmas.List.{take-append-drop}
use Rattle.std.proofs.lemmas.List.Elements.{All-contains, Contains-append_left}
use Rattle.jj_backend.specs.Objects.{Object, file_object, symlink_object, copy_object, tree_object, commit_object, Objects}
use Rattle.jj_backend.specs.RecordLaws.{copy_history_lawful, commit_lawful}
use Rattle.jj_backend.specs.TreeLaws.{tree_lawful}
use Rattle.jj_trees.proofs.SameRecords.{copy-Decides, tree-Decides, commit-Decides}
use Rattle.jj_trees.specs.MemoryObjects.{MemoryBackendValue, objects_of}
use Rattle.jj_mirror.specs.Entries.{LogEntryValue, entry_of, digest_of}
use Rattle.jj_mirror.specs.Objects.{Stores, IsObject, IsParentless, IsDigestTaken}
use Rattle.jj_mirror.specs.Replays.{IsStored, HasBytesOf, IsReplay, IsReplayError, IsEntryError}
use Rattle.jj_mirror.specs.declared.error.ReplayError.{ReplayError}
use Rattle.jj_mirror.specs.declared.error.ReplayError.TheVariants.{Memory, Malformed, WrongObject, Backend}

-- ---- an id and a kind have one object, and so have a kind and bytes

some_same : {V : Type 0} (o : Option V) (v w : V) → o ≡ Some v → o ≡ Some w → v ≡ w
some_same o v w is too = let e = sym is ∙ too in cc

pub one_object : (o : Objects) (id : List ℕ) (a b : Object) → (entry_of a).kind ≡ (entry_of b).kind → Stores o id a → Stores o id b → a ≡ b
one_object o id (file_object v) (file_object w) kind there too = ap file_object (some_same (o.files id) v w there too)
one_object o id (file_object v) (symlink_object w) kind there too = absurd (let e = kind in cc)
one_object o id (file_object v) (copy_object w) kind there too = absurd (let e = kind in cc)
one_object o id (file_object v) (tree_object w) kind there too = absurd (let e = kind in cc)
one_object o id (file_object v) (commit_object w) kind there too = absurd (let e = kind in cc)
one_object o id (symlink_object v) (file_object w) kind there too = absurd (let e = kind in cc)
one_object o id (symlink_object v) (symlink_object w) kind there too = ap symlink_object (some_same (o.symlinks id) v w there too)
one_object o id (symlink_object v) (copy_object w) kind there too = absurd (let e = kind in cc)
one_object o id (symlink_object v) (tree_object w) kind there too = absurd (let e = kind in cc)
one_object o id (symlink_object v) (commit_object w) kind there too = absurd (let e = kind in cc)
one_object o id (copy_object v) (file_object w) kind there too = absurd (let e = kind in cc)
one_object o id (copy_object v) (symlink_object w) kind there too = absurd (let e = kind in cc)
one_object o id (copy_object v) (copy_object w) kind there too = ap copy_object (some_same (o.copies id) v w there too)
one_object o id (copy_object v) (tree_object w) kind there too = absurd (let e = kind in cc)
one_object o id (copy_object v) (commit_object w) kind there too = absurd (let e = kind in cc)
one_object o id (tree_object v) (file_object w) kind there too = absurd (let e = kind in cc)
one_object o id (tree_object v) (symlink_object w) kind there too = absurd (let e = kind in cc)
one_object o id (tree_object v) (copy_object w) kind there too = absurd (let e = kind in cc)
one_object o id (tree_object v) (tree_object w) kind there too = ap tree_object (some_same (o.trees id) v w there too)
one_object o id (tree_object v) (commit_object w) kind there too = absurd (let e = kind in cc)
one_object o id (commit_object v) (file_object w) kind there too = absurd (let e = kind in cc)
one_object o id (commit_object v) (symlink_object w) kind there too = absurd (let e = kind in cc)
one_object o id (commit_object v) (copy_object w) kind there too = absurd (let e = kind in cc)
one_object o id (commit_object v) (tree_object w) kind there too = absurd (let e = kind in cc)
one_object o id (commit_object v) (commit_object w) kind there too = ap commit_object (some_same (o.commits id) v w there too)

pub same_object : (a b : Object) → IsObject a → IsObject b → (entry_of a).kind ≡ (entry_of b).kind → (entry_of a).bytes ≡ (entry_of b).bytes → a ≡ b
same_object (file_object v) (file_object w) is_v is_w kind bytes = ap file_object bytes
same_object (file_object v) (symlink_object w) is_v is_w kind bytes = absurd (let e = kind in cc)
same_object (file_object v) (copy_object w) is_v is_w kind bytes = absurd (let e = kind in cc)
same_object (file_object v) (tree_object w) is_v is_w kind bytes = absurd (let e = kind in cc)
same_object (file_object v) (commit_object w) is_v is_w kind bytes = absurd (let e = kind in cc)
same_object (symlink_object v) (file_object w) is_v is_w kind bytes = absurd (let e = kind in cc)
same_object (symlink_object v) (symlink_object w) is_v is_w kind bytes = ap symlink_object bytes
same_object (symlink_object v) (copy_object w) is_v is_w kind bytes = absurd (let e = kind in cc)
same_object (symlink_object v) (tree_object w) is_v is_w kind bytes = absurd (let e = kind in cc)
same_object (symlink_object v) (commit_object w) is_v is_w kind bytes = absurd (let e = kind in cc)
same_object (copy_object v) (file_object w) is_v is_w kind bytes = absurd (let e = kind in cc)
same_object (copy_object v) (symlink_object w) is_v is_w kind bytes = absurd (let e = kind in cc)
same_object (copy_object v) (copy_object w) is_v is_w kind bytes = ap copy_object ((copy-Decides v w).0 (copy_history_lawful.decides v w [] [] is_v is_w (ap (λ (l : List ℕ). l ++ []) bytes)))
same_object (copy_object v) (tree_object w) is_v is_w kind bytes = absurd (let e = kind in cc)
same_object (copy_object v) (commit_object w) is_v is_w kind bytes = absurd (let e = kind in cc)
same_object (tree_object v) (file_object w) is_v is_w kind bytes = absurd (let e = kind in cc)
same_object (tree_object v) (symlink_object w) is_v is_w kind bytes = absurd (let e = kind in cc)
same_object (tree_object v) (copy_object w) is_v is_w kind bytes = absurd (let e = kind in cc)
same_object (tree_object v) (tree_object w) is_v is_w kind bytes = ap tree_object ((tree-Decides v w).0 (tree_lawful.decides v w [] [] is_v is_w (ap (λ (l : List ℕ). l ++ []) bytes)))
same_object (tree_object v) (commit_object w) is_v is_w kind bytes = absurd (let e = kind in cc)
same_object (commit_object v) (file_object w) is_v is_w kind bytes = absurd (let e = kind in cc)
same_object (commit_object v) (symlink_object w) is_v is_w kind bytes = absurd (let e = kind in cc)
same_object (commit_object v) (copy_object w) is_v is_w kind bytes = absurd (let e = kind in cc)
same_object (commit_object v) (tree_object w) is_v is_w kind bytes = absurd (let e = kind in cc)
same_object (commit_object v) (commit_object w) is_v is_w kind bytes = ap commit_object ((commit-Decides v w).0 (commit_lawful.decides v w [] [] is_v is_w (ap (λ (l : List ℕ). l ++ []) bytes)))

pub has_digest : (object : Object) → digest_of (entry_of object).kind (entry_of object).bytes ≡ (entry_of object).id
has_digest (file_object v) = refl
has_digest (symlink_object v) = refl
has_digest (copy_object v) = refl
has_digest (tree_object v) = refl
has_digest (commit_object v) = refl

-- ---- an entry that is stored has no error

module _ (entries part : List LogEntryValue) (backend before : MemoryBackendValue) (entry : LogEntryValue)
    (among : (e : LogEntryValue) → Contains part e → Contains entries e) (replay : IsReplay entries backend) (earlier : IsReplay part before)
    (s : IsStored (objects_of backend) entry) where
  -- the object of the entry is that which is stored
  is_stored_one : (object : Object) → IsObject object → HasBytesOf entry object → object ≡ s.0
  is_stored_one object valid has =
      same_object object s.0 valid s.1 (sym has.0 ∙ ap (λ (e : LogEntryValue). e.kind) s.3) (sym has.1 ∙ ap (λ (e : LogEntryValue). e.bytes) s.3)

  -- an object that is stored earlier under the digest of the entry is its object
  was_stored : (other : Object) → (entry_of other).kind ≡ (entry_of s.0).kind → Stores (objects_of before) (entry_of s.0).id other → other ≡ s.0
  was_stored other kind there = elim (earlier.only (entry_of s.0).id other there) [
    | inl initial ↦ one_object (objects_of backend) (entry_of s.0).id other s.0 kind (replay.initial (entry_of s.0).id other initial) now
    | inr has ↦
        let then = All-contains (IsStored (objects_of before)) part (entry_of other) earlier.stored has.0 in
        let same = one_object (objects_of before) (entry_of s.0).id other then.0 (ap (λ (e : LogEntryValue). e.kind) then.3) there (subst (λ (q : List ℕ). Stores (objects_of before) q then.0) has.1 then.4) in
        let valid : IsObject other = subst IsObject (sym same) then.1 in
        let later = All-contains (IsStored (objects_of backend)) entries (entry_of other) replay.stored (among (entry_of other) has.0) in
        let one = same_object other later.0 valid later.1 (ap (λ (e : LogEntryValue). e.kind) later.3) (ap (λ (e : LogEntryValue). e.bytes) later.3) in
        one ∙ one_object (objects_of backend) (entry_of s.0).id later.0 s.0 (sym (ap (λ (e : LogEntryValue). e.kind) later.3) ∙ kind) (subst (λ (q : List ℕ). Stores (objects_of backend) q later.0) has.1 later.4) now
  ]
    where
      now : Stores (objects_of backend) (entry_of s.0).id s.0
      now = subst (λ (e : LogEntryValue). Stores (objects_of backend) e.id s.0) s.3 s.4

  no_error : (e : ReplayError) → IsEntryError before entry e → e ≡ Memory
  no_error Memory error = refl
  no_error (Malformed kind id reason offset) error = absurd (error.1 s.0 s.1 (ap (λ (e : LogEntryValue). e.kind) s.3, ap (λ (e : LogEntryValue). e.bytes) s.3))
  no_error (WrongObject kind id) error = absurd (error.1 (subst (λ (e : LogEntryValue). digest_of e.kind e.bytes ≡ e.id) (sym s.3) (has_digest s.0)))
  no_error (Backend cause) error =
      let of = error.1 in
      let is = is_stored_one of.0 of.1 of.2 in
      absurd (elim of.3 [
        | inl parentless ↦ s.2 (subst IsParentless is parentless)
        | inr taken ↦
            let moved = subst (λ (o : Object). IsDigestTaken (objects_of before) o) is taken in
            moved.3 (was_stored moved.0 moved.1 moved.2)
      ])

pub item_at : {A : Type 0} (xs : List A) (i : ℕ) (x : A) → slice_get xs i ≡ Some x → Contains xs x
item_at [] zero x e = absurd cc
item_at [] (suc i) x e = absurd cc
item_at (y ∷ xs) zero x e = (zero, omega arith, cc)
item_at (y ∷ xs) (suc i) x e = let rest = item_at xs i x e in (suc rest.0, omega (arith, rest.1), rest.2)

pub Contains-taken : {A : Type 0} (i : ℕ) (xs : List A) (x : A) → Contains (take i xs) x → Contains xs x
Contains-taken i xs x has = subst (λ (l : List _). Contains l x) (take-append-drop i xs) (Contains-append_left (take i xs) (drop i xs) x has)

fails_not : (entries : List LogEntryValue) (backend : MemoryBackendValue) (e : ReplayError) → IsReplay entries backend → (index : ℕ) (entry : LogEntryValue) (before : MemoryBackendValue)
    → slice_get entries index ≡ Some entry → IsReplay (take index entries) before → IsEntryError before entry e → e ≡ Memory
fails_not entries backend e replay index entry before at earlier error =
    no_error entries (take index entries) backend before entry
    (λ x has. Contains-taken index entries x has) replay earlier
    (All-contains (IsStored (objects_of backend)) entries entry replay.stored (item_at entries index entry at)) e error

-- if the entries have a replay, replaying them fails only for memory
pub replayed_again : (entries : List LogEntryValue) (backend : MemoryBackendValue) (e : ReplayError) → IsReplay entries backend → IsReplayError entries e → e ≡ Memory
replayed_again entries backend Memory replay fails = refl
replayed_again entries backend (Malformed kind id reason offset) replay fails = fails_not entries backend _ replay fails.0 fails.1 fails.2 fails.3 fails.4 fails.5
replayed_again entries backend (WrongObject kind id) replay fails = fails_not entries backend _ replay fails.0 fails.1 fails.2 fails.3 fails.4 fails.5
replayed_again entries backend (Backend cause) replay fails = fails_not entries backend _ replay fails.0 fails.1 fails.2 fails.3 fails.4 fails.5
