-- The objects of a backend after an object is added.
use Rattle.std.proofs.Common.{◌≡◌, ◌∙◌, ◌⊎◌, inl, inr, ℕ, Bool, true, false, cond, List, Option, Some, None, refl, sym, ap, subst}
use Rattle.std.specs.Cmp.Lexicographic.{same_text, bytes_decides}
use Rattle.std.specs.Str.{bytes_eq}
use Rattle.jj_backend.specs.Records.{CopyHistoryValue, CommitValue}
use Rattle.jj_backend.specs.Trees.{Entries}
use Rattle.jj_backend.specs.Objects.{ById, put, IsFree, Object, file_object, symlink_object, copy_object, tree_object, commit_object, Objects}
use Rattle.jj_trees.specs.MemoryObjects.{MemoryBackendValue, objects_of}
use Rattle.jj_mirror.specs.Objects.{Stores}
use Rattle.jj_mirror.specs.Writes.{Adds}

module _ {V : Type 0} (m : ById V) (id : List ℕ) (v : V) where
  put_found : put m id v id ≡ Some v
  put_found = ap (λ (b : Bool). cond b (Some v) (m id)) ((bytes_decides id id).1 refl)

  put_keeps : IsFree m id v → (q : List ℕ) (w : V) → m q ≡ Some w → put m id v q ≡ Some w
  put_keeps free q w there = by (bytes_eq id q) refl
    where
      some_same : (o : Option V) → o ≡ Some w → (o ≡ None) ⊎ (o ≡ Some v) → Some v ≡ Some w
      some_same o is (inl none) = cc
      some_same o is (inr some) = sym some ∙ is

      by : (b : Bool) → bytes_eq id q ≡ b → cond b (Some v) (m q) ≡ Some w
      by true t = some_same (m id) (ap m (same_text id q (sym t)) ∙ there) free
      by false t = there

  put_only : (q : List ℕ) (w : V) → put m id v q ≡ Some w → (m q ≡ Some w) ⊎ ((id ≡ q) × (v ≡ w))
  put_only q w = by (bytes_eq id q) refl
    where
      by : (b : Bool) → bytes_eq id q ≡ b → cond b (Some v) (m q) ≡ Some w → (m q ≡ Some w) ⊎ ((id ≡ q) × (v ≡ w))
      by true t is = inr (same_text id q (sym t), cc)
      by false t is = inl is

-- either of the old objects, or this one under this id
abbrev IsOldOr : Objects → List ℕ → Object → List ℕ → Object → Type 0
IsOldOr objects id object q other = Stores objects q other ⊎ ((id ≡ q) × (object ≡ other))

-- ---- one kind after the other

module _ (o : Objects) (id : List ℕ) where
  file_keeps : (v : List ℕ) → IsFree o.files id v → (q : List ℕ) (other : Object) → Stores o q other → Stores (record o { files = put o.files id v }) q other
  file_keeps v free q (file_object w) s = put_keeps o.files id v free q w s
  file_keeps v free q (symlink_object w) s = s
  file_keeps v free q (copy_object w) s = s
  file_keeps v free q (tree_object w) s = s
  file_keeps v free q (commit_object w) s = s

  file_only : (v : List ℕ) (q : List ℕ) (other : Object) → Stores (record o { files = put o.files id v }) q other → IsOldOr o id (file_object v) q other
  file_only v q (file_object w) s = elim (put_only o.files id v q w s) [ inl old ↦ inl old | inr new ↦ inr (new.0, ap file_object new.1) ]
  file_only v q (symlink_object w) s = inl s
  file_only v q (copy_object w) s = inl s
  file_only v q (tree_object w) s = inl s
  file_only v q (commit_object w) s = inl s

  symlink_keeps : (v : List ℕ) → IsFree o.symlinks id v → (q : List ℕ) (other : Object) → Stores o q other → Stores (record o { symlinks = put o.symlinks id v }) q other
  symlink_keeps v free q (file_object w) s = s
  symlink_keeps v free q (symlink_object w) s = put_keeps o.symlinks id v free q w s
  symlink_keeps v free q (copy_object w) s = s
  symlink_keeps v free q (tree_object w) s = s
  symlink_keeps v free q (commit_object w) s = s

  symlink_only : (v : List ℕ) (q : List ℕ) (other : Object) → Stores (record o { symlinks = put o.symlinks id v }) q other → IsOldOr o id (symlink_object v) q other
  symlink_only v q (file_object w) s = inl s
  symlink_only v q (symlink_object w) s = elim (put_only o.symlinks id v q w s) [ inl old ↦ inl old | inr new ↦ inr (new.0, ap symlink_object new.1) ]
  symlink_only v q (copy_object w) s = inl s
  symlink_only v q (tree_object w) s = inl s
  symlink_only v q (commit_object w) s = inl s

  copy_keeps : (v : CopyHistoryValue) → IsFree o.copies id v → (q : List ℕ) (other : Object) → Stores o q other → Stores (record o { copies = put o.copies id v }) q other
  copy_keeps v free q (file_object w) s = s
  copy_keeps v free q (symlink_object w) s = s
  copy_keeps v free q (copy_object w) s = put_keeps o.copies id v free q w s
  copy_keeps v free q (tree_object w) s = s
  copy_keeps v free q (commit_object w) s = s

  copy_only : (v : CopyHistoryValue) (q : List ℕ) (other : Object) → Stores (record o { copies = put o.copies id v }) q other → IsOldOr o id (copy_object v) q other
  copy_only v q (file_object w) s = inl s
  copy_only v q (symlink_object w) s = inl s
  copy_only v q (copy_object w) s = elim (put_only o.copies id v q w s) [ inl old ↦ inl old | inr new ↦ inr (new.0, ap copy_object new.1) ]
  copy_only v q (tree_object w) s = inl s
  copy_only v q (commit_object w) s = inl s

  tree_keeps : (v : Entries) → IsFree o.trees id v → (q : List ℕ) (other : Object) → Stores o q other → Stores (record o { trees = put o.trees id v }) q other
  tree_keeps v free q (file_object w) s = s
  tree_keeps v free q (symlink_object w) s = s
  tree_keeps v free q (copy_object w) s = s
  tree_keeps v free q (tree_object w) s = put_keeps o.trees id v free q w s
  tree_keeps v free q (commit_object w) s = s

  tree_only : (v : Entries) (q : List ℕ) (other : Object) → Stores (record o { trees = put o.trees id v }) q other → IsOldOr o id (tree_object v) q other
  tree_only v q (file_object w) s = inl s
  tree_only v q (symlink_object w) s = inl s
  tree_only v q (copy_object w) s = inl s
  tree_only v q (tree_object w) s = elim (put_only o.trees id v q w s) [ inl old ↦ inl old | inr new ↦ inr (new.0, ap tree_object new.1) ]
  tree_only v q (commit_object w) s = inl s

  commit_keeps : (v : CommitValue) → IsFree o.commits id v → (q : List ℕ) (other : Object) → Stores o q other → Stores (record o { commits = put o.commits id v }) q other
  commit_keeps v free q (file_object w) s = s
  commit_keeps v free q (symlink_object w) s = s
  commit_keeps v free q (copy_object w) s = s
  commit_keeps v free q (tree_object w) s = s
  commit_keeps v free q (commit_object w) s = put_keeps o.commits id v free q w s

  commit_only : (v : CommitValue) (q : List ℕ) (other : Object) → Stores (record o { commits = put o.commits id v }) q other → IsOldOr o id (commit_object v) q other
  commit_only v q (file_object w) s = inl s
  commit_only v q (symlink_object w) s = inl s
  commit_only v q (copy_object w) s = inl s
  commit_only v q (tree_object w) s = inl s
  commit_only v q (commit_object w) s = elim (put_only o.commits id v q w s) [ inl old ↦ inl old | inr new ↦ inr (new.0, ap commit_object new.1) ]

-- ---- of each kind

pub adds_found : (old new : MemoryBackendValue) (id : List ℕ) (object : Object) → Adds old new id object → Stores (objects_of new) id object
adds_found old new id (file_object v) adds = ap (λ (o : Objects). o.files id) adds.0.1 ∙ put_found (objects_of old).files id v
adds_found old new id (symlink_object v) adds = ap (λ (o : Objects). o.symlinks id) adds.0.1 ∙ put_found (objects_of old).symlinks id v
adds_found old new id (copy_object v) adds = ap (λ (o : Objects). o.copies id) adds.0.1 ∙ put_found (objects_of old).copies id v
adds_found old new id (tree_object v) adds = ap (λ (o : Objects). o.trees id) adds.0.1 ∙ put_found (objects_of old).trees id v
adds_found old new id (commit_object v) adds = ap (λ (o : Objects). o.commits id) adds.0.1 ∙ put_found (objects_of old).commits id v

pub adds_keeps : (old new : MemoryBackendValue) (id : List ℕ) (object : Object) → Adds old new id object
    → (q : List ℕ) (other : Object) → Stores (objects_of old) q other → Stores (objects_of new) q other
adds_keeps old new id (file_object v) adds q other there =
    subst (λ (o : Objects). Stores o q other) (sym adds.0.1) (file_keeps (objects_of old) id v adds.0.0 q other there)
adds_keeps old new id (symlink_object v) adds q other there =
    subst (λ (o : Objects). Stores o q other) (sym adds.0.1) (symlink_keeps (objects_of old) id v adds.0.0 q other there)
adds_keeps old new id (copy_object v) adds q other there =
    subst (λ (o : Objects). Stores o q other) (sym adds.0.1) (copy_keeps (objects_of old) id v adds.0.0 q other there)
adds_keeps old new id (tree_object v) adds q other there =
    subst (λ (o : Objects). Stores o q other) (sym adds.0.1) (tree_keeps (objects_of old) id v adds.0.0 q other there)
adds_keeps old new id (commit_object v) adds q other there =
    subst (λ (o : Objects). Stores o q other) (sym adds.0.1) (commit_keeps (objects_of old) id v adds.0.0 q other there)

pub adds_only : (old new : MemoryBackendValue) (id : List ℕ) (object : Object) → Adds old new id object
    → (q : List ℕ) (other : Object) → Stores (objects_of new) q other → IsOldOr (objects_of old) id object q other
adds_only old new id (file_object v) adds q other there =
    file_only (objects_of old) id v q other (subst (λ (o : Objects). Stores o q other) adds.0.1 there)
adds_only old new id (symlink_object v) adds q other there =
    symlink_only (objects_of old) id v q other (subst (λ (o : Objects). Stores o q other) adds.0.1 there)
adds_only old new id (copy_object v) adds q other there =
    copy_only (objects_of old) id v q other (subst (λ (o : Objects). Stores o q other) adds.0.1 there)
adds_only old new id (tree_object v) adds q other there =
    tree_only (objects_of old) id v q other (subst (λ (o : Objects). Stores o q other) adds.0.1 there)
adds_only old new id (commit_object v) adds q other there =
    commit_only (objects_of old) id v q other (subst (λ (o : Objects). Stores o q other) adds.0.1 there)
