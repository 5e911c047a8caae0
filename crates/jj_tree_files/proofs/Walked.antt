-- The walk of a directory, composed from the walks of its entries.
use Rattle.std.proofs.Common.{◌≡◌, ◌+◌, ℕ, ◌⊎◌, inl, inr, List, [], ◌∷◌, ◌++◌, map, None, Some, refl, sym, ap, subst, arith, append-nil, append_assoc}
use Rattle.std.specs.Prelude.{All, Contains, Result, Err, IsSomeAnd, Ok, ◌↔◌}
use Rattle.std.specs.Bool.{MatchBool}
use Rattle.std.specs.Global.{Global}
use Rattle.std.specs.declared.string.String.{String}
use Rattle.std.specs.declared.cmp.Ordering.TheVariants.{Less}
use Rattle.std.proofs.lemmas.List.Elements.{Contains-push_cases}
use Rattle.jj_paths.specs.Paths.{Name, Path, name_cmp}
use Rattle.jj_backend.specs.Objects.{ById}
use Rattle.jj_backend.specs.Errors.{is_not_found}
use Rattle.jj_backend.specs.Trees.{Entries}
use Rattle.jj_backend.specs.declared.backend.errors.BackendError.{BackendError}
use Rattle.jj_backend.specs.declared.backend.errors.BackendError.TheVariants.{Memory, Unsupported}
use Rattle.jj_trees.specs.DirectoryMerges.{IsListOf}
use Rattle.jj_trees.proofs.Joining.{under, below, same_list, Below, none, joined}
use Rattle.jj_trees.proofs.Merging.{added}
use Rattle.jj_tree_files.specs.Walked.{IsWalked}
use Rattle.jj_tree_files.specs.Walks.{IsReadIfEntered, IsWalkError}

module _ {E : Type 0} (Holds : Path → E → Type 0) (IsRead : Path → Type 0) (dir : Path) where
  abbrev pub HoldsBelow : Name → Path → E → Type 0
  HoldsBelow name path e = Holds (name ∷ path) e

  -- the loop invariant: the entries with these names were walked
  pub record Passed (names : List Name) (old new : List (Path × E)) : Type 0 where
    pub entries : List (Path × E)
    pub exactly : IsListOf (Below HoldsBelow names) entries
    pub appended : new ≡ old ++ map (under dir) entries
    pub read : (name : Name) (path : Path) → Contains names name → IsRead (name ∷ path)

  pub passed_none : (old : List (Path × E)) → Passed [] old old
  passed_none old = record {
    entries = [];
    exactly = none HoldsBelow;
    appended = sym (append-nil old);
    read = λ name path h. let lt = h.1 in absurd (omega arith);
  }

  module _ (names : List Name) (name : Name) (old mid new : List (Path × E)) (above : All (λ m. name_cmp m name ≡ Less) names)
      (There : Path → E → Type 0) (IsReadThere : Path → Type 0) (same : (path : Path) (e : E) → There path e ↔ Holds (name ∷ path) e)
      (reads : (path : Path) → IsReadThere path → IsRead (name ∷ path)) where
    pub passed_more : Passed names old mid → IsWalked There IsReadThere (dir ++ name ∷ []) mid new → Passed (names ++ name ∷ []) old new
    passed_more passed walked = record {
      entries = passed.entries ++ map (below name) walked.entries;
      exactly = joined HoldsBelow names name passed.entries walked.entries above passed.exactly
          (same_list There (HoldsBelow name) walked.entries same walked.exactly);
      appended = added dir name old mid new passed.entries walked.entries passed.appended walked.added;
      read = λ other path h. by other path (Contains-push_cases names name other h);
    }
      where
        by : (other : Name) (path : Path) → Contains names other ⊎ (name ≡ other) → IsRead (other ∷ path)
        by other path (inl h) = passed.read other path h
        by other path (inr is) = subst (λ n. IsRead (n ∷ path)) is (reads path (walked.read path))

  module _ (names : List Name) (old new : List (Path × E)) (not_here : (e : E) → Holds [] e → ⊥)
      (named : (name : Name) (path : Path) (e : E) → Holds (name ∷ path) e → Contains names name) (read_here : IsRead [])
      (read_named : (name : Name) (path : Path) → (Contains names name → IsRead (name ∷ path)) → IsRead (name ∷ path)) where
    pub passed_all : Passed names old new → IsWalked Holds IsRead dir old new
    passed_all passed = record {
      entries = passed.entries;
      exactly = same_list (Below HoldsBelow names) Holds passed.entries both passed.exactly;
      added = passed.appended;
      read = read;
    }
      where
        both : (path : Path) (e : E) → Below HoldsBelow names path e ↔ Holds path e
        both [] e = (λ h. absurd h, λ h. absurd (not_here e h))
        both (name ∷ path) e = (λ h. h.1, λ h. (named name path e h, h))

        read : (path : Path) → IsRead path
        read [] = read_here
        read (name ∷ path) = read_named name path (passed.read name path)

-- ---- the root

pub from_root : {E : Type 0} (entries : List (Path × E)) → map (under []) entries ≡ entries
from_root [] = refl
from_root (e ∷ entries) = ap (λ l. e ∷ l) (from_root entries)

-- ---- reads and errors

module _ (trees : ById Entries) (may_read_tree : Path → List ℕ → Result Entries BackendError → Type 0) (Entered : Path → List ℕ → Type 0) (dir : Path) where
  -- each tree that is read below an entry is read below the directory
  pub reads_below : (name : Name) (EnteredThere : Path → List ℕ → Type 0) (path : Path) → ((id : List ℕ) → Entered (name ∷ path) id → EnteredThere path id)
      → IsReadIfEntered trees may_read_tree EnteredThere (dir ++ name ∷ []) path → IsReadIfEntered trees may_read_tree Entered dir (name ∷ path)
  reads_below name EnteredThere path there read = λ id h.
      subst (λ p. IsSomeAnd (trees id) (λ entries. may_read_tree p id (Ok entries))) (append_assoc dir (name ∷ []) path) (read id (there id h))

  pub read_at : (id : List ℕ) (tree : Entries) → trees id ≡ Some tree → may_read_tree dir id (Ok tree)
      → IsSomeAnd (trees id) (λ entries. may_read_tree (dir ++ []) id (Ok entries))
  read_at id tree is read =
      subst (λ o. IsSomeAnd o (λ entries. may_read_tree (dir ++ []) id (Ok entries))) (sym is)
      (subst (λ p. may_read_tree p id (Ok tree)) (sym (append-nil dir)) read)

  module _ (may_fail : BackendError → Type 0) where
    pub too_deep : (id : List ℕ) → Entered [] id → (levels : ℕ) → levels ≡ 0 → (e : BackendError)
        → (e ≡ Memory) ⊎ ((message : String Global) × (e ≡ Unsupported message)) → IsWalkError trees may_read_tree Entered dir may_fail levels e
    too_deep id entered levels zero e (inl h) = inl h
    too_deep id entered levels zero e (inr h) = inr (inr (h.0, [], id, h.1, entered, sym zero))

    pub fails_here : (id : List ℕ) → Entered [] id → (levels : ℕ) (e : BackendError)
        → may_read_tree dir id (Err e) → MatchBool (is_not_found e) (trees id ≡ None) (may_fail e) → IsWalkError trees may_read_tree Entered dir may_fail levels e
    fails_here id entered levels e read why = inr (inl ([], id, entered, subst (λ p. may_read_tree p id (Err e)) (sym (append-nil dir)) read, why))

    pub fails_below : (name : Name) (EnteredThere : Path → List ℕ → Type 0) → ((path : Path) (id : List ℕ) → EnteredThere path id → Entered (name ∷ path) id)
        → (levels upto : ℕ) (e : BackendError) → levels ≡ upto + 1
        → IsWalkError trees may_read_tree EnteredThere (dir ++ name ∷ []) may_fail upto e → IsWalkError trees may_read_tree Entered dir may_fail levels e
    fails_below name EnteredThere above levels upto e more (inl h) = inl h
    fails_below name EnteredThere above levels upto e more (inr (inl h)) =
        inr (inl (name ∷ h.0, h.1, above h.0 h.1 h.2, subst (λ p. may_read_tree p h.1 (Err e)) (append_assoc dir (name ∷ []) h.0) h.3, h.4))
    fails_below name EnteredThere above levels upto e more (inr (inr h)) =
        inr (inr (h.0, name ∷ h.1, h.2, h.3, above h.1 h.2 h.4, let n = h.5 in omega arith))
