-- A merge that is appended to empty lists at the root is the merge, in the words of its contract.
use Rattle.std.proofs.Common.{◌≡◌, inl, inr, ℕ, ◌<◌, Bool, List, [], ◌∷◌, ◌++◌, length, get_or, map, Option, Some, None, Ok, Err, refl, sym, ap, subst, ◌∙◌, arith}
use Rattle.std.specs.Prelude.{Result, IsSomeAnd, AllPairs, Contains, ◌↔◌}
use Rattle.std.specs.Bool.{MatchBool}
use Rattle.std.specs.declared.cmp.Ordering.TheVariants.{Less}
use Rattle.std.proofs.lemmas.List.{get_or-map, length-map}
use Rattle.std.proofs.lemmas.List.Elements.{All-contains}
use Rattle.jj_paths.specs.Paths.{Name, Path, path_cmp}
use Rattle.jj_merges.specs.declared.merge.SameChange.{SameChange}
use Rattle.jj_backend.specs.Objects.{ById}
use Rattle.jj_backend.specs.Trees.{Entries}
use Rattle.jj_backend.specs.Errors.{is_not_found}
use Rattle.jj_backend.specs.declared.backend.errors.BackendError.{BackendError}
use Rattle.jj_backend.specs.declared.backend.tree_value.TreeValue.{TreeValue}
use Rattle.jj_backend.specs.declared.backend.tree_value.TreeValue.TheVariants.{File, Symlink, Tree, GitSubmodule}
use Rattle.jj_backend.specs.MergedTreeValues.{Values}
use Rattle.jj_trees.specs.TreeMerges.{child, values_at, IsOpen, HasOutcome, IsResolved, IsConflict, AreRead, IsMergeError}
use Rattle.jj_trees.specs.DirectoryMerges.{MustRecurse, Conflict, conflict_entries, IsListOf, IsReadAt, FailsAt, HasOutcomeFrom, HasOutcomeBelow, IsResolvedBelow, IsConflictBelow, IsMerge, IsAppended, IsWithin, IsDirectoryError}
use Rattle.jj_trees.proofs.Joining.{under, image_of, into_image}

module _ {E : Type 0} where
  under_root : (xs : List (Path × E)) → map (under []) xs ≡ xs
  under_root [] = refl
  under_root (x ∷ xs) = λ i. x ∷ under_root xs i

  whole : (dir : Path) (olds news xs : List (Path × E)) → dir ≡ [] → olds ≡ [] → news ≡ olds ++ map (under dir) xs → news ≡ xs
  whole dir olds news xs d o h = h ∙ (λ i. o i ++ map (under (d i)) xs) ∙ under_root xs

pub at_root : (trees : ById Entries) (eq : Option TreeValue → Option TreeValue → Bool) (same_change : SameChange)
    (values : Values) (labels : List (List ℕ)) (dir : Path) (old_r new_r : List (Path × TreeValue)) (old_c new_c : List (Path × Conflict))
    → dir ≡ [] → old_r ≡ [] → old_c ≡ [] → IsAppended trees eq same_change values labels dir old_r new_r old_c new_c
    → IsMerge trees eq same_change values labels new_r new_c
at_root trees eq same_change values labels dir old_r new_r old_c new_c d r c a =
    subst (λ rs. IsMerge trees eq same_change values labels rs new_c) (sym (whole dir old_r new_r a.resolved d r a.resolved_added))
    (subst (λ cs. IsMerge trees eq same_change values labels a.resolved cs) (sym (whole dir old_c new_c a.conflicts d c a.conflicts_added)) a.merge)

pub error_at_root : (trees : ById Entries) (eq : Option TreeValue → Option TreeValue → Bool) (same_change : SameChange)
    (is_read : Path → Option TreeValue → Type 0) (fails : Path → BackendError → Option TreeValue → Type 0)
    (dir : Path) (given values : Values) (n levels : ℕ) (e : BackendError) → dir ≡ [] → given ≡ values → n ≡ levels
    → IsDirectoryError trees eq same_change is_read fails dir given n e → IsDirectoryError trees eq same_change is_read fails [] values levels e
error_at_root trees eq same_change is_read fails dir given values n levels e d v l h =
    subst (λ p. IsDirectoryError trees eq same_change is_read fails p values levels e) d
    (subst (λ vs. IsDirectoryError trees eq same_change is_read fails dir vs levels e) v
    (subst (λ k. IsDirectoryError trees eq same_change is_read fails dir given k e) l h))

-- ---- conflicts as triples

abbrev Triple : Type 0
Triple = Path × Values × List (List ℕ)

abbrev as_entry : Triple → Path × Conflict
as_entry c = (c.0, record { terms = c.1; labels = c.2 })

same_triple : (c : Triple) (path : Path) (terms : Values) (labels : List (List ℕ))
    → ◌≡◌ {A = Path × Conflict} (as_entry c) (path, record { terms = terms; labels = labels }) → ◌≡◌ {A = Triple} c (path, terms, labels)
same_triple c path terms labels same = λ i. (ap (λ e. e.0) same i, ap (λ e. e.1.terms) same i, ap (λ e. e.1.labels) same i)

triple_among : (cs : List Triple) (path : Path) (terms : Values) (labels : List (List ℕ))
    → Contains (map as_entry cs) (path, record { terms = terms; labels = labels }) → Contains cs (path, terms, labels)
triple_among cs path terms labels among =
    let r = image_of as_entry cs (path, record { terms = terms; labels = labels }) among in
    subst (Contains cs) (same_triple r.0 path terms labels r.2) r.1

pub ascending_triples : (cs : List Triple) → AllPairs (λ a b. path_cmp a.0 b.0 ≡ Less) (conflict_entries cs) → AllPairs (λ a b. path_cmp a.0 b.0 ≡ Less) cs
ascending_triples cs h = λ i j d lt within.
    let r = h i j (as_entry d) lt (subst (λ n. j < n) (sym (length-map cs as_entry)) within) in
    subst (λ p. path_cmp p (get_or cs j d).0 ≡ Less) (ap (λ e. e.0) (get_or-map as_entry cs i d (as_entry d) (omega arith)))
    (subst (λ p. path_cmp (get_or (map as_entry cs) i (as_entry d)).0 p ≡ Less) (ap (λ e. e.0) (get_or-map as_entry cs j d (as_entry d) within)) r)

module _ (trees : ById Entries) (eq : Option TreeValue → Option TreeValue → Bool) (same_change : SameChange) where
  -- ---- the recursive form of HasOutcome

  open_rest : (name : Name) (values : Values) (rest : Path) → IsOpen trees eq same_change values (name ∷ rest) → IsOpen trees eq same_change (map (child trees name) values) rest
  open_rest name values rest is_open = is_open.2

  split : (name : Name) (values : Values) (rest : Path) → HasOutcomeBelow trees eq same_change values (name ∷ rest) → HasOutcome trees eq same_change values (name ∷ rest)
  split name values [] h = ([], name, refl, tt, λ is_open. h (is_open.0, is_open.1))
  split name values (m ∷ rest) h =
      let r = split m (map (child trees name) values) rest h.1 in
      (name ∷ r.0, r.1, ap (λ p. name ∷ p) r.2, (h.0.0, h.0.1, r.3), λ is_open. r.4 (open_rest name values (m ∷ rest) is_open))

  has_outcome : (values : Values) (path : Path) → HasOutcomeBelow trees eq same_change values path → HasOutcome trees eq same_change values path
  has_outcome values [] h = absurd h
  has_outcome values (name ∷ rest) h = split name values rest h

  into : (values : Values) (path : Path) → MustRecurse eq same_change values → HasOutcomeBelow trees eq same_change values path → HasOutcomeFrom trees eq same_change values path
  into values [] must h = absurd h
  into values (name ∷ rest) must h = (must, h)

  join : (values : Values) (dir : Path) (name : Name) → IsOpen trees eq same_change values dir
      → (IsOpen trees eq same_change values (dir ++ name ∷ []) → ⊥) → HasOutcomeBelow trees eq same_change values (dir ++ name ∷ [])
  join values [] name is_open not = λ must. not (must.0, must.1, tt)
  join values (m ∷ dir) name is_open not =
      into (map (child trees m) values) (dir ++ name ∷ []) (is_open.0, is_open.1)
      (join (map (child trees m) values) dir name is_open.2 (λ rest. not (is_open.0, is_open.1, rest)))

  pub outcome_below : (values : Values) (path : Path) → HasOutcome trees eq same_change values path → HasOutcomeBelow trees eq same_change values path
  outcome_below values path h =
      subst (HasOutcomeBelow trees eq same_change values) (sym h.2)
      (join values h.0 h.1 h.3 (subst (λ p. IsOpen trees eq same_change values p → ⊥) h.2 h.4))

  -- ---- the clauses of a merge

  module _ (values : Values) (labels : List (List ℕ)) where
    pub resolved_exactly : (rs : List (Path × TreeValue)) → IsListOf (IsResolvedBelow trees eq same_change values) rs
        → (path : Path) (v : TreeValue) → Contains rs (path, v) ↔ IsResolved trees eq same_change values path v
    resolved_exactly rs l path v = (
      λ c. let h = (l.exactly path v).0 c in (has_outcome values path h.0, h.1),
      λ h. (l.exactly path v).1 (outcome_below values path h.0, h.1),
    )

    pub conflicts_exactly : (cs : List Triple) → IsListOf (IsConflictBelow trees eq same_change values labels) (conflict_entries cs)
        → (path : Path) (terms : Values) (term_labels : List (List ℕ))
        → Contains cs (path, terms, term_labels) ↔ IsConflict trees eq same_change values labels path terms term_labels
    conflicts_exactly cs l path terms term_labels = (
      λ c. let h = (l.exactly path (record { terms = terms; labels = term_labels })).0 (into_image as_entry cs (path, terms, term_labels) c) in
          (has_outcome values path h.0, h.1.0, h.1.1, h.1.2),
      λ h. triple_among cs path terms term_labels
          ((l.exactly path (record { terms = terms; labels = term_labels })).1 (outcome_below values path h.0, (h.1, h.2, h.3))),
    )

  module _ (may_read_tree : Path → List ℕ → Result Entries BackendError → Type 0) (values : Values) (levels : ℕ) where
    pub are_read : (fails : Path → BackendError → Option TreeValue → Type 0)
        → IsWithin trees eq same_change (IsReadAt trees may_read_tree) fails [] values levels → AreRead trees eq same_change may_read_tree values levels
    are_read fails w = record {
      read = λ path id is_open among.
          let r = All-contains (IsReadAt trees may_read_tree path) (values_at trees values path) (Some (Tree id)) (w.read path is_open) among in
          subst (λ o. IsSomeAnd o (λ entries. may_read_tree path id (Ok entries))) (sym r.2) r.1;
      not_deeper = w.not_deeper;
    }

    module _ (may_fail : BackendError → Type 0) (e : BackendError) where
      abbrev FailedTree : Path → Values → Type 0
      FailedTree path vs = (id : List ℕ) × Contains vs (Some (Tree id)) × may_read_tree path id (Err e)
          × MatchBool (is_not_found e) (trees id ≡ None) (may_fail e)

      failed_at : (path : Path) (vs : Values) (k : ℕ) (v : Option TreeValue) → k < length vs → get_or vs k v ≡ v
          → FailsAt trees may_read_tree may_fail path e v → FailedTree path vs
      failed_at path vs k (Some (Tree id)) lt is f = (id, (k, lt, is), f.0, f.1)
      failed_at path vs k None lt is f = absurd f
      failed_at path vs k (Some (File id executable copy_id)) lt is f = absurd f
      failed_at path vs k (Some (Symlink id)) lt is f = absurd f
      failed_at path vs k (Some (GitSubmodule id)) lt is f = absurd f

      pub merge_error : IsDirectoryError trees eq same_change (IsReadAt trees may_read_tree) (FailsAt trees may_read_tree may_fail) [] values levels e
          → IsMergeError trees eq same_change may_read_tree may_fail values levels e
      merge_error (inl m) = inl m
      merge_error (inr (inl t)) =
          let r = failed_at t.0 (values_at trees values t.0) t.2.0 t.2.1 t.2.2 t.2.3 t.2.4 in
          inr (inl (t.0, r.0, t.1, r.1, r.2, r.3))
      merge_error (inr (inr t)) = inr (inr t)
