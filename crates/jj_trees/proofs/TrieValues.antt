-- Tries of paths with values: insertion, and the errors of paths that are not prefix-free.
use Rattle.std.proofs.Common.{◌≡◌, ◌≢◌, ◌⊎◌, inl, inr, ℕ, ◌+◌, ◌<◌, Bool, true, false, List, [], ◌∷◌, ◌++◌, length, get_or, Option, Some, None, is_some, refl, sym, ap, subst, ◌∙◌, append_assoc, append-nil, arith, length-append}
use Rattle.std.specs.Prelude.{Result, Ok, Err, IfOk, IfErr, IsSome, Any, Contains, option_and_then, option_map}
use Rattle.std.proofs.Math.Seq.{get_or-append_seam}
use Rattle.std.proofs.Math.ListN.{get_or-append}
use Rattle.std.proofs.lemmas.Bool.{cases_order}
use Rattle.std.specs.Global.{Global}
use Rattle.std.proofs.lemmas.List.Elements.{Contains-append_left, Contains-push, Contains-push_cases, All-contains}
use Rattle.std.proofs.lemmas.List.{get_or_default}
use Rattle.std.proofs.lemmas.Slice.Eq.{bytes_eq-Decides}
use Rattle.jj_paths.specs.Paths.{Name, Path, IsBelow}
use Rattle.jj_paths.specs.Orders.{path_eq, path_eq-Decides}
use Rattle.jj_paths.specs.Tree.{tree_of, none, branch, has_branches, child, get, value_at, SetsValue}
use Rattle.jj_paths.proofs.ListedNodes.{nothing_there}
use Rattle.jj_backend.specs.Errors.{IsOtherOf}
use Rattle.jj_backend.specs.Objects.{ById, Object, Objects}
use Rattle.jj_backend.specs.Trees.{Entries}
use Rattle.jj_backend.specs.declared.backend.tree_value.TreeValue.{TreeValue}
use Rattle.jj_backend.specs.declared.backend.tree_value.TreeValue.TheVariants.{Tree}
use Rattle.jj_backend.specs.declared.backend.errors.BackendError.{BackendError}
use Rattle.jj_backend.specs.declared.backend.errors.BackendError.TheVariants.{Memory, Unsupported}
use Rattle.jj_files.specs.declared.file_util.errors.SourceKind.TheVariants.{Data}
use Rattle.std.specs.declared.string.String.{String}
use Rattle.jj_trees.specs.WrittenTrees.{PathValues, IsPrefixFree, IsTreeOf, AddsTrees, IsTreeWriteError, IsWriteBackError}
use Rattle.jj_trees.specs.PathTries.{Node, Nodes, is_value, IsTrieOf, IsStored, IsFull, IsNodeError}
use Rattle.jj_trees.proofs.StoredTries.{has, only, IsReached, IsNodeValue, directory_entry, adds_more}

pub value_there : (o : Option (Option TreeValue)) → is_value o ≡ true → (v : TreeValue) × (o ≡ Some (Some v))
value_there None h = absurd cc
value_there (Some None) h = absurd cc
value_there (Some (Some v)) h = (v, refl)

pub no_value_there : (o : Option (Option TreeValue)) (v : TreeValue) → is_value o ≡ false → o ≢ Some (Some v)
no_value_there o v h is = let e : is_value o ≡ true = ap is_value is in absurd cc

-- a node with children and a value
pub full_node : (node : Node) (v : TreeValue) → node.value ≡ Some v → has_branches node.branches ≡ true → (path : Path) × IsFull node path
full_node node v is more = by_branches node.branches refl
  where
    by_branches : (b : Nodes) → node.branches ≡ b → (path : Path) × IsFull node path
    by_branches none at = let e : false ≡ true = sym (ap has_branches at) ∙ more in absurd cc
    by_branches (branch name value below after) at = (
      [],
      (
        v,
        name,
        ap Some is,
        ap (λ b. is_some (value_at (tree_of node.value b) (name ∷ []))) at ∙ rw ((bytes_eq-Decides name name).1 refl) refl,
      ),
    )

-- a trie of only the root
pub no_values : (trie : Node) → trie.value ≡ None → trie.branches ≡ none → IsTrieOf [] trie
no_values trie value alone = record {
  root = value;
  has = λ path v c. absurd (nothing_there {X = Path × TreeValue} (path, v) c);
  only = nowhere;
  directory = λ name rest is. let e : ◌≡◌ {A = Option (Option TreeValue)} None (Some None) = sym (ap (λ b. value_at (tree_of trie.value b) (name ∷ rest)) alone) ∙ is in absurd cc;
}
  where
    nowhere : (path : Path) (v : TreeValue) → value_at trie path ≡ Some (Some v) → Contains {X = Path × TreeValue} [] (path, v)
    nowhere [] v is = let e : Some trie.value ≡ Some (Some v) = is in absurd cc
    nowhere (name ∷ rest) v is = let e : None ≡ Some (Some v) = sym (ap (λ b. value_at (tree_of trie.value b) (name ∷ rest)) alone) ∙ is in absurd cc

-- a value is inserted at a path that has none and is not the root
module _ (values : PathValues) (old new : Node) (path : Path) (value : TreeValue) (trie : IsTrieOf values old)
    (set : SetsValue (λ o. o ≡ None) old path (Some value) new) where
  abbrev more : PathValues
  more = values ++ (path, value) ∷ []

  here : (q : Path) (o : Option TreeValue) → q ≡ path → value_at new q ≡ Some o → o ≡ Some value
  here q o e is = let h : Some o ≡ Some (Some value) = sym is ∙ ap (value_at new) e ∙ set.here in cc

  only_more : (q : Path) (v : TreeValue) → value_at new q ≡ Some (Some v) → Contains more (q, v)
  only_more q v is = by_test (path_eq q path) refl
    where
      elsewhere : q ≢ path → (o : Option (Option TreeValue)) → value_at old q ≡ o → Contains more (q, v)
      elsewhere other None at = let e : Some v ≡ None = (set.makes q (Some v) other at is).0 in absurd cc
      elsewhere other (Some o) at =
          let e : Some o ≡ Some (Some v) = sym (set.keeps q o other at) ∙ is in
          let f : o ≡ Some v = cc in
          Contains-append_left values ((path, value) ∷ []) (q, v) (trie.only q v (at ∙ ap Some f))

      by_test : (t : Bool) → path_eq q path ≡ t → Contains more (q, v)
      by_test true h =
          let e : q ≡ path = (path_eq-Decides q path).0 h in
          let f : Some v ≡ Some value = here q (Some v) e is in
          let g : v ≡ value = cc in
          subst (Contains more) (λ i. (sym e i, sym g i)) (Contains-push values (path, value))
      by_test false h = elsewhere (λ e. let f = (path_eq-Decides q path).1 e in absurd cc) (value_at old q) refl

  directory_more : (name : Name) (rest : Path) → value_at new (name ∷ rest) ≡ Some None → (v : Path × TreeValue) × Contains more v × IsBelow v.0 (name ∷ rest)
  directory_more name rest is = by_test (path_eq (name ∷ rest) path) refl
    where
      elsewhere : (name ∷ rest) ≢ path → (o : Option (Option TreeValue)) → value_at old (name ∷ rest) ≡ o → (v : Path × TreeValue) × Contains more v × IsBelow v.0 (name ∷ rest)
      elsewhere other None at = ((path, value), Contains-push values (path, value), (set.makes (name ∷ rest) None other at is).1)
      elsewhere other (Some o) at =
          let e : Some o ≡ Some None = sym (set.keeps (name ∷ rest) o other at) ∙ is in
          let f : o ≡ None = cc in
          let found = trie.directory name rest (at ∙ ap Some f) in
          (found.0, Contains-append_left values ((path, value) ∷ []) found.0 found.1, found.2)

      by_test : (t : Bool) → path_eq (name ∷ rest) path ≡ t → (v : Path × TreeValue) × Contains more v × IsBelow v.0 (name ∷ rest)
      by_test true h = let e : None ≡ Some value = here (name ∷ rest) None ((path_eq-Decides (name ∷ rest) path).0 h) is in absurd cc
      by_test false h = elsewhere (λ e. let f = (path_eq-Decides (name ∷ rest) path).1 e in absurd cc) (value_at old (name ∷ rest)) refl

  pub inserted : path ≢ [] → ((v : TreeValue) → value_at old path ≢ Some (Some v)) → IsTrieOf more new
  inserted below free = record {
    root = let e : Some new.value ≡ Some None = set.keeps [] None (λ e. below (sym e)) (ap Some trie.root) in cc;
    has = λ q v c. by_place q v (Contains-push_cases values (path, value) (q, v) c);
    only = only_more;
    directory = directory_more;
  }
    where
      by_place : (q : Path) (v : TreeValue) → Contains values (q, v) ⊎ ◌≡◌ {A = Path × TreeValue} (path, value) (q, v) → value_at new q ≡ Some (Some v)
      by_place q v (inl c) = set.keeps q (Some v) (λ e. free v (ap (value_at old) (sym e) ∙ trie.has q v c)) (trie.has q v c)
      by_place q v (inr e) = ap (λ (x : Path × TreeValue). value_at new x.0) (sym e) ∙ set.here ∙ ap (λ (x : Path × TreeValue). Some (Some x.1)) e

-- ---- paths that are not prefix-free

-- no path is longer than itself
not_longer : (path rest : Path) (name : Name) → path ≢ path ++ name ∷ rest
not_longer path rest name is = absurd (omega (arith, ap length is, length-append path (name ∷ rest)))

-- of two values of a prefix-free list no path is below the other's
apart : (values : PathValues) (v w : Path × TreeValue) (name : Name) (rest : Path) → IsPrefixFree values → Contains values v → Contains values w → w.0 ≢ v.0 ++ name ∷ rest
apart values v w name rest free cv cw is = elim (cases_order cv.0 cw.0) [
  | inl same ↦
      let e : w ≡ v = sym cw.2 ∙ get_or_default values cw.0 w v cw.1 ∙ ap (λ k. get_or values k v) (sym same) ∙ cv.2 in
      not_longer v.0 rest name (ap (λ (x : Path × TreeValue). x.0) (sym e) ∙ is)
  | inr (inl before) ↦
      (free.apart cv.0 cw.0 v before cw.1).1 (name ∷ rest, ap (λ (x : Path × TreeValue). x.0) (get_or_default values cw.0 v w cw.1 ∙ cw.2) ∙ is ∙ ap (λ (x : Path × TreeValue). x.0 ++ name ∷ rest) (sym cv.2))
  | inr (inr after) ↦
      (free.apart cw.0 cv.0 w after cv.1).0 (name ∷ rest, ap (λ (x : Path × TreeValue). x.0) cw.2 ∙ is ∙ ap (λ (x : Path × TreeValue). x.0 ++ name ∷ rest) (sym (get_or_default values cv.0 w v cv.1 ∙ cv.2)))
]

pub prefix_before : (xs ys : PathValues) → IsPrefixFree (xs ++ ys) → IsPrefixFree xs
prefix_before xs ys free = record {
  not_root = λ k d lt. subst (λ (x : Path × TreeValue). x.0 ≢ []) (get_or-append xs ys d k lt) (free.not_root k d (omega (arith, length-append xs ys)));
  apart = λ i j d lt within.
      let left : i < length xs = omega arith in
      subst (λ (x : Path × TreeValue). (IsBelow (get_or xs i d).0 x.0 → ⊥) × (IsBelow x.0 (get_or xs i d).0 → ⊥)) (get_or-append xs ys d j within)
      (subst (λ (x : Path × TreeValue). (IsBelow x.0 (get_or (xs ++ ys) j d).0 → ⊥) × (IsBelow (get_or (xs ++ ys) j d).0 x.0 → ⊥)) (get_or-append xs ys d i left)
      (free.apart i j d lt (omega (arith, length-append xs ys))));
}

-- the root has no value
pub root_refused : (values : PathValues) (path : Path) (value : TreeValue) → path ≡ [] → IsPrefixFree (values ++ (path, value) ∷ []) → ⊥
root_refused values path value is free = All-contains (λ (v : Path × TreeValue). v.0 ≢ []) (values ++ (path, value) ∷ []) (path, value) free.not_root (Contains-push values (path, value)) is

-- a path with a value gets no other
pub taken_refused : (values : PathValues) (trie : Node) (path : Path) (value v : TreeValue) → IsTrieOf values trie → value_at trie path ≡ Some (Some v) → IsPrefixFree (values ++ (path, value) ∷ []) → ⊥
taken_refused values trie path value v of is free =
    let c = of.only path v is in
    let d : Path × TreeValue = (path, v) in
    let here : get_or (values ++ (path, value) ∷ []) c.0 d ≡ d = get_or-append values ((path, value) ∷ []) d c.0 c.1 ∙ c.2 in
    let last : get_or (values ++ (path, value) ∷ []) (length values) d ≡ (path, value) = get_or-append_seam values (path, value) [] d in
    (free.apart c.0 (length values) d c.1 (omega (arith, length-append values ((path, value) ∷ [])))).0
    ([], ap (λ (x : Path × TreeValue). x.0) here ∙ sym (append-nil path) ∙ ap (λ (x : Path × TreeValue). x.0 ++ []) (sym last))

module _ (values : PathValues) (trie : Node) (of : IsTrieOf values trie) where
  below_directory : (path : Path) (name : Name) → value_at trie (path ++ name ∷ []) ≡ Some None → (v : Path × TreeValue) × Contains values v × IsBelow v.0 (path ++ name ∷ [])
  below_directory [] name is = of.directory name [] is
  below_directory (n ∷ path) name is = of.directory n (path ++ name ∷ []) is

  -- a value above another
  pub full_refused : (path : Path) → IsFull trie path → IsPrefixFree values → ⊥
  full_refused path full free = by_node (value_at trie (path ++ full.1 ∷ [])) refl full.3
    where
      above : Contains values (path, full.0)
      above = of.only path full.0 full.2

      by_node : (o : Option (Option TreeValue)) → value_at trie (path ++ full.1 ∷ []) ≡ o → IsSome o → ⊥
      by_node None at there = absurd cc
      by_node (Some None) at there =
          let found = below_directory path full.1 at in
          apart values (path, full.0) found.0 full.1 found.2.0 free above found.1 (found.2.1 ∙ append_assoc path (full.1 ∷ []) found.2.0)
      by_node (Some (Some v)) at there =
          apart values (path, full.0) (path ++ full.1 ∷ [], v) full.1 [] free above (of.only (path ++ full.1 ∷ []) v at) refl

  -- below a directory there is a longer path
  pub deeper : (path : Path) (n : ℕ) → 0 < n → length path ≡ n → value_at trie path ≡ Some None → Any (λ v. n < length v.0) values
  deeper [] n more is at = absurd (omega arith)
  deeper (name ∷ rest) n more is at = longer (of.directory name rest at)
    where
      longer : (v : Path × TreeValue) × Contains values v × IsBelow v.0 (name ∷ rest) → Any (λ v. n < length v.0) values
      longer (v, c, ([], e)) =
          let same : v ≡ (name ∷ rest, v.1) = λ i. ((e ∙ append-nil (name ∷ rest)) i, v.1) in
          let there : Some None ≡ Some (Some v.1) = sym at ∙ of.has (name ∷ rest) v.1 (subst (Contains values) same c) in
          absurd cc
      longer (v, c, (m ∷ more', e)) = (c.0, v, c.1, c.2, omega (arith, is, ap length e, length-append (name ∷ rest) (m ∷ more')))

  -- the tree that is written for the trie has its values
  pub tree_of_values : (trees : ById Entries) (id : List ℕ) → IsStored trees trie.branches id → IsTreeOf trees values id
  tree_of_values trees id stored = record {
    has = λ path v c. has trees path trie (Tree id) v root (of.has path v c);
    only = λ name rest v is. reached name rest (only trees (name ∷ rest) trie (Tree id) v root is);
  }
    where
      root : IsNodeValue trees trie (Tree id)
      root = directory_entry trees trie.value trie.branches id (sym of.root) stored

      at_value : (v : Path × TreeValue) (path : Path) → Contains values v → IsBelow v.0 path ⊎ IsBelow path v.0 → Any (λ w. IsBelow w.0 path ⊎ IsBelow path w.0) values
      at_value v path c h = (c.0, v, c.1, c.2, h)

      reached : (name : Name) (rest : Path) → IsReached trees trie (name ∷ rest) → Any (λ v. IsBelow v.0 (name ∷ rest) ⊎ IsBelow (name ∷ rest) v.0) values
      reached name rest (inl (None, is)) = let found = of.directory name rest is in at_value found.0 (name ∷ rest) found.1 (inl found.2)
      reached name rest (inl (Some v, is)) = at_value (name ∷ rest, v) (name ∷ rest) (of.only (name ∷ rest) v is) (inl ([], sym (append-nil (name ∷ rest))))
      reached name rest (inr (above, below, v, e, is)) = at_value (above, v) (name ∷ rest) (of.only above v is) (inr (below, e))

-- ---- errors of writing

-- another condition under which an error comes
pub other_cause : {M O P Q : Type 0} → (P → Q) → M ⊎ (O × P) → M ⊎ (O × Q)
other_cause f (inl m) = inl m
other_cause f (inr h) = inr (h.0, f h.1)

module _ {B : Type 0} (objects : B → Objects) (may_fail : B → Object → BackendError → Type 0) where
  write_later : (old now : B) (e : BackendError) → AddsTrees (objects old) (objects now) → IsTreeWriteError objects may_fail now e → IsTreeWriteError objects may_fail old e
  write_later old now e more h = (h.0, h.1, adds_more (objects old) (objects now) (objects h.0) more h.2, h.3)

  pub too_deep_node : (old : B) (node : Node) (levels : ℕ) (e : BackendError) → node.value ≡ None → levels ≡ 0 → (e ≡ Memory) ⊎ ((message : String Global) × (e ≡ Unsupported message)) → IsNodeError objects may_fail old node levels e
  too_deep_node old node levels e value zero' (inl memory) = inl memory
  too_deep_node old node levels e value zero' (inr (message, is)) = inr (inr (inl (message, is, ([], sym zero', ap Some value))))

  at_child : (node sub : Node) (name : Name) (path : Path) → child node.branches name ≡ Some sub → value_at node (name ∷ path) ≡ value_at sub path
  at_child node sub name path at = ap (λ (c : Option Node). option_map (λ x. x.value) (option_and_then (λ s. get s path) c)) at

  full_below : (node sub : Node) (name : Name) → child node.branches name ≡ Some sub → (path : Path) × IsFull sub path → (path : Path) × IsFull node path
  full_below node sub name at (path, full) = (name ∷ path, (full.0, full.1, at_child node sub name path at ∙ full.2, subst IsSome (sym (at_child node sub name (path ++ full.1 ∷ []) at)) full.3))

  -- a child with children and a value
  pub leaf_error : (old : B) (node sub : Node) (name : Name) (levels : ℕ) (e : BackendError) → child node.branches name ≡ Some sub
      → (e ≡ Memory) ⊎ (IsOtherOf Data e × ((path : Path) × IsFull sub path)) → IsNodeError objects may_fail old node levels e
  leaf_error old node sub name levels e at (inl memory) = inl memory
  leaf_error old node sub name levels e at (inr (other, full)) = inr (inl (other, full_below node sub name at full))

  -- an error of a child is one of its node
  pub child_error : (old now : B) (node sub : Node) (name : Name) (n levels : ℕ) (e : BackendError) → child node.branches name ≡ Some sub → n + 1 ≡ levels
      → AddsTrees (objects old) (objects now) → IsNodeError objects may_fail now sub n e → IsNodeError objects may_fail old node levels e
  child_error old now node sub name n levels e at is more h = by_cause h
    where
      by_cause : IsNodeError objects may_fail now sub n e → IsNodeError objects may_fail old node levels e
      by_cause (inl memory) = inl memory
      by_cause (inr (inl (other, full))) = inr (inl (other, full_below node sub name at full))
      by_cause (inr (inr (inl (message, unsupported, (path, long, is'))))) = inr (inr (inl (message, unsupported, (name ∷ path, omega arith, at_child node sub name path at ∙ is'))))
      by_cause (inr (inr (inr failed))) = inr (inr (inr (write_later old now e more failed)))

  pub write_error : (old : B) (values : PathValues) (trie : Node) (e : BackendError) → IsTrieOf values trie → IsNodeError objects may_fail old trie 1024 e → IsWriteBackError objects may_fail old values e
  write_error old values trie e of h = by_cause h
    where
      by_cause : IsNodeError objects may_fail old trie 1024 e → IsWriteBackError objects may_fail old values e
      by_cause (inl memory) = inl memory
      by_cause (inr (inl (other, (path, full)))) = inr (inl (other, full_refused values trie of path full))
      by_cause (inr (inr (inl (message, unsupported, (path, long, is))))) = inr (inr (inl (message, unsupported, deeper values trie of path 1024 (omega arith) long is)))
      by_cause (inr (inr (inr failed))) = inr (inr (inr failed))

  pub write_errors : (old : B) (values : PathValues) (trie : Node) (r : Result (List ℕ) BackendError) → IsTrieOf values trie → IfErr r (IsNodeError objects may_fail old trie 1024) → IfErr r (IsWriteBackError objects may_fail old values)
  write_errors old values trie (Ok id) of h = tt
  write_errors old values trie (Err e) of h = write_error old values trie e of h

pub tree_ok : (values : PathValues) (trie : Node) (trees : ById Entries) (r : Result (List ℕ) BackendError) → IsTrieOf values trie → IfOk r (IsStored trees trie.branches) → IfOk r (IsTreeOf trees values)
tree_ok values trie trees (Ok id) of h = tree_of_values values trie of trees id h
tree_ok values trie trees (Err e) of h = tt
