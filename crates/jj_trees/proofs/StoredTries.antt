-- The trees that are written for the directories of a trie.
use Rattle.std.proofs.Common.{◌≡◌, ◌⊎◌, inl, inr, ℕ, ◌+◌, ◌<◌, Bool, true, false, ◌&&◌, List, [], ◌∷◌, ◌++◌, length, get_or, take, Option, Some, None, refl, sym, ap, subst, ◌∙◌}
use Rattle.std.specs.Prelude.{Result, Ok, Err, IfOk, IfSome, OnErr, option_and_then, option_map}
use Rattle.std.specs.Map.{lookup}
use Rattle.std.specs.Ordering.{is_lt}
use Rattle.std.specs.Str.{bytes_eq}
use Rattle.std.specs.FinMap.{is_sorted}
use Rattle.std.specs.FinMap.Entries.{below_all}
use Rattle.std.proofs.lemmas.Slice.Eq.{bytes_eq-Decides}
use Rattle.std.proofs.lemmas.List.{take_more, get_or_default}
use Rattle.std.proofs.Math.Seq.{take-length}
use Rattle.jj_paths.proofs.ChildLookup.{child-at}
use Rattle.jj_paths.specs.Paths.{Name, Path, name_cmp}
use Rattle.jj_paths.specs.Tree.{tree_of, none, branch, branches_of, children, child, get, value_at}
use Rattle.jj_backend.specs.Objects.{ById, Objects, put, IsFree, AddsTree}
use Rattle.jj_backend.specs.Trees.{Entries}
use Rattle.jj_backend.specs.declared.backend.tree_value.TreeValue.{TreeValue}
use Rattle.jj_backend.specs.declared.backend.tree_value.TreeValue.TheVariants.{Tree}
use Rattle.jj_backend.specs.declared.backend.errors.BackendError.{BackendError}
use Rattle.jj_trees.specs.WrittenTrees.{AddsTrees, stored_at}
use Rattle.jj_trees.specs.PathTries.{Node, Nodes, IsEntryValue, AreStored, IsStored}

-- ---- objects

pub adds_none : (o : Objects) → AddsTrees o o
adds_none o = record { kept = λ id entries h. h; others = refl }

pub adds_more : (a b c : Objects) → AddsTrees a b → AddsTrees b c → AddsTrees a c
adds_more a b c h k = record {
  kept = λ id entries e. k.kept id entries (h.kept id entries e);
  others = k.others ∙ ap (λ (o : Objects). record o { trees = c.trees }) h.others;
}

module _ (old : ById Entries) (id : List ℕ) (entries : Entries) where
  put-kept : IsFree old id entries → (q : List ℕ) (found : Entries) → old q ≡ Some found → put old id entries q ≡ Some found
  put-kept free q found is = by_test (bytes_eq id q) refl
    where
      same : (id ≡ q) → (free' : IsFree old id entries) → entries ≡ found
      same e (inl nothing) = let both : None ≡ Some found = sym nothing ∙ ap old e ∙ is in absurd cc
      same e (inr there) = let both : Some entries ≡ Some found = sym there ∙ ap old e ∙ is in cc

      by_test : (t : Bool) → bytes_eq id q ≡ t → put old id entries q ≡ Some found
      by_test true h = rw h (ap Some (same ((bytes_eq-Decides id q).0 h) free))
      by_test false h = rw h is

pub adds_one : (old new : Objects) (id : List ℕ) (entries : Entries) → AddsTree old new id entries → AddsTrees old new
adds_one old new id entries h = record {
  kept = λ q found is. ap (λ (o : Objects). o.trees q) h.1 ∙ put-kept old.trees id entries h.0 q found is;
  others = h.1 ∙ ap (λ (t : ById Entries). record old { trees = t }) (sym (ap (λ (o : Objects). o.trees) h.1));
}

-- the new tree is found
pub added_there : (old new : Objects) (id : List ℕ) (entries : Entries) → AddsTree old new id entries → new.trees id ≡ Some entries
added_there old new id entries h = ap (λ (o : Objects). o.trees id) h.1 ∙ rw ((bytes_eq-Decides id id).1 refl) refl

-- ---- entries

module _ (trees : ById Entries) where
  abbrev append_nodes : Nodes → Nodes → Nodes
  append_nodes none c = c
  append_nodes (branch name value below after) c = branch name value below (append_nodes after c)

  branches_of-append : (xs ys : List (Name × Node)) → branches_of (xs ++ ys) ≡ append_nodes (branches_of xs) (branches_of ys)
  branches_of-append [] ys = refl
  branches_of-append (x ∷ xs) ys = ap (branch x.0 x.1.value x.1.branches) (branches_of-append xs ys)

  stored-append : (b c : Nodes) (es fs : Entries) → AreStored trees b es → AreStored trees c fs → AreStored trees (append_nodes b c) (es ++ fs)
  stored-append none c [] fs h k = k
  stored-append none c (e ∷ es) fs h k = absurd h
  stored-append (branch name value below after) c [] fs h k = absurd h
  stored-append (branch name value below after) c (e ∷ es) fs h k = (h.0, h.1, stored-append after c es fs h.2 k)

  -- one more entry
  pub stored-push : (xs : List (Name × Node)) (x : Name × Node) (es : Entries) (w : TreeValue) → AreStored trees (branches_of xs) es
      → IsEntryValue trees x.1.value x.1.branches (AreStored trees x.1.branches) w → AreStored trees (branches_of (xs ++ x ∷ [])) (es ++ (x.0, w) ∷ [])
  stored-push xs x es w h k =
      subst (λ b. AreStored trees b (es ++ (x.0, w) ∷ [])) (sym (branches_of-append xs (x ∷ [])))
      (stored-append (branches_of xs) (branches_of (x ∷ [])) es ((x.0, w) ∷ []) h (refl, k, tt))

  -- one more entry, in a loop over the children
  pub stored_more : (xs : List (Name × Node)) (i : ℕ) (x d : Name × Node) (es : Entries) (w : TreeValue) → i < length xs → get_or xs i d ≡ x → AreStored trees (branches_of (take i xs)) es
      → IsEntryValue trees x.1.value x.1.branches (AreStored trees x.1.branches) w → AreStored trees (branches_of (take (i + 1) xs)) (es ++ (x.0, w) ∷ [])
  stored_more xs i x d es w lt is h k =
      subst (λ l. AreStored trees (branches_of l) (es ++ (x.0, w) ∷ [])) (ap (λ y. take i xs ++ y ∷ []) (sym is) ∙ sym (take_more xs i d lt)) (stored-push (take i xs) x es w h k)

  pub leaf_entry : (o : Option TreeValue) (below : Nodes) (P : Entries → Type 0) (v : TreeValue) → Some v ≡ o → below ≡ none → IsEntryValue trees o below P v
  leaf_entry None below P v is empty = absurd cc
  leaf_entry (Some w) below P v is empty = (empty, (cc))

  pub directory_entry : (o : Option TreeValue) (below : Nodes) (id : List ℕ) → None ≡ o → IsStored trees below id → IsEntryValue trees o below (AreStored trees below) (Tree id)
  directory_entry None below id is stored = (id, stored.0, refl, stored.1, stored.2)
  directory_entry (Some w) below id is stored = absurd cc

  -- ---- order of names

  below_all-stored : (n m : Name) (b : Nodes) (es : Entries) → n ≡ m → AreStored trees b es → below_all name_cmp n es ≡ below_all name_cmp m (children b)
  below_all-stored n m none [] e h = refl
  below_all-stored n m none (x ∷ es) e h = absurd h
  below_all-stored n m (branch name value below after) [] e h = absurd h
  below_all-stored n m (branch name value below after) (x ∷ es) e h =
      ap (λ k. is_lt (name_cmp k x.0) && below_all name_cmp n es) e
      ∙ ap (λ k. is_lt (name_cmp m k) && below_all name_cmp n es) h.0
      ∙ ap (λ t. is_lt (name_cmp m name) && t) (below_all-stored n m after es e h.2)

  pub is_sorted-stored : (b : Nodes) (es : Entries) → AreStored trees b es → is_sorted name_cmp es ≡ is_sorted name_cmp (children b)
  is_sorted-stored none [] h = refl
  is_sorted-stored none (x ∷ es) h = absurd h
  is_sorted-stored (branch name value below after) [] h = absurd h
  is_sorted-stored (branch name value below after) (x ∷ es) h =
      ap (λ t. t && is_sorted name_cmp es) (below_all-stored x.0 name after es h.0 h.2)
      ∙ ap (λ t. below_all name_cmp name (children after) && t) (is_sorted-stored after es h.2)

branches_of-children : (b : Nodes) → branches_of (children b) ≡ b
branches_of-children none = refl
branches_of-children (branch name value below after) = ap (branch name value below) (branches_of-children after)

-- all children are stored
pub stored_all : (trees : ById Entries) (b : Nodes) (n : ℕ) (es : Entries) → n ≡ length (children b) → AreStored trees (branches_of (take n (children b))) es → AreStored trees b es
stored_all trees b n es is h = subst (λ c. AreStored trees c es) (ap branches_of (ap (λ k. take k (children b)) is ∙ take-length (children b)) ∙ branches_of-children b) h

-- the child at an index is that of its name
pub child_at : (b : Nodes) (i : ℕ) (x : Name × Node) → is_sorted name_cmp (children b) ≡ true → i < length (children b) → get_or (children b) i x ≡ x → child b x.0 ≡ Some x.1
child_at b i x sorted lt is =
    ap (λ c. child c x.0) (sym (branches_of-children b))
    ∙ child-at (children b) x.0 i x sorted (record { in_range = lt; has_name = λ d. ap (λ y. y.0) (get_or_default (children b) i d x lt ∙ is) })
    ∙ ap (λ y. Some y.1) is

-- stored nodes stay so with further trees
module _ (old new : ById Entries) (kept : (id : List ℕ) (entries : Entries) → old id ≡ Some entries → new id ≡ Some entries) where
  value-kept : (o : Option TreeValue) (below : Nodes) (P Q : Entries → Type 0) (w : TreeValue) → ((es : Entries) → P es → Q es) → IsEntryValue old o below P w → IsEntryValue new o below Q w
  value-kept None below P Q w to h = (h.0, h.1, h.2, kept h.0 h.1 h.3, to h.1 h.4)
  value-kept (Some v) below P Q w to h = h

  pub stored-kept : (b : Nodes) (es : Entries) → AreStored old b es → AreStored new b es
  stored-kept none [] h = h
  stored-kept none (e ∷ es) h = absurd h
  stored-kept (branch name value below after) [] h = absurd h
  stored-kept (branch name value below after) (e ∷ es) h =
      (h.0, value-kept value below (AreStored old below) (AreStored new below) e.1 (λ fs k. stored-kept below fs k) h.1, stored-kept after es h.2)

-- ---- values at paths

bytes_eq-swap : (a b : List ℕ) → bytes_eq a b ≡ bytes_eq b a
bytes_eq-swap a b = by_test (bytes_eq a b) refl (bytes_eq b a) refl
  where
    by_test : (s : Bool) → bytes_eq a b ≡ s → (t : Bool) → bytes_eq b a ≡ t → bytes_eq a b ≡ bytes_eq b a
    by_test true h true k = h ∙ sym k
    by_test false h false k = h ∙ sym k
    by_test true h false k = let e : bytes_eq b a ≡ true = (bytes_eq-Decides b a).1 (sym ((bytes_eq-Decides a b).0 h)) in h ∙ sym e
    by_test false h true k = let e : bytes_eq a b ≡ true = (bytes_eq-Decides a b).1 (sym ((bytes_eq-Decides b a).0 k)) in e ∙ sym k

module _ (trees : ById Entries) where
  -- the value is that of the node in its directory
  abbrev pub IsNodeValue : Node → TreeValue → Type 0
  IsNodeValue node w = IsEntryValue trees node.value node.branches (AreStored trees node.branches) w

  -- a child and an entry of one name: both are absent, or the entry has the child's value
  abbrev pub AreAlike : Option Node → Option TreeValue → Type 0
  AreAlike None None = Unit {0}
  AreAlike None (Some w) = ⊥
  AreAlike (Some node) None = ⊥
  AreAlike (Some node) (Some w) = IsNodeValue node w

  pub alike : (b : Nodes) (es : Entries) (name : Name) → AreStored trees b es → AreAlike (child b name) (lookup (bytes_eq name) es)
  alike none [] name h = tt
  alike none (e ∷ es) name h = absurd h
  alike (branch n value below after) [] name h = absurd h
  alike (branch n value below after) (e ∷ es) name h = by_test (alike after es name h.2) (bytes_eq n name) refl
    where
      same : bytes_eq name e.0 ≡ bytes_eq n name
      same = ap (bytes_eq name) h.0 ∙ bytes_eq-swap name n

      by_test : AreAlike (child after name) (lookup (bytes_eq name) es) → (t : Bool) → bytes_eq n name ≡ t → AreAlike (child (branch n value below after) name) (lookup (bytes_eq name) (e ∷ es))
      by_test hyp true is = rw (is, same ∙ is) h.1
      by_test hyp false is = rw (is, same ∙ is) hyp

  pub stored_at-none : (path : Path) → stored_at trees None path ≡ None
  stored_at-none [] = refl
  stored_at-none (name ∷ rest) = stored_at-none rest

  -- the value at a name of a directory is that of its entry
  pub stored_at-tree : (id : List ℕ) (tree : Entries) (name : Name) (rest : Path) → trees id ≡ Some tree
      → stored_at trees (Some (Tree id)) (name ∷ rest) ≡ stored_at trees (lookup (bytes_eq name) tree) rest
  stored_at-tree id tree name rest is = ap (λ (o : Option Entries). stored_at trees (option_and_then (λ entries. lookup (bytes_eq name) entries) o) rest) is

  -- a value of the trie is in the tree
  abbrev Has : Path → Type 0
  Has path = (node : Node) (w v : TreeValue) → IsNodeValue node w → value_at node path ≡ Some (Some v) → stored_at trees (Some w) path ≡ Some v

  has-here : (o : Option TreeValue) (below : Nodes) (P : Entries → Type 0) (w v : TreeValue) → IsEntryValue trees o below P w → Some o ≡ Some (Some v) → Some w ≡ Some v
  has-here None below P w v h is = absurd cc
  has-here (Some u) below P w v h is = let e = h.1 in cc

  has-below : (name : Name) (rest : Path) → Has rest → (o : Option TreeValue) (below : Nodes) (w v : TreeValue) → IsEntryValue trees o below (AreStored trees below) w
      → value_at (tree_of o below) (name ∷ rest) ≡ Some (Some v) → stored_at trees (Some w) (name ∷ rest) ≡ Some v
  has-below name rest hyp (Some u) below w v h is =
      let e : None ≡ Some (Some v) = subst (λ b. value_at (tree_of (Some u) b) (name ∷ rest) ≡ Some (Some v)) h.0 is in absurd cc
  has-below name rest hyp None below w v h is =
      subst (λ x. stored_at trees (Some x) (name ∷ rest) ≡ Some v) (sym h.2)
      (stored_at-tree h.0 h.1 name rest h.3
      ∙ by_child (child below name) (lookup (bytes_eq name) h.1) (alike below h.1 name h.4) is)
    where
      by_child : (c : Option Node) (x : Option TreeValue) → AreAlike c x → option_map (λ node. node.value) (option_and_then (λ sub. get sub rest) c) ≡ Some (Some v) → stored_at trees x rest ≡ Some v
      by_child None None like is' = absurd cc
      by_child None (Some y) like is' = absurd like
      by_child (Some c) None like is' = absurd like
      by_child (Some c) (Some y) like is' = hyp c y v like is'

  pub has : (path : Path) → Has path
  has [] node w v h is = has-here node.value node.branches (AreStored trees node.branches) w v h is
  has (name ∷ rest) node w v h is = has-below name rest (has rest) node.value node.branches w v h is

  -- the trie has a node at the path, or a value above it
  abbrev pub IsReached : Node → Path → Type 0
  IsReached node path = ((o : Option TreeValue) × (value_at node path ≡ Some o))
      ⊎ ((above below : Path) × (v : TreeValue) × (path ≡ above ++ below) × (value_at node above ≡ Some (Some v)))

  -- a value of the tree is at or above a node, or below a value
  abbrev Only : Path → Type 0
  Only path = (node : Node) (w u : TreeValue) → IsNodeValue node w → stored_at trees (Some w) path ≡ Some u → IsReached node path

  only-below : (name : Name) (rest : Path) → Only rest → (o : Option TreeValue) (below : Nodes) (w u : TreeValue) → IsEntryValue trees o below (AreStored trees below) w
      → stored_at trees (Some w) (name ∷ rest) ≡ Some u → IsReached (tree_of o below) (name ∷ rest)
  only-below name rest hyp (Some v) below w u h is = inr ([], name ∷ rest, v, refl, refl)
  only-below name rest hyp None below w u h is =
      by_child (child below name) refl (lookup (bytes_eq name) h.1) (alike below h.1 name h.4)
      (sym (stored_at-tree h.0 h.1 name rest h.3) ∙ subst (λ x. stored_at trees (Some x) (name ∷ rest) ≡ Some u) h.2 is)
    where
      lifted : (sub : Node) → child below name ≡ Some sub → IsReached sub rest → IsReached (tree_of None below) (name ∷ rest)
      lifted sub at (inl there) = inl (there.0, ap (λ (c : Option Node). option_map (λ node. node.value) (option_and_then (λ s. get s rest) c)) at ∙ there.1)
      lifted sub at (inr v) = inr (name ∷ v.0, v.1, v.2, ap (λ p. name ∷ p) v.3, ap (λ (c : Option Node). option_map (λ node. node.value) (option_and_then (λ s. get s v.0) c)) at ∙ v.4)

      by_child : (c : Option Node) → child below name ≡ c → (x : Option TreeValue) → AreAlike c x → stored_at trees x rest ≡ Some u → IsReached (tree_of None below) (name ∷ rest)
      by_child None at None like is' = let e = stored_at-none rest in absurd cc
      by_child None at (Some y) like is' = absurd like
      by_child (Some c) at None like is' = absurd like
      by_child (Some c) at (Some y) like is' = lifted c at (hyp c y u like is')

  pub only : (path : Path) → Only path
  only [] node w u h is = inl (node.value, refl)
  only (name ∷ rest) node w u h is = only-below name rest (only rest) node.value node.branches w u h is

-- a tree is written for the stored children
pub stored_ok : (old new : Objects) (b : Nodes) (entries tree : Entries) (r : Result (List ℕ) BackendError) → tree ≡ entries → AreStored old.trees b entries
    → IfOk r (λ id. AddsTree old new id tree) → IfOk r (λ id. IsStored new.trees b id)
stored_ok old new b entries tree (Ok id) same stored h =
    (entries, added_there old new id tree h ∙ ap Some same, stored-kept old.trees new.trees (adds_one old new id tree h).kept b entries stored)
stored_ok old new b entries tree (Err e) same stored h = tt

pub added_ok : (start old new : Objects) (tree : Entries) (r : Result (List ℕ) BackendError) → AddsTrees start old → IfOk r (λ id. AddsTree old new id tree) → OnErr r (new ≡ old) → AddsTrees start new
added_ok start old new tree (Ok id) before h k = adds_more start old new before (adds_one old new id tree h)
added_ok start old new tree (Err e) before h k = subst (AddsTrees start) (sym k) before

-- ---- one more child in the loop over them

pub leaf_pushed : (trees : ById Entries) (b : Nodes) (i : ℕ) (x : Name × Node) (es es' : Entries) (o : Option TreeValue) (v : TreeValue) → i < length (children b) → get_or (children b) i x ≡ x
    → AreStored trees (branches_of (take i (children b))) es → o ≡ x.1.value → o ≡ Some v → IfSome o (λ _. x.1.branches ≡ none) → es' ≡ es ++ (x.0, v) ∷ []
    → AreStored trees (branches_of (take (i + 1) (children b))) es'
leaf_pushed trees b i x es es' o v lt is stored value some leaf pushed =
    subst (AreStored trees (branches_of (take (i + 1) (children b)))) (sym pushed)
    (stored_more trees (children b) i x x es v lt is stored
    (leaf_entry trees x.1.value x.1.branches (AreStored trees x.1.branches) v (sym some ∙ value) (subst (λ q. IfSome q (λ _. x.1.branches ≡ none)) some leaf)))

pub directory_pushed : (old new : Objects) (b : Nodes) (i : ℕ) (x : Name × Node) (es es' : Entries) (o : Option TreeValue) (id : List ℕ) → i < length (children b) → get_or (children b) i x ≡ x
    → AreStored old.trees (branches_of (take i (children b))) es → o ≡ x.1.value → o ≡ None → AddsTrees old new → IsStored new.trees x.1.branches id → es' ≡ es ++ (x.0, Tree id) ∷ []
    → AreStored new.trees (branches_of (take (i + 1) (children b))) es'
directory_pushed old new b i x es es' o id lt is stored value nothing more written pushed =
    subst (AreStored new.trees (branches_of (take (i + 1) (children b)))) (sym pushed)
    (stored_more new.trees (children b) i x x es (Tree id) lt is (stored-kept old.trees new.trees more.kept (branches_of (take i (children b))) es stored)
    (directory_entry new.trees x.1.value x.1.branches id (sym nothing ∙ value) written))
