-- The nodes and values of a tree after the node or the value at a path is replaced.
use Rattle.std.specs.Prelude.{◌↔◌, IsTrue}
use Rattle.std.specs.Result.{is_ok}
use Rattle.std.proofs.Common.{◌≡◌, ◌≢◌, Option, Some, None, IsSome, is_some, Result, Ok, Err, IfOk, MatchResult, ◌∙◌, Bool, true, false, [], ◌∷◌, ◌++◌, refl, ap, sym, subst}
use mathlib.Core.Bool.{false≢true}
use Rattle.std.specs.Str.{bytes_eq}
use Rattle.std.specs.Option.{option_and_then, option_map}
use Rattle.std.proofs.lemmas.Option.{none-some, option_and_then_some}
use Rattle.std.proofs.lemmas.Slice.Eq.{bytes_eq-Decides}
use Rattle.jj_paths.specs.Paths.{Name, Path, first_of, rest_of}
use Rattle.jj_paths.specs.Tree.{Tree, tree_of, Branches, none, branch, WritesAtChild, update_child, put, put_value, get, value_at, child, AddsDefaults, WritesAt, SetsValue, is_ordered}
use Rattle.jj_paths.proofs.ChildLookup.{}
use Rattle.jj_paths.proofs.Insertion.{child-update_same, child-update_other, extended-step, extended-same, there-step}
use Rattle.jj_paths.proofs.SortedNames.{is_ordered-put_value}
use Rattle.jj_paths.proofs.ChildUpdates.{update_child-known}

-- a path other than the root is its first name and the rest
pub parted : (path rest : Path) → path ≢ [] → rest ≡ rest_of path → path ≡ first_of path ∷ rest
parted [] rest more is = absurd (more refl)
parted (name ∷ below) rest more is = ap (λ r. name ∷ r) (sym is)

-- a path for which `is_root` returns false is its first name and the rest
pub parted_by : (path rest : Path) (is_root : Bool) → (IsTrue is_root ↔ (path ≡ [])) → is_root ≡ false → rest ≡ rest_of path → path ≡ first_of path ∷ rest
parted_by path rest is_root tells not_root is = parted path rest (λ e. false≢true (sym not_root ∙ tells.1 e)) is

module _ {V : Type 0} where
  abbrev below : Option (Tree V) → Path → Option (Tree V)
  below o r = option_and_then (λ s. get s r) o

  abbrev value_below : Option (Tree V) → Path → Option V
  value_below o r = option_map (λ node. node.value) (below o r)

  -- the child on the way to a node
  record Through (t : Tree V) (name : Name) (rest : Path) (n : Tree V) : Type 0 where
    sub : Tree V
    is_child : child t.branches name ≡ Some sub
    is_below : get sub rest ≡ Some n

  through : (t : Tree V) (name : Name) (rest : Path) (n : Tree V) → get t (name ∷ rest) ≡ Some n → Through t name rest n
  through t name rest n e = known (child t.branches name) refl e
    where
      known : (o : Option (Tree V)) → child t.branches name ≡ o → below o rest ≡ Some n → Through t name rest n
      known None is f = absurd (none-some _ f)
      known (Some s) is f = record { sub = s; is_child = is; is_below = f }

  -- at and below the path, the tree is the replacement
  pub get-put-within : (t : Tree V) (path rest : Path) (n w : Tree V) → get t path ≡ Some n → get (put t path w) (path ++ rest) ≡ get w rest
  get-put-within t [] rest n w e = refl
  get-put-within t (name ∷ p) rest n w e =
      let way = through t name p n e in
      ap (λ o. below o (p ++ rest)) (child-update_same t.branches name (λ s. put s p w) way.sub way.is_child) ∙ get-put-within way.sub p rest n w way.is_below

  -- elsewhere the values are unchanged
  pub value_at-put-others : (t : Tree V) (path q : Path) (n w : Tree V) → get t path ≡ Some n → ((rest : Path) → q ≢ path ++ rest) → value_at (put t path w) q ≡ value_at t q
  value_at-put-others t [] q n w e off = absurd (off q refl)
  value_at-put-others t (name ∷ p) [] n w e off = refl
  value_at-put-others t (name ∷ p) (m ∷ r) n w e off = by_name (λ s h o. value_at-put-others s p r n w h o) (bytes_eq m name) refl
    where
      by_name : ((s : Tree V) → get s p ≡ Some n → ((rest : Path) → r ≢ p ++ rest) → value_at (put s p w) r ≡ value_at s r) → (b : Bool) → bytes_eq m name ≡ b → value_below (child (update_child t.branches name (λ s. put s p w)) m) r ≡ value_below (child t.branches m) r
      by_name later true same =
          let way = through t name p n e in
          let eq : m ≡ name = (bytes_eq-Decides m name).0 same in
          ap (λ k. value_below (child (update_child t.branches name (λ s. put s p w)) k) r) eq
          ∙ ap (λ o. value_below o r) (child-update_same t.branches name (λ s. put s p w) way.sub way.is_child)
          ∙ later way.sub way.is_below (λ rest is. off rest (ap (λ k. k ∷ r) eq ∙ ap (λ l. name ∷ l) is))
          ∙ ap (λ o. value_below o r) (sym way.is_child)
          ∙ ap (λ k. value_below (child t.branches k) r) (sym eq)
      by_name later false other =
          ap (λ o. value_below o r) (child-update_other t.branches name m (λ s. put s p w) (λ eq. false≢true (sym other ∙ (bytes_eq-Decides m name).1 eq)))

  -- replacing a value changes no other value
  pub value_at-put_value : (t : Tree V) (path : Path) (n : Tree V) (v : V) → get t path ≡ Some n → value_at (put_value t path v) path ≡ Some v
  value_at-put_value t [] n v e = refl
  value_at-put_value t (name ∷ p) n v e =
      let way = through t name p n e in
      ap (λ o. value_below o p) (child-update_same t.branches name (λ s. put_value s p v) way.sub way.is_child) ∙ value_at-put_value way.sub p n v way.is_below

  pub value_at-put_value-others : (t : Tree V) (path q : Path) (n : Tree V) (v : V) → get t path ≡ Some n → q ≢ path → value_at (put_value t path v) q ≡ value_at t q
  value_at-put_value-others t [] [] n v e off = absurd (off refl)
  value_at-put_value-others t [] (m ∷ r) n v e off = refl
  value_at-put_value-others t (name ∷ p) [] n v e off = refl
  value_at-put_value-others t (name ∷ p) (m ∷ r) n v e off = by_name (λ s h o. value_at-put_value-others s p r n v h o) (bytes_eq m name) refl
    where
      by_name : ((s : Tree V) → get s p ≡ Some n → r ≢ p → value_at (put_value s p v) r ≡ value_at s r) → (b : Bool) → bytes_eq m name ≡ b → value_below (child (update_child t.branches name (λ s. put_value s p v)) m) r ≡ value_below (child t.branches m) r
      by_name later true same =
          let way = through t name p n e in
          let eq : m ≡ name = (bytes_eq-Decides m name).0 same in
          ap (λ k. value_below (child (update_child t.branches name (λ s. put_value s p v)) k) r) eq
          ∙ ap (λ o. value_below o r) (child-update_same t.branches name (λ s. put_value s p v) way.sub way.is_child)
          ∙ later way.sub way.is_below (λ is. off (ap (λ k. k ∷ r) eq ∙ ap (λ l. name ∷ l) is))
          ∙ ap (λ o. value_below o r) (sym way.is_child)
          ∙ ap (λ k. value_below (child t.branches k) r) (sym eq)
      by_name later false other =
          ap (λ o. value_below o r) (child-update_other t.branches name m (λ s. put_value s p v) (λ eq. false≢true (sym other ∙ (bytes_eq-Decides m name).1 eq)))

  -- inserting the missing nodes and then replacing the value sets the value
  pub set-as_map : (is_new : V → Type 0) (old tree : Tree V) (path : Path) (node new : Tree V) (v : V) → AddsDefaults is_new old path tree → get tree path ≡ Some node → new ≡ put_value tree path v → SetsValue is_new old path v new
  set-as_map is_new old tree path node new v extended at is = record {
    here = ap (λ t. value_at t path) is ∙ value_at-put_value tree path node v at;
    keeps = λ q w off e. ap (λ t. value_at t q) is ∙ value_at-put_value-others tree path q node v at off ∙ extended.keeps q w e;
    makes = λ q w off e f. extended.makes q w e (sym (ap (λ t. value_at t q) is ∙ value_at-put_value-others tree path q node v at off) ∙ f);
    ordered = λ up. ap (λ t. is_ordered t.branches) is ∙ is_ordered-put_value tree path v (extended.ordered up);
  }

  -- `update_child` with functions that agree on the child
  update_child-agree : (b : Branches V) (name : Name) (sub : Tree V) (f g : Tree V → Tree V) → child b name ≡ Some sub → f sub ≡ g sub → update_child b name f ≡ update_child b name g
  update_child-agree b name sub f g at same = sym (update_child-known b name sub f at) ∙ ap (λ t. update_child b name (λ _. t)) same ∙ update_child-known b name sub g at

  -- putting a node back with another value replaces the value
  put-other_value : (tree : Tree V) (path : Path) (node : Tree V) (value : V) → get tree path ≡ Some node → put tree path (tree_of value node.branches) ≡ put_value tree path value
  put-other_value tree [] node value at = let same : tree ≡ node = cc in ap (λ (t : Tree V). tree_of value t.branches) (sym same)
  put-other_value tree (name ∷ rest) node value at = through (λ sub. put-other_value sub rest node value) at
    where
      through : ((sub : Tree V) → get sub rest ≡ Some node → put sub rest (tree_of value node.branches) ≡ put_value sub rest value) → option_and_then (λ sub. get sub rest) (child tree.branches name) ≡ Some node
          → put tree (name ∷ rest) (tree_of value node.branches) ≡ put_value tree (name ∷ rest) value
      through below at = option_and_then_some (λ sub. get sub rest) (child tree.branches name) node at (λ sub is further.
          ap (tree_of tree.value) (update_child-agree tree.branches name sub (λ s. put s rest (tree_of value node.branches)) (λ s. put_value s rest value) is (below sub further)))

  -- inserting the missing nodes and then replacing the node
  pub edited : (is_new : V → Type 0) (old tree : Tree V) (path : Path) (node changed : Tree V) → AddsDefaults is_new old path tree → get tree path ≡ Some node → WritesAt is_new old path node changed (put tree path changed)
  edited is_new old tree path node changed extended at = record {
    tree = tree;
    extended = extended;
    at_path = at;
    is_put = refl;
    within = λ rest. get-put-within tree path rest node changed at;
    others = λ q off. value_at-put-others tree path q node changed at off;
    sets = λ value is. set-as_map is_new old tree path node (put tree path changed) value extended at (ap (put tree path) is ∙ put-other_value tree path node value at);
  }

  -- setting a value at the root
  pub set-root : (is_new : V → Type 0) (old new : Tree V) (path : Path) (v : V) → path ≡ [] → new ≡ tree_of v old.branches → (t : Tree V) × AddsDefaults is_new old path t × IsSome (get t path) × (new ≡ put_value t path v)
  set-root is_new old new path v root is = (old, extended-same is_new old path, ap (λ p. is_some (get old p)) root, is ∙ ap (λ p. put_value old p v) (sym root))

  some_node : (o : Option (Tree V)) → IsSome o → (node : Tree V) × (o ≡ Some node)
  some_node None there = absurd (false≢true there)
  some_node (Some node) there = (node, refl)

  edited-as_map : (is_new : V → Type 0) (old new : Tree V) (path : Path) (v : V) → (t : Tree V) × AddsDefaults is_new old path t × IsSome (get t path) × (new ≡ put_value t path v) → SetsValue is_new old path v new
  edited-as_map is_new old new path v edited = let found = some_node (get edited.0 path) edited.2 in set-as_map is_new old edited.0 path found.0 new v edited.1 found.1 edited.3

  update_child-twice : (b : Branches V) (name : Name) (sub : Tree V) (f : Tree V → Tree V) → update_child (update_child b name (λ _. sub)) name f ≡ update_child b name (λ _. f sub)
  update_child-twice none name sub f = refl
  update_child-twice (branch n value below after) name sub f = by_name (bytes_eq n name) refl (update_child-twice after name sub f)
    where
      by_name : (t : Bool) → bytes_eq n name ≡ t → update_child (update_child after name (λ _. sub)) name f ≡ update_child after name (λ _. f sub)
          → update_child (update_child (branch n value below after) name (λ _. sub)) name f ≡ update_child (branch n value below after) name (λ _. f sub)
      by_name true is later = rw (is, is) refl
      by_name false is later = rw (is, is) (ap (branch n value below) later)

  -- the child that a successful call returned by mutable reference
  pub lent_child : {B E : Type 0} (now : B → Tree V) (is_new : V → Type 0) (inside old : Tree V) (name : Name) (answer : Result B E) (lent : B) (changed new : Tree V) → inside ≡ old → answer ≡ Ok lent
      → (is_ok answer ≡ true → IfOk answer (λ sub. WritesAtChild is_new inside name (now sub) changed new)) → WritesAtChild is_new old name (now lent) changed new
  lent_child {B} {E} now is_new inside old name answer lent changed new view was holds =
      subst (λ (t : Tree V). WritesAtChild is_new t name (now lent) changed new) view
      (subst (λ (r : Result B E). IfOk r (λ sub. WritesAtChild is_new inside name (now sub) changed new)) was (holds (ap is_ok was)))

  -- finding or inserting a child, and then inserting nodes or setting a value below it
  module _ {is_new : V → Type 0} {old sub sub' new : Tree V} {path : Path} {name : Name} {rest : Path} (is : path ≡ name ∷ rest) (edit : WritesAtChild is_new old name sub sub' new) where
    pub extended-below : AddsDefaults is_new sub rest sub' → AddsDefaults is_new old path new
    extended-below below = subst (AddsDefaults is_new old path) (sym edit.is_put) (extended-step is_new old edit.tree sub sub' path name rest is edit.grown edit.at_name below)

    there-below : IsSome (get sub' rest) → IsSome (get new path)
    there-below there = subst (λ t. IsSome (get t path)) (sym edit.is_put) (there-step edit.tree sub sub' path name rest is edit.at_name there)

    module _ {A E : Type 0} where
      pub there-below_on_ok : (r : Result A E) → IfOk r (λ _. IsSome (get sub' rest)) → IfOk r (λ _. IsSome (get new path))
      there-below_on_ok (Ok a) there = there-below there
      there-below_on_ok (Err e) there = tt

      pub set-below : (v : V) (r : Result A E)
          → MatchResult r (λ _. (t : Tree V) × AddsDefaults is_new sub rest t × IsSome (get t rest) × (sub' ≡ put_value t rest v)) (λ _. AddsDefaults is_new sub rest sub')
          → MatchResult r (λ _. (t : Tree V) × AddsDefaults is_new old path t × IsSome (get t path) × (new ≡ put_value t path v)) (λ _. AddsDefaults is_new old path new)
      set-below v (Ok a) h =
          let t = h.0 in
          let node = edit.tree in (
            tree_of node.value (update_child node.branches name (λ _. t)),
            extended-step is_new old node sub t path name rest is edit.grown edit.at_name h.1,
            there-step node sub t path name rest is edit.at_name h.2,
            edit.is_put
                ∙ ap (λ s. tree_of node.value (update_child node.branches name (λ _. s))) h.3
                ∙ ap (tree_of node.value) (sym (update_child-twice node.branches name t (λ s. put_value s rest v)))
                ∙ ap (λ p. put_value (tree_of node.value (update_child node.branches name (λ _. t))) p v) (sym is),
          )
      set-below v (Err e) h = extended-below h

  module _ {A E : Type 0} where
    pub edited-as_map_on_ok : (is_new : V → Type 0) (old new : Tree V) (path : Path) (v : V) (r : Result A E) → MatchResult r (λ _. (t : Tree V) × AddsDefaults is_new old path t × IsSome (get t path) × (new ≡ put_value t path v)) (λ _. AddsDefaults is_new old path new) → IfOk r (λ _. SetsValue is_new old path v new)
    edited-as_map_on_ok is_new old new path v (Ok a) h = edited-as_map is_new old new path v h
    edited-as_map_on_ok is_new old new path v (Err e) h = tt
