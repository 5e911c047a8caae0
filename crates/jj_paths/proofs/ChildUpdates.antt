-- Replacement of one child in a list of named children.
use Rattle.std.proofs.Common.{◌≡◌, ℕ, zero, suc, ◌<◌, get_or, Some, None, ◌∙◌, Bool, true, false, ◌&&◌, List, [], ◌∷◌, length, refl, ap, sym, arith, slice_set}
use Rattle.std.specs.declared.cmp.Ordering.TheVariants.{Less}
use Rattle.std.specs.Ordering.{is_lt}
use Rattle.std.specs.Str.{bytes_eq}
use Rattle.std.specs.FinMap.{is_sorted}
use Rattle.std.specs.Option.{option_and_then}
use Rattle.std.specs.FinMap.Entries.{below_all}
use Rattle.std.proofs.lemmas.Slice.Eq.{bytes_eq-Decides}
use Rattle.std.proofs.lemmas.Bool.{and_parts}
use Rattle.jj_paths.specs.Paths.{Name, Path, name_cmp, rest_of}
use Rattle.jj_paths.specs.Tree.{Tree, tree_of, Branches, none, branches_of, branch_count, update_child, put_below, get, put, child, branch, IsIndexOf, IsInsertionPoint, AddsDefaultChild, WritesAtChild}
use Rattle.jj_paths.proofs.ChildSearch.{below_all-at}
use Rattle.jj_paths.proofs.ChildLookup.{not_same, child-at, child-gap}

module _ {V : Type 0} where
  below_all-set : (x : Name) (es : List (Name × Tree V)) (i : ℕ) (y d : Name × Tree V) → y.0 ≡ (get_or es i d).0 → below_all name_cmp x (slice_set es i y) ≡ below_all name_cmp x es
  below_all-set x [] i y d e = refl
  below_all-set x (a ∷ es) zero y d e = ap (λ n. is_lt (name_cmp x n) && below_all name_cmp x es) e
  below_all-set x (a ∷ es) (suc i) y d e = ap (λ b. is_lt (name_cmp x a.0) && b) (below_all-set x es i y d e)

  -- replacing a child and keeping its name keeps the list sorted
  pub is_sorted-set : (es : List (Name × Tree V)) (i : ℕ) (y d : Name × Tree V) → y.0 ≡ (get_or es i d).0 → is_sorted name_cmp (slice_set es i y) ≡ is_sorted name_cmp es
  is_sorted-set [] i y d e = refl
  is_sorted-set (a ∷ es) zero y d e = ap (λ n. below_all name_cmp n es && is_sorted name_cmp es) e
  is_sorted-set (a ∷ es) (suc i) y d e =
      ap (λ b. b && is_sorted name_cmp (slice_set es i y)) (below_all-set a.0 es i y d e)
      ∙ ap (λ b. below_all name_cmp a.0 es && b) (is_sorted-set es i y d e)

  -- replacing the child at the index of a name is `update_child`
  pub update_child-at : (items : List (Name × Tree V)) (name : Name) (i : ℕ) (d x : Name × Tree V) (f : Tree V → Tree V) → is_sorted name_cmp items ≡ true → IsIndexOf items name i → get_or items i d ≡ x
      → branches_of (slice_set items i (x.0, f x.1)) ≡ update_child (branches_of items) name f
  update_child-at [] name i d x f sorted at e = absurd (omega (arith, at.in_range))
  update_child-at (a ∷ more) name zero d x f sorted at e = rw ((bytes_eq-Decides a.0 name).1 (at.has_name d), ← e)
  update_child-at (a ∷ more) name (suc i) d x f sorted at e =
      let less : name_cmp a.0 (get_or more i d).0 ≡ Less = below_all-at a.0 more i d (and_parts _ _ sorted).0 (omega (arith, at.in_range)) in
      let differs : bytes_eq a.0 name ≡ false = not_same a.0 (get_or more i d).0 name less (at.has_name d) in
      rw differs (ap (λ b. branch a.0 a.1.value a.1.branches b) (update_child-at more name i d x f (and_parts _ _ sorted).1 (record { in_range = omega (arith, at.in_range); has_name = at.has_name }) e))

  -- a child has fewer nodes below it than its parent
  pub branch_count-at : (items : List (Name × Tree V)) (i : ℕ) (d : Name × Tree V) → i < length items → branch_count (get_or items i d).1.branches < branch_count (branches_of items)
  branch_count-at [] i d lt = absurd (omega arith)
  branch_count-at (a ∷ more) zero d lt = omega arith
  branch_count-at (a ∷ more) (suc i) d lt = omega (arith, branch_count-at more i d (omega arith))

  -- `get` and `put` at a path are `get` and `put` at the rest of the path in the child
  pub get-step : (t : Tree V) (v : V) (items : List (Name × Tree V)) (p : Path) (name : Name) (rest : Path) (i : ℕ) (x : Name × Tree V) → tree_of v (branches_of items) ≡ t → p ≡ name ∷ rest → is_sorted name_cmp items ≡ true
      → IsIndexOf items name i → x ≡ get_or items i x → get t p ≡ get x.1 rest
  get-step t v items p name rest i x seen is sorted at here =
      ap (get t) is
      ∙ ap (λ c. option_and_then (λ sub. get sub rest) c) (ap (λ z. child z.branches name) (sym seen) ∙ child-at items name i x sorted at ∙ ap (λ z. Some z.1) (sym here))

  pub get-gap : (t : Tree V) (v : V) (items : List (Name × Tree V)) (p : Path) (name : Name) (rest : Path) (i : ℕ) → tree_of v (branches_of items) ≡ t → p ≡ name ∷ rest → IsInsertionPoint items name i → get t p ≡ None
  get-gap t v items p name rest i seen is gap =
      ap (get t) is
      ∙ ap (λ c. option_and_then (λ sub. get sub rest) c) (ap (λ z. child z.branches name) (sym seen) ∙ child-gap items name i ([], t) gap)

  pub put-step : (t : Tree V) (v : V) (items : List (Name × Tree V)) (p : Path) (name : Name) (rest : Path) (i : ℕ) (x : Name × Tree V) (w : Tree V) → tree_of v (branches_of items) ≡ t → p ≡ name ∷ rest → is_sorted name_cmp items ≡ true
      → IsIndexOf items name i → x ≡ get_or items i x → tree_of v (branches_of (slice_set items i (x.0, put x.1 rest w))) ≡ put t p w
  put-step t v items p name rest i x w seen is sorted at here =
      ap (tree_of v) (update_child-at items name i x x (λ sub. put sub rest w) sorted at (sym here))
      ∙ ap (λ z. put z (name ∷ rest) w) seen
      ∙ ap (λ q. put t q w) (sym is)

  pub put-step-as : (t : Tree V) (v : V) (items : List (Name × Tree V)) (p : Path) (name : Name) (rest : Path) (i : ℕ) (x : Name × Tree V) (w y : Tree V) → tree_of v (branches_of items) ≡ t → p ≡ name ∷ rest → is_sorted name_cmp items ≡ true
      → IsIndexOf items name i → x ≡ get_or items i x → y ≡ put x.1 rest w → tree_of v (branches_of (slice_set items i (x.0, y))) ≡ put t p w
  put-step-as t v items p name rest i x w y seen is sorted at here e =
      ap (λ z. tree_of v (branches_of (slice_set items i (x.0, z)))) e ∙ put-step t v items p name rest i x w seen is sorted at here

  -- `update_child` depends only on the value of `f` at the child
  pub update_child-known : (b : Branches V) (name : Name) (sub : Tree V) (f : Tree V → Tree V) → child b name ≡ Some sub → update_child b name (λ _. f sub) ≡ update_child b name f
  update_child-known none name sub f e = refl
  update_child-known (branch n value below after) name sub f e = by_name (bytes_eq n name) refl (update_child-known after name sub f)
    where
      by_name : (t : Bool) → bytes_eq n name ≡ t → (child after name ≡ Some sub → update_child after name (λ _. f sub) ≡ update_child after name f)
          → update_child (branch n value below after) name (λ _. f sub) ≡ update_child (branch n value below after) name f
      by_name true is later = let here : Some (tree_of value below) ≡ Some sub = rw is at e in let same : tree_of value below ≡ sub = cc in rw is (ap (λ s. branch n (f s).value (f s).branches after) (sym same))
      by_name false is later = let there : child after name ≡ Some sub = rw is at e in rw is (ap (λ b. branch n value below b) (later there))

  pub step-value : (t sub : Tree V) (p : Path) (name : Name) (rest : Path) → p ≡ name ∷ rest → child t.branches name ≡ Some sub → get t p ≡ get sub (rest_of p)
  step-value t sub p name rest is there = ap (get t) is ∙ ap (λ x. option_and_then (λ s. get s rest) x) there ∙ ap (λ q. get sub (rest_of q)) (sym is)

  pub step-lifted : (t sub : Tree V) (p : Path) (name : Name) (rest : Path) (w : Tree V) → p ≡ name ∷ rest → child t.branches name ≡ Some sub → put_below t p (put sub (rest_of p) w) ≡ put t p w
  step-lifted t sub p name rest w is there =
      ap (λ q. put_below t q (put sub (rest_of q) w)) is
      ∙ ap (tree_of t.value) (update_child-known t.branches name sub (λ s. put s rest w) there)
      ∙ ap (λ q. put t q w) (sym is)

  -- the child at an index of a sorted list, and the node after the child is replaced
  module _ {items : List (Name × Tree V)} {i : ℕ} {name : Name} {x : Name × Tree V} {sub : Tree V} (sorted : is_sorted name_cmp items ≡ true) (at : IsIndexOf items name i) (here : x ≡ get_or items i x) (lent : sub ≡ x.1) where
    pub child-lent : child (branches_of items) name ≡ Some sub
    child-lent = child-at items name i x sorted at ∙ ap (λ (y : Name × Tree V). Some y.1) (sym here) ∙ ap Some (sym lent)

    pub child-edited : {is_new : V → Type 0} {old : Tree V} {v : V} → AddsDefaultChild is_new old name (tree_of v (branches_of items)) → (w : Tree V) → WritesAtChild is_new old name sub w (tree_of v (branches_of (slice_set items i (x.0, w))))
    child-edited {v = v} grown w = record {
      tree = tree_of v (branches_of items);
      grown = grown;
      at_name = child-lent;
      is_put = ap (tree_of v) (update_child-at items name i x x (λ _. w) sorted at (sym here));
    }
