-- Inserting or replacing a child preserves that names ascend at every node.
use Rattle.std.proofs.Common.{◌≡◌, ℕ, zero, suc, ◌<◌, get_or, Some, ◌∙◌, Bool, true, false, ◌&&◌, List, [], ◌∷◌, length, refl, ap, sym, arith}
use Rattle.std.specs.List.{insert}
use Rattle.std.specs.declared.cmp.Ordering.TheVariants.{Less}
use Rattle.std.specs.Ordering.{is_lt, ordering_reverse}
use Rattle.std.specs.Str.{bytes_eq}
use Rattle.std.specs.FinMap.Entries.{below_all}
use Rattle.std.specs.Cmp.Lexicographic.{nat_list_cmp_total}
use Rattle.std.proofs.lemmas.Bool.{and_parts, and_from}
use Rattle.std.proofs.lemmas.Option.{none-some}
use Rattle.jj_paths.specs.Paths.{Name, Path, name_cmp}
use Rattle.jj_paths.specs.Tree.{Tree, tree_of, Branches, none, branch, branches_of, children, child, update_child, put_value, is_ordered, IsInsertionPoint}
use Rattle.jj_paths.proofs.ChildLookup.{children-branches_of}

module _ {V : Type 0} where
  pub below_all-insert : (k : Name) (es : List (Name × Tree V)) (i : ℕ) (x : Name × Tree V) → name_cmp k x.0 ≡ Less → below_all name_cmp k es ≡ true → below_all name_cmp k (insert es i x) ≡ true
  below_all-insert k [] zero x less all = and_from _ _ (ap is_lt less) refl
  below_all-insert k [] (suc i) x less all = and_from _ _ (ap is_lt less) refl
  below_all-insert k (a ∷ more) zero x less all = and_from _ _ (ap is_lt less) all
  below_all-insert k (a ∷ more) (suc i) x less all = and_from _ _ (and_parts _ _ all).0 (below_all-insert k more i x less (and_parts _ _ all).1)

  pub below_all-from : (k : Name) (es : List (Name × Tree V)) → ((j : ℕ) (d : Name × Tree V) → j < length es → name_cmp k (get_or es j d).0 ≡ Less) → below_all name_cmp k es ≡ true
  below_all-from k [] less = refl
  below_all-from k (a ∷ more) less = and_from _ _ (ap is_lt (less 0 a (omega arith))) (below_all-from k more (λ j d lt. less (suc j) d (omega arith)))

  -- inserting a child without children at its insertion point
  pub is_ordered-insert : (items : List (Name × Tree V)) (i : ℕ) (name : Name) (node : Tree V) → node.branches ≡ none → IsInsertionPoint items name i → is_ordered (branches_of items) ≡ true → is_ordered (branches_of (insert items i (name, node))) ≡ true
  is_ordered-insert [] zero name node bare gap up = ap (λ b. is_ordered b && true) bare
  is_ordered-insert [] (suc i) name node bare gap up = ap (λ b. is_ordered b && true) bare
  is_ordered-insert (a ∷ more) zero name node bare gap up =
      and_from _ _
      (ap (below_all name_cmp name) (children-branches_of (a ∷ more)) ∙ below_all-from name (a ∷ more) (λ j d lt. nat_list_cmp_total.antisymm name (get_or (a ∷ more) j d).0 ∙ ap ordering_reverse (gap.greater_after j d (omega arith) lt)))
      (and_from _ _ (ap is_ordered bare) up)
  is_ordered-insert (a ∷ more) (suc i) name node bare gap up =
      let parts = and_parts (below_all name_cmp a.0 (children (branches_of more))) _ up in
      let below = and_parts (is_ordered a.1.branches) _ parts.1 in
      and_from _ _
      (ap (below_all name_cmp a.0) (children-branches_of (insert more i (name, node))) ∙ below_all-insert a.0 more i (name, node) (gap.smaller_before 0 a (omega arith)) (sym (ap (below_all name_cmp a.0) (children-branches_of more)) ∙ parts.0))
      (and_from _ _ below.0
      (is_ordered-insert more i name node bare (record {
        in_range = omega (arith, gap.in_range);
        smaller_before = λ j e lt. gap.smaller_before (suc j) e (omega arith);
        greater_after = λ j e le lt. gap.greater_after (suc j) e (omega arith) (omega arith);
      }) below.1))

  pub is_ordered-child : (b : Branches V) (name : Name) (sub : Tree V) → is_ordered b ≡ true → child b name ≡ Some sub → is_ordered sub.branches ≡ true
  is_ordered-child none name sub up e = absurd (none-some _ e)
  is_ordered-child (branch n value below after) name sub up e = by_name (bytes_eq n name) refl (is_ordered-child after name sub)
    where
      by_name : (t : Bool) → bytes_eq n name ≡ t → (is_ordered after ≡ true → child after name ≡ Some sub → is_ordered sub.branches ≡ true) → is_ordered sub.branches ≡ true
      by_name true is later =
          let here : Some (tree_of value below) ≡ Some sub = rw is at e in
          let same : tree_of value below ≡ sub = cc in
          ap (λ s. is_ordered s.branches) (sym same) ∙ (and_parts (is_ordered below) _ (and_parts (below_all name_cmp n (children after)) _ up).1).0
      by_name false is later =
          let there : child after name ≡ Some sub = rw is at e in
          later (and_parts (is_ordered below) _ (and_parts (below_all name_cmp n (children after)) _ up).1).1 there

  -- replacing a child keeps the names
  below_all-update_child : (k : Name) (b : Branches V) (name : Name) (f : Tree V → Tree V) → below_all name_cmp k (children (update_child b name f)) ≡ below_all name_cmp k (children b)
  below_all-update_child k none name f = refl
  below_all-update_child k (branch n value below after) name f = by_name (bytes_eq n name) refl (below_all-update_child k after name f)
    where
      by_name : (t : Bool) → bytes_eq n name ≡ t → below_all name_cmp k (children (update_child after name f)) ≡ below_all name_cmp k (children after)
          → below_all name_cmp k (children (update_child (branch n value below after) name f)) ≡ below_all name_cmp k (children (branch n value below after))
      by_name true is later = rw is refl
      by_name false is later = rw is (ap (λ t. is_lt (name_cmp k n) && t) later)

  pub is_ordered-update_child : (b : Branches V) (name : Name) (f : Tree V → Tree V) → is_ordered b ≡ true → ((sub : Tree V) → child b name ≡ Some sub → is_ordered (f sub).branches ≡ true) → is_ordered (update_child b name f) ≡ true
  is_ordered-update_child none name f up h = refl
  is_ordered-update_child (branch n value below after) name f up h = by_name (bytes_eq n name) refl (is_ordered-update_child after name f)
    where
      by_name : (t : Bool) → bytes_eq n name ≡ t → (is_ordered after ≡ true → ((sub : Tree V) → child after name ≡ Some sub → is_ordered (f sub).branches ≡ true) → is_ordered (update_child after name f) ≡ true)
          → is_ordered (update_child (branch n value below after) name f) ≡ true
      by_name true is later =
          let parts = and_parts (below_all name_cmp n (children after)) _ up in
          let rest = and_parts (is_ordered below) _ parts.1 in
          rw is (and_from _ _ parts.0 (and_from _ _ (h (tree_of value below) (rw is)) rest.1))
      by_name false is later =
          let parts = and_parts (below_all name_cmp n (children after)) _ up in
          let rest = and_parts (is_ordered below) _ parts.1 in
          rw is (and_from _ _ (below_all-update_child n after name f ∙ parts.0) (and_from _ _ rest.0 (later rest.1 (λ sub e. h sub (rw is e)))))

  -- replacing a value keeps the names
  pub is_ordered-put_value : (t : Tree V) (path : Path) (v : V) → is_ordered t.branches ≡ true → is_ordered (put_value t path v).branches ≡ true
  is_ordered-put_value t [] v up = up
  is_ordered-put_value t (name ∷ rest) v up =
      is_ordered-update_child t.branches name (λ sub. put_value sub rest v) up (λ sub e. is_ordered-put_value sub rest v (is_ordered-child t.branches name sub up e))
