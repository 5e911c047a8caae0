-- Insertion of a child into a node, and of the missing nodes on a path into a tree.
use Rattle.std.proofs.Common.{◌≡◌, ◌≢◌, ℕ, zero, suc, ◌≤◌, length, get_or, Option, Some, None, IsSome, is_some, if◌then◌else◌, ◌∙◌, Bool, true, false, List, [], ◌∷◌, ◌++◌, refl, ap, sym, subst, arith}
use mathlib.Core.Bool.{false≢true}
use Rattle.std.specs.List.{insert}
use Rattle.std.specs.Ordering.{ordering_reverse}
use Rattle.std.specs.Str.{bytes_eq}
use Rattle.std.specs.FinMap.{is_sorted}
use Rattle.std.specs.Option.{option_and_then, option_map}
use Rattle.std.specs.Cmp.Lexicographic.{nat_list_cmp_total}
use Rattle.std.proofs.lemmas.Slice.Eq.{bytes_eq-Decides}
use Rattle.std.proofs.lemmas.Bool.{and_parts, and_from}
use Rattle.std.proofs.lemmas.Option.{none-some}
use Rattle.jj_paths.specs.Paths.{Name, Path, name_cmp}
use Rattle.jj_paths.specs.Tree.{Tree, tree_of, Branches, none, branch, branches_of, update_child, get, value_at, child, IsIndexOf, IsInsertionPoint, AddsDefaultChild, AddsDefaults, is_ordered}
use Rattle.jj_paths.proofs.ChildLookup.{not_same, child-at, child-gap}
use Rattle.jj_paths.proofs.SortedNames.{below_all-insert, below_all-from, is_ordered-insert, is_ordered-child, is_ordered-update_child}

pub differs : (x y : Name) → y ≢ x → bytes_eq x y ≡ false
differs x y ne = by_cases (bytes_eq x y) refl
  where
    by_cases : (t : Bool) → bytes_eq x y ≡ t → t ≡ false
    by_cases true is = absurd (ne (sym ((bytes_eq-Decides x y).0 is)))
    by_cases false is = refl

module _ {V : Type 0} where
  child-insert_same : (items : List (Name × Tree V)) (i : ℕ) (name : Name) (node d : Tree V) → IsInsertionPoint items name i → child (branches_of (insert items i (name, node))) name ≡ Some node
  child-insert_same [] zero name node d gap = rw ((bytes_eq-Decides name name).1 refl)
  child-insert_same [] (suc i) name node d gap = absurd (omega (arith, gap.in_range))
  child-insert_same (a ∷ more) zero name node d gap = rw ((bytes_eq-Decides name name).1 refl)
  child-insert_same (a ∷ more) (suc i) name node d gap =
      rw (not_same a.0 name name (gap.smaller_before 0 a (omega arith)) refl)
      (child-insert_same more i name node d (record {
        in_range = omega (arith, gap.in_range);
        smaller_before = λ j e lt. gap.smaller_before (suc j) e (omega arith);
        greater_after = λ j e le lt. gap.greater_after (suc j) e (omega arith) (omega arith);
      }))

  child-insert_other : (items : List (Name × Tree V)) (i : ℕ) (name n : Name) (node : Tree V) → n ≢ name → child (branches_of (insert items i (name, node))) n ≡ child (branches_of items) n
  child-insert_other [] zero name n node ne = rw (differs name n ne)
  child-insert_other [] (suc i) name n node ne = rw (differs name n ne)
  child-insert_other (a ∷ more) zero name n node ne = rw (differs name n ne)
  child-insert_other (a ∷ more) (suc i) name n node ne = ap (λ c. if bytes_eq a.0 n then Some a.1 else c) (child-insert_other more i name n node ne)

  pub is_sorted-insert : (items : List (Name × Tree V)) (i : ℕ) (name : Name) (node : Tree V) → is_sorted name_cmp items ≡ true → IsInsertionPoint items name i → is_sorted name_cmp (insert items i (name, node)) ≡ true
  is_sorted-insert [] zero name node sorted gap = refl
  is_sorted-insert [] (suc i) name node sorted gap = refl
  is_sorted-insert (a ∷ more) zero name node sorted gap =
      and_from _ _ (below_all-from name (a ∷ more) (λ j d lt. nat_list_cmp_total.antisymm name (get_or (a ∷ more) j d).0 ∙ ap ordering_reverse (gap.greater_after j d (omega arith) lt))) sorted
  is_sorted-insert (a ∷ more) (suc i) name node sorted gap =
      and_from _ _ (below_all-insert a.0 more i (name, node) (gap.smaller_before 0 a (omega arith)) (and_parts _ _ sorted).0)
      (is_sorted-insert more i name node (and_parts _ _ sorted).1 (record {
        in_range = omega (arith, gap.in_range);
        smaller_before = λ j e lt. gap.smaller_before (suc j) e (omega arith);
        greater_after = λ j e le lt. gap.greater_after (suc j) e (omega arith) (omega arith);
      }))

  -- the new child is at its insertion point
  pub is_at-insert : (items : List (Name × Tree V)) (i : ℕ) (name : Name) (node : Tree V) → i ≤ length items → IsIndexOf (insert items i (name, node)) name i
  is_at-insert [] zero name node le = record { in_range = omega arith; has_name = λ d. refl }
  is_at-insert [] (suc i) name node le = absurd (omega (arith, le))
  is_at-insert (a ∷ more) zero name node le = record { in_range = omega arith; has_name = λ d. refl }
  is_at-insert (a ∷ more) (suc i) name node le =
      let at = is_at-insert more i name node (omega (arith, le)) in
      record { in_range = omega (arith, at.in_range); has_name = at.has_name }

  pub some_same : {x y : Tree V} → Some x ≡ Some y → x ≡ y
  some_same e = cc

  pub grown-insert : (is_new : V → Type 0) (old : Tree V) (v : V) (items entries : List (Name × Tree V)) (i : ℕ) (name : Name) (made : Tree V) → tree_of v (branches_of items) ≡ old → IsInsertionPoint items name i
      → entries ≡ insert items i (name, made) → is_new made.value → made.branches ≡ none → AddsDefaultChild is_new old name (tree_of v (branches_of entries))
  grown-insert is_new old v items entries i name made seen gap are new bare =
      let at : child (branches_of entries) name ≡ Some made = ap (λ l. child (branches_of l) name) are ∙ child-insert_same items i name made made gap in
      let missing : child old.branches name ≡ None = ap (λ t. child t.branches name) (sym seen) ∙ child-gap items name i (name, made) gap in
      record {
        value = ap (λ t. t.value) seen;
        there = ap is_some at;
        others = λ n ne. ap (λ l. child (branches_of l) n) are ∙ child-insert_other items i name n made ne ∙ ap (λ t. child t.branches n) seen;
        keeps = λ sub e. absurd (none-some _ (sym missing ∙ e));
        makes = λ sub e found. let same : made ≡ sub = some_same (sym at ∙ found) in (subst (λ t. is_new t.value) same new, ap (λ t. t.branches) (sym same) ∙ bare);
        ordered = λ up. ap (λ l. is_ordered (branches_of l)) are ∙ is_ordered-insert items i name made bare gap (ap (λ t. is_ordered t.branches) seen ∙ up);
      }

  pub grown-at : (is_new : V → Type 0) (old : Tree V) (v : V) (items : List (Name × Tree V)) (i : ℕ) (name : Name) → tree_of v (branches_of items) ≡ old → is_sorted name_cmp items ≡ true → IsIndexOf items name i → AddsDefaultChild is_new old name old
  grown-at is_new old v items i name seen sorted here =
      let at : child old.branches name ≡ Some (get_or items i (name, old)).1 = ap (λ t. child t.branches name) (sym seen) ∙ child-at items name i (name, old) sorted here in
      record { value = refl; there = ap is_some at; others = λ n ne. refl; keeps = λ sub e. e; makes = λ sub e found. absurd (none-some _ (sym e ∙ found)); ordered = λ up. up }

  pub child-update_same : (b : Branches V) (name : Name) (f : Tree V → Tree V) (s : Tree V) → child b name ≡ Some s → child (update_child b name f) name ≡ Some (f s)
  child-update_same none name f s e = absurd (none-some _ e)
  child-update_same (branch n value below after) name f s e = by_name (bytes_eq n name) refl (child-update_same after name f s)
    where
      by_name : (t : Bool) → bytes_eq n name ≡ t → (child after name ≡ Some s → child (update_child after name f) name ≡ Some (f s)) → child (update_child (branch n value below after) name f) name ≡ Some (f s)
      by_name true is later = let here : Some (tree_of value below) ≡ Some s = rw is at e in rw (is, is) (ap (λ z. Some (f z)) (some_same here))
      by_name false is later = let there : child after name ≡ Some s = rw is at e in rw (is, is) (later there)

  pub child-update_other : (b : Branches V) (name n : Name) (f : Tree V → Tree V) → n ≢ name → child (update_child b name f) n ≡ child b n
  child-update_other none name n f ne = refl
  child-update_other (branch m value below after) name n f ne = by_name (bytes_eq m name) refl (child-update_other after name n f ne)
    where
      by_name : (t : Bool) → bytes_eq m name ≡ t → child (update_child after name f) n ≡ child after n → child (update_child (branch m value below after) name f) n ≡ child (branch m value below after) n
      by_name true is later = let other : bytes_eq m n ≡ false = differs m n (λ e. ne (e ∙ (bytes_eq-Decides m name).0 is)) in rw is (rw other refl)
      by_name false is later = rw is (ap (λ c. if bytes_eq m n then Some (tree_of value below) else c) later)

  abbrev value_in : Option (Tree V) → Path → Option V
  value_in o r = option_map (λ node. node.value) (option_and_then (λ s. get s r) o)

  none_below : (s : Tree V) (m : Name) (r : Path) → s.branches ≡ none → value_at s (m ∷ r) ≡ None
  none_below s m r e = ap (λ b. value_in (child b m) r) e

  -- inserting a child and then the missing nodes below it inserts the missing nodes of the whole path
  pub extended-step : (is_new : V → Type 0) (old node sub sub' : Tree V) (path : Path) (name : Name) (rest : Path) → path ≡ name ∷ rest → AddsDefaultChild is_new old name node → child node.branches name ≡ Some sub → AddsDefaults is_new sub rest sub'
      → AddsDefaults is_new old path (tree_of node.value (update_child node.branches name (λ _. sub')))
  extended-step is_new old node sub sub' path name rest is grown at below = record {
    keeps = keep;
    makes = make;
    ordered = λ up. is_ordered-update_child node.branches name (λ _. sub') (grown.ordered up) (λ _ e. below.ordered (is_ordered-child node.branches name sub (grown.ordered up) at));
  }
    where
      keep : (q : Path) (value : V) → value_at old q ≡ Some value → value_at (tree_of node.value (update_child node.branches name (λ _. sub'))) q ≡ Some value
      keep [] value e = ap Some grown.value ∙ e
      keep (n ∷ r) value e = by_name (bytes_eq n name) refl
        where
          known : (o : Option (Tree V)) → child old.branches name ≡ o → value_in o r ≡ Some value → value_at sub' r ≡ Some value
          known None was f = absurd (none-some _ f)
          known (Some s) was f = below.keeps r value (ap (λ z. value_at z r) (some_same (sym at ∙ grown.keeps s was)) ∙ f)

          by_name : (t : Bool) → bytes_eq n name ≡ t → value_in (child (update_child node.branches name (λ _. sub')) n) r ≡ Some value
          by_name true same =
              let eq : n ≡ name = (bytes_eq-Decides n name).0 same in
              ap (λ m. value_in (child (update_child node.branches name (λ _. sub')) m) r) eq ∙ ap (λ o. value_in o r) (child-update_same node.branches name (λ _. sub') sub at) ∙ known (child old.branches name) refl (ap (λ m. value_in (child old.branches m) r) (sym eq) ∙ e)
          by_name false other =
              let ne : n ≢ name = λ eq. false≢true (sym other ∙ (bytes_eq-Decides n name).1 eq) in
              ap (λ o. value_in o r) (child-update_other node.branches name n (λ _. sub') ne ∙ grown.others n ne) ∙ e

      make : (q : Path) (value : V) → value_at old q ≡ None → value_at (tree_of node.value (update_child node.branches name (λ _. sub'))) q ≡ Some value → is_new value × ((tail : Path) × (path ≡ q ++ tail))
      make [] value e f = absurd (none-some _ (sym e))
      make (n ∷ r) value e f = by_name (bytes_eq n name) refl
        where
          lift : n ≡ name → is_new value × ((tail : Path) × (rest ≡ r ++ tail)) → is_new value × ((tail : Path) × (path ≡ n ∷ (r ++ tail)))
          lift eq (a, (t, b)) = (a, (t, is ∙ ap (λ m. m ∷ rest) (sym eq) ∙ ap (λ l. n ∷ l) b))

          fresh : (r' : Path) → r' ≡ r → child old.branches name ≡ None → value_at sub' r' ≡ Some value → is_new value × ((tail : Path) × (rest ≡ r' ++ tail))
          fresh [] re was g = let new_one = grown.makes sub was at in let kept : Some sub.value ≡ Some value = sym (below.keeps [] sub.value refl) ∙ g in let eq : sub.value ≡ value = cc in (subst is_new eq new_one.0, (rest, refl))
          fresh (m ∷ r'') re was g = let new_one = grown.makes sub was at in below.makes (m ∷ r'') value (none_below sub m r'' new_one.1) g

          known : (o : Option (Tree V)) → child old.branches name ≡ o → value_in o r ≡ None → value_at sub' r ≡ Some value → is_new value × ((tail : Path) × (rest ≡ r ++ tail))
          known None was h g = fresh r refl was g
          known (Some s) was h g = below.makes r value (ap (λ z. value_at z r) (some_same (sym at ∙ grown.keeps s was)) ∙ h) g

          by_name : (t : Bool) → bytes_eq n name ≡ t → is_new value × ((tail : Path) × (path ≡ n ∷ (r ++ tail)))
          by_name true same =
              let eq : n ≡ name = (bytes_eq-Decides n name).0 same in
              lift eq (known (child old.branches name) refl (ap (λ m. value_in (child old.branches m) r) (sym eq) ∙ e)
              (sym (ap (λ m. value_in (child (update_child node.branches name (λ _. sub')) m) r) eq ∙ ap (λ o. value_in o r) (child-update_same node.branches name (λ _. sub') sub at)) ∙ f))
          by_name false other =
              let ne : n ≢ name = λ eq. false≢true (sym other ∙ (bytes_eq-Decides n name).1 eq) in
              absurd (none-some _ (sym (ap (λ o. value_in o r) (child-update_other node.branches name n (λ _. sub') ne ∙ grown.others n ne) ∙ e) ∙ f))

  pub there-step : (node sub sub' : Tree V) (path : Path) (name : Name) (rest : Path) → path ≡ name ∷ rest → child node.branches name ≡ Some sub → IsSome (get sub' rest) → IsSome (get (tree_of node.value (update_child node.branches name (λ _. sub'))) path)
  there-step node sub sub' path name rest is at there =
      subst IsSome (sym (ap (get (tree_of node.value (update_child node.branches name (λ _. sub')))) is ∙ ap (λ o. option_and_then (λ s. get s rest) o) (child-update_same node.branches name (λ _. sub') sub at))) there

  pub extended-same : (is_new : V → Type 0) (old : Tree V) (path : Path) → AddsDefaults is_new old path old
  extended-same is_new old path = record { keeps = λ q v e. e; makes = λ q v e f. absurd (none-some _ (sym e ∙ f)); ordered = λ up. up }
