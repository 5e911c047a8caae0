-- The tree of a list of marks: built one mark at a time, in any order, with the marked paths of the list.
use Rattle.std.proofs.Common.{◌≡◌, ◌≢◌, ◌⊎◌, inl, inr, ◌↔◌, Option, Some, None, IsSome, ◌∙◌, Bool, true, false, List, [], ◌∷◌, ◌++◌, refl, ap, sym, subst, append_assoc, append-nil, lit<, unwrap_or}
use Rattle.std.specs.Prelude.{Contains}
use mathlib.Core.Bool.{false≢true}
use Rattle.std.specs.Str.{bytes_eq}
use Rattle.std.specs.Cmp.{both_ways}
use Rattle.std.specs.Option.{option_and_then, option_map}
use Rattle.std.proofs.lemmas.Slice.Eq.{bytes_eq-Decides}
use Rattle.std.proofs.lemmas.Option.{none-some}
use Rattle.std.proofs.lemmas.List.Elements.{Contains-append_left, Contains-append_right, Contains-append_cases}
use Rattle.jj_paths.specs.Paths.{Path}
use Rattle.jj_paths.specs.Tree.{Tree, none, get, child, value_at, is_ordered, SetsValue}
use Rattle.jj_paths.proofs.ListedNodes.{nothing_there, the_one}
use Rattle.jj_paths.proofs.PathLaws.{has_ancestors}
use Rattle.jj_matchers.specs.Marks.{is_marked, marked_paths, IsMarkedTree, LeadsToMarks}
use Rattle.jj_matchers.specs.PathLists.{is_listed, HasSamePaths}
use Rattle.jj_matchers.proofs.Marks.{is_listed-marked}
use Rattle.jj_matchers.proofs.PathLists.{Decides-is_listed, same_members}

-- 1. Insertion of marks, one after another.

not_some_none : (X : Type 0) → IsSome {T = X} None → ⊥
not_some_none X e = absurd (false≢true e)

-- equality of paths is decidable
same_or_not : (p q : Path) → (p ≡ q) ⊎ (p ≢ q)
same_or_not [] [] = inl refl
same_or_not [] (n ∷ q) = inr (λ e. cc)
same_or_not (m ∷ p) [] = inr (λ e. cc)
same_or_not (m ∷ p) (n ∷ q) = by_name (bytes_eq m n) refl (same_or_not p q)
  where
    by_rest : m ≡ n → (p ≡ q) ⊎ (p ≢ q) → (m ∷ p ≡ n ∷ q) ⊎ (m ∷ p ≢ n ∷ q)
    by_rest e (inl same) = inl cc
    by_rest e (inr other) = inr (λ all. other cc)

    by_name : (b : Bool) → bytes_eq m n ≡ b → (p ≡ q) ⊎ (p ≢ q) → (m ∷ p ≡ n ∷ q) ⊎ (m ∷ p ≢ n ∷ q)
    by_name true is rest = by_rest ((bytes_eq-Decides m n).0 is) rest
    by_name false is rest = inr (λ all. false≢true (sym is ∙ (bytes_eq-Decides m n).1 cc))

-- the value of an existing node
pub value_there : (t : Tree Bool) (q : Path) → IsSome (get t q) → (v : Bool) × (value_at t q ≡ Some v)
value_there t q there = known (get t q) there
  where
    known : (o : Option (Tree Bool)) → IsSome o → (v : Bool) × (option_map (λ node. node.value) o ≡ Some v)
    known None h = absurd (not_some_none (Tree Bool) h)
    known (Some node) h = (node.value, refl)

pub there_by_value : (t : Tree Bool) (q : Path) (v : Bool) → value_at t q ≡ Some v → IsSome (get t q)
there_by_value t q v is = known (get t q) is
  where
    known : (o : Option (Tree Bool)) → option_map (λ node. node.value) o ≡ Some v → IsSome o
    known None h = absurd (none-some _ h)
    known (Some node) h = refl

-- the tree of an unmarked root is that of no marks
pub marked_start : (t : Tree Bool) → t.value ≡ false → t.branches ≡ none → IsMarkedTree [] t
marked_start t unmarked bare = record {
  ordered = ap is_ordered bare;
  marked = λ path. ((λ is. absurd (no_mark path is)), (λ h. absurd (nothing_there path h)));
  nodes = λ path. ((λ is. inl (only_root path is)), back path);
}
  where
    no_mark : (path : Path) → value_at t path ≡ Some true → ⊥
    no_mark [] is = let e : t.value ≡ true = cc in false≢true (sym unmarked ∙ e)
    no_mark (name ∷ rest) is = none-some _ (sym (ap (λ b. option_map (λ node. node.value) (option_and_then (λ sub. get sub rest) (child b name))) bare) ∙ is)

    only_root : (path : Path) → IsSome (get t path) → path ≡ []
    only_root [] is = refl
    only_root (name ∷ rest) is = absurd (not_some_none (Tree Bool) (subst IsSome (ap (λ b. option_and_then (λ sub. get sub rest) (child b name)) bare) is))

    back : (path : Path) → (path ≡ []) ⊎ ((rest : Path) × Contains [] (path ++ rest)) → IsSome (get t path)
    back path (inl root) = subst (λ p. IsSome (get t p)) (sym root) refl
    back path (inr (rest, h)) = absurd (nothing_there (path ++ rest) h)

-- one more mark
pub marked_step : (is_new : Bool → Type 0) → ((v : Bool) → is_new v → v ≡ false) → (marks : List Path) (path : Path) (old new : Tree Bool) → IsMarkedTree marks old → SetsValue is_new old path true new → IsMarkedTree (marks ++ path ∷ []) new
marked_step is_new unmarked marks path old new before set = record {
  ordered = set.ordered before.ordered;
  marked = λ q. (is_mark q (same_or_not q path), has_mark q (same_or_not q path));
  nodes = λ q. (leads q (same_or_not q path), is_node q (same_or_not q path));
}
  where
    Marks : List Path
    Marks = marks ++ path ∷ []

    last : (q : Path) → q ≡ path → Contains Marks q
    last q e = Contains-append_right marks (path ∷ []) q (0, lit< tt, sym e)

    is_mark : (q : Path) → (q ≡ path) ⊎ (q ≢ path) → value_at new q ≡ Some true → Contains Marks q
    is_mark q (inl e) is = last q e
    is_mark q (inr off) is = by_old (value_at old q) refl
      where
        by_old : (o : Option Bool) → value_at old q ≡ o → Contains Marks q
        by_old None was = absurd (false≢true (sym (unmarked true (set.makes q true off was is).0)))
        by_old (Some v) was =
            let kept : Some v ≡ Some true = sym (set.keeps q v off was) ∙ is in
            Contains-append_left marks (path ∷ []) q ((before.marked q).0 (was ∙ kept))

    has_mark : (q : Path) → (q ≡ path) ⊎ (q ≢ path) → Contains Marks q → value_at new q ≡ Some true
    has_mark q (inl e) h = ap (value_at new) e ∙ set.here
    has_mark q (inr off) h = by_part (Contains-append_cases marks (path ∷ []) q h)
      where
        by_part : Contains marks q ⊎ Contains (path ∷ []) q → value_at new q ≡ Some true
        by_part (inl old_mark) = set.keeps q true off ((before.marked q).1 old_mark)
        by_part (inr one) = absurd (off (the_one path q one))

    more : (q : Path) → (q ≡ []) ⊎ ((rest : Path) × Contains marks (q ++ rest)) → (q ≡ []) ⊎ ((rest : Path) × Contains Marks (q ++ rest))
    more q (inl root) = inl root
    more q (inr (rest, h)) = inr (rest, Contains-append_left marks (path ∷ []) (q ++ rest) h)

    leads : (q : Path) → (q ≡ path) ⊎ (q ≢ path) → IsSome (get new q) → (q ≡ []) ⊎ ((rest : Path) × Contains Marks (q ++ rest))
    leads q (inl e) there = inr ([], last (q ++ []) (append-nil q ∙ e))
    leads q (inr off) there = let (v, is) = value_there new q there in by_old v is (value_at old q) refl
      where
        by_old : (v : Bool) → value_at new q ≡ Some v → (o : Option Bool) → value_at old q ≡ o → (q ≡ []) ⊎ ((rest : Path) × Contains Marks (q ++ rest))
        by_old v is None was = let (new_one, (rest, front)) = set.makes q v off was is in inr (rest, last (q ++ rest) (sym front))
        by_old v is (Some w) was = more q ((before.nodes q).0 (there_by_value old q w was))

    is_node : (q : Path) → (q ≡ path) ⊎ (q ≢ path) → (q ≡ []) ⊎ ((rest : Path) × Contains Marks (q ++ rest)) → IsSome (get new q)
    is_node q at (inl root) = subst (λ p. IsSome (get new p)) (sym root) refl
    is_node q (inl e) (inr h) = there_by_value new q true (ap (value_at new) e ∙ set.here)
    is_node q (inr off) (inr (rest, h)) = by_part (Contains-append_cases marks (path ∷ []) (q ++ rest) h)
      where
        by_part : Contains marks (q ++ rest) ⊎ Contains (path ∷ []) (q ++ rest) → IsSome (get new q)
        by_part (inl old_mark) = let (v, was) = value_there old q ((before.nodes q).1 (inr (rest, old_mark))) in there_by_value new q v (set.keeps q v off was)
        by_part (inr one) = has_ancestors Bool new q rest (there_by_value new (q ++ rest) true (ap (value_at new) (the_one path (q ++ rest) one) ∙ set.here))

-- lists of the same marks have the same trees
pub marked_members : (xs ys : List Path) (t : Tree Bool) → ((path : Path) → Contains xs path ↔ Contains ys path) → IsMarkedTree xs t → IsMarkedTree ys t
marked_members xs ys t same marked = record {
  ordered = marked.ordered;
  marked = λ path. ((λ is. (same path).0 ((marked.marked path).0 is)), (λ h. (marked.marked path).1 ((same path).1 h)));
  nodes = λ path. ((λ is. there path ((marked.nodes path).0 is)), (λ h. (marked.nodes path).1 (back path h)));
}
  where
    there : (path : Path) → (path ≡ []) ⊎ ((rest : Path) × Contains xs (path ++ rest)) → (path ≡ []) ⊎ ((rest : Path) × Contains ys (path ++ rest))
    there path (inl root) = inl root
    there path (inr (rest, h)) = inr (rest, (same (path ++ rest)).0 h)

    back : (path : Path) → (path ≡ []) ⊎ ((rest : Path) × Contains ys (path ++ rest)) → (path ≡ []) ⊎ ((rest : Path) × Contains xs (path ++ rest))
    back path (inl root) = inl root
    back path (inr (rest, h)) = inr (rest, (same (path ++ rest)).1 h)

-- 2. The marks of the tree.

module _ (marks : List Path) (tree : Tree Bool) (marked : IsMarkedTree marks tree) where
  -- the marked paths of the tree are those of the list
  pub marked-paths : HasSamePaths (marked_paths tree) marks
  marked-paths = same_members (marked_paths tree) marks (λ path. is_listed-marked tree path ∙ both_ways (is_marked tree path) (is_listed marks path) (to path) (from path))
    where
      value_true : (o : Option Bool) → unwrap_or o false ≡ true → o ≡ Some true
      value_true None h = absurd (false≢true h)
      value_true (Some true) h = refl
      value_true (Some false) h = absurd (false≢true h)

      to : (path : Path) → is_marked tree path ≡ true → is_listed marks path ≡ true
      to path h = (Decides-is_listed marks path).1 ((marked.marked path).0 (value_true (value_at tree path) h))

      from : (path : Path) → is_listed marks path ≡ true → is_marked tree path ≡ true
      from path h = ap (λ (o : Option Bool). unwrap_or o false) ((marked.marked path).1 ((Decides-is_listed marks path).0 h))

  -- every leaf except the root is marked
  pub marked-leads : LeadsToMarks tree
  marked-leads above name blank no_child = by_mark ((marked.nodes path).0 (there_by_value tree path false blank))
    where
      path : Path
      path = above ++ name ∷ []

      not_root : (above : Path) → above ++ name ∷ [] ≡ [] → ⊥
      not_root [] e = cc
      not_root (first ∷ above) e = cc

      below : (rest : Path) → Contains marks (path ++ rest) → ⊥
      below [] h =
          let is : value_at tree path ≡ Some true = (marked.marked path).1 (subst (Contains marks) (append-nil path) h) in
          let clash : Some false ≡ Some true = sym blank ∙ is in cc
      below (next ∷ rest) h =
          let child = above ++ name ∷ next ∷ [] in
          let whole : path ++ next ∷ rest ≡ child ++ rest = append_assoc above (name ∷ []) (next ∷ rest) ∙ sym (append_assoc above (name ∷ next ∷ []) rest) in
          let is : value_at tree (child ++ rest) ≡ Some true = (marked.marked (child ++ rest)).1 (subst (Contains marks) whole h) in
          let (v, at) = value_there tree child (has_ancestors Bool tree child rest (there_by_value tree (child ++ rest) true is)) in
          none-some _ (sym (no_child next) ∙ at)

      by_mark : (path ≡ []) ⊎ ((rest : Path) × Contains marks (path ++ rest)) → ⊥
      by_mark (inl root) = not_root above root
      by_mark (inr (rest, h)) = below rest h
