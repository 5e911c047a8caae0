-- Lemmas of trees whose values are clones of another's, node by node.
use Rattle.std.proofs.Common.{◌≡◌, ◌&&◌, List, [], ◌∷◌, ◌++◌, refl, ap, sym, ◌∙◌}
use Rattle.std.specs.Ordering.{is_lt}
use Rattle.std.specs.FinMap.{is_sorted}
use Rattle.std.specs.FinMap.Entries.{below_all}
use Rattle.jj_paths.specs.Paths.{Name, name_cmp}
use Rattle.jj_paths.specs.Tree.{Tree, tree_of, Branches, none, branch, branches_of, AreClones, IsTreeClone}

module _ {V : Type 0} (is_clone : V → V → Type 0) where
  -- one more child in both trees
  pub clones-snoc : (xs ys : List (Name × Tree V)) (x y : Name × Tree V) → AreClones is_clone (branches_of xs) (branches_of ys) → x.0 ≡ y.0 → IsTreeClone is_clone x.1 y.1 → AreClones is_clone (branches_of (xs ++ x ∷ [])) (branches_of (ys ++ y ∷ []))
  clones-snoc [] [] x y same name clone = (name, clone.0, clone.1, tt)
  clones-snoc [] (y' ∷ ys) x y same name clone = absurd same
  clones-snoc (x' ∷ xs) [] x y same name clone = absurd same
  clones-snoc (x' ∷ xs) (y' ∷ ys) x y same name clone = (same.0, same.1, same.2, clones-snoc xs ys x y same.3 name clone)

  -- cloned branches are sorted if the originals are
  below_all-clones : (n m : Name) (xs ys : List (Name × Tree V)) → n ≡ m → AreClones is_clone (branches_of xs) (branches_of ys) → below_all name_cmp n xs ≡ below_all name_cmp m ys
  below_all-clones n m [] [] e same = refl
  below_all-clones n m [] (y ∷ ys) e same = absurd same
  below_all-clones n m (x ∷ xs) [] e same = absurd same
  below_all-clones n m (x ∷ xs) (y ∷ ys) e same =
      ap (λ k. is_lt (name_cmp k x.0) && below_all name_cmp n xs) e
      ∙ ap (λ k. is_lt (name_cmp m k) && below_all name_cmp n xs) same.0
      ∙ ap (λ t. is_lt (name_cmp m y.0) && t) (below_all-clones n m xs ys e same.3)

  pub is_sorted-clones : (xs ys : List (Name × Tree V)) → AreClones is_clone (branches_of xs) (branches_of ys) → is_sorted name_cmp xs ≡ is_sorted name_cmp ys
  is_sorted-clones [] [] same = refl
  is_sorted-clones [] (y ∷ ys) same = absurd same
  is_sorted-clones (x ∷ xs) [] same = absurd same
  is_sorted-clones (x ∷ xs) (y ∷ ys) same =
      ap (λ t. t && is_sorted name_cmp xs) (below_all-clones x.0 y.0 xs ys same.0 same.3)
      ∙ ap (λ t. below_all name_cmp y.0 ys && t) (is_sorted-clones xs ys same.3)

  -- a tree of clones equals the original if every clone equals its original
  module _ (exact : (value copied : V) → is_clone value copied → copied ≡ value) where
    same_branches : (b c : Branches V) → AreClones is_clone b c → c ≡ b
    same_branches none none same = refl
    same_branches none (branch m w c d) same = absurd same
    same_branches (branch n v a b) none same = absurd same
    same_branches (branch n v a b) (branch m w c d) same =
        let e = sym same.0 in
        let f = exact v w same.1 in
        let p = same_branches a c same.2 in
        let q = same_branches b d same.3 in
        λ i. branch (e i) (f i) (p i) (q i)

    pub same_tree : (tree copy : Tree V) → IsTreeClone is_clone tree copy → copy ≡ tree
    same_tree tree copy same = let v = exact tree.value copy.value same.0 in let b = same_branches tree.branches copy.branches same.1 in λ i. tree_of (v i) (b i)
