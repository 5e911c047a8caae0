-- Structural equality of trees: the same names and equal values, node by node.
-- Cited by contracts of public items: tree_eq, tree_equiv, tree_per.
use Rattle.std.specs.Prelude.{◌≡◌, Bool, true, false, ◌&&◌}
use Rattle.std.proofs.Common.{refl}
use mathlib.Core.Bool.{false≢true}
use Rattle.std.specs.Str.{bytes_eq}
use Rattle.std.specs.Cmp.{IsPartialEquivalence, IsEquivalence, equiv, partial_equiv_from_equiv}
use Rattle.std.specs.Cmp.Lexicographic.{nat_list_eq_equiv}
use Rattle.std.proofs.lemmas.Bool.{and_parts, and_from}
use Rattle.jj_paths.specs.Tree.{Tree, Branches, none, branch}

module _ {V : Type 0} (eq : V → V → Bool) where
  -- equality of branches: the same names in order, with equal values and equal branches
  abbrev pub branches_eq : Branches V → Branches V → Bool
  branches_eq none none = true
  branches_eq none (branch name value below after) = false
  branches_eq (branch name value below after) none = false
  branches_eq (branch name value below after) (branch name' value' below' after') =
      bytes_eq name name' && (eq value value'
      && (branches_eq below below' && branches_eq after after'))

  -- equality of trees: equal values and equal branches
  abbrev pub tree_eq : Tree V → Tree V → Bool
  tree_eq tree other = eq tree.value other.value && branches_eq tree.branches other.branches

module _ {V : Type 0} {eq : V → V → Bool} where
  module _ (values : IsPartialEquivalence eq) where
    branches_symm : (b c : Branches V) → branches_eq eq b c ≡ branches_eq eq c b
    branches_symm none none = refl
    branches_symm none (branch m w c d) = refl
    branches_symm (branch n v a b) none = refl
    branches_symm (branch n v a b) (branch m w c d) =
        let p = branches_symm a c in
        let q = branches_symm b d in
        let names = nat_list_eq_equiv in
        λ i. names.symm n m i && (values.symm v w i && (p i && q i))

    branches_trans : (b c d : Branches V) → branches_eq eq b c ≡ true → branches_eq eq c d ≡ true
        → branches_eq eq b d ≡ true
    branches_trans none none d h k = k
    branches_trans none (branch m w c d) x h k = absurd (false≢true h)
    branches_trans (branch n v a b) none x h k = absurd (false≢true h)
    branches_trans (branch n v a b) (branch m w c d) none h k = absurd (false≢true k)
    branches_trans (branch n v a b) (branch m w c d) (branch l u e f) h k =
        let names = partial_equiv_from_equiv nat_list_eq_equiv in
        let h0 = and_parts (bytes_eq n m) _ h in
        let k0 = and_parts (bytes_eq m l) _ k in
        let h1 = and_parts (eq v w) _ h0.1 in
        let k1 = and_parts (eq w u) _ k0.1 in
        let h2 = and_parts (branches_eq eq a c) _ h1.1 in
        let k2 = and_parts (branches_eq eq c e) _ k1.1 in
        and_from _ _ (names.trans n m l h0.0 k0.0)
        (and_from _ _ (values.trans v w u h1.0 k1.0)
        (and_from _ _ (branches_trans a c e h2.0 k2.0) (branches_trans b d f h2.1 k2.1)))

    pub tree_per : IsPartialEquivalence (tree_eq eq)
    tree_per = record {
      symm = λ s t.
          let b = branches_symm s.branches t.branches in
          λ i. values.symm s.value t.value i && b i;
      trans = λ s t u h k.
          let hs = and_parts (eq s.value t.value) _ h in
          let ks = and_parts (eq t.value u.value) _ k in
          and_from _ _ (values.trans s.value t.value u.value hs.0 ks.0)
          (branches_trans s.branches t.branches u.branches hs.1 ks.1);
    }

  pub tree_equiv : IsEquivalence eq → IsEquivalence (tree_eq eq)
  tree_equiv values = equiv (tree_per (partial_equiv_from_equiv values))
      (λ t. and_from _ _ (values.refl t.value) (itself t.branches))
    where
      itself : (b : Branches V) → branches_eq eq b b ≡ true
      itself none = refl
      itself (branch n v a b) = let names = nat_list_eq_equiv in and_from _ _ (names.refl n)
          (and_from _ _ (values.refl v) (and_from _ _ (itself a) (itself b)))
