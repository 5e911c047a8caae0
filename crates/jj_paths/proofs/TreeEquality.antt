-- Equality of trees by their values and, child by child, their branches.
use Rattle.std.proofs.Common.{◌≡◌, ◌≢◌, suc, Bool, true, false, not, ◌&&◌, List, length, refl, ap, sym, ◌∙◌}
use Rattle.std.proofs.Math.Bool.{and-false}
use mathlib.Core.Bool.{false≢true}
use Rattle.std.proofs.lemmas.Bool.{and_parts}
use Rattle.std.specs.Str.{bytes_eq}
use Rattle.jj_paths.specs.Paths.{Name}
use Rattle.jj_paths.specs.Tree.{Tree, tree_of, Branches, none, branch, branches_of, children}
use Rattle.jj_paths.specs.Equal.{branches_eq, tree_eq}

module _ {V : Type 0} (eq : V → V → Bool) where
  same_length : (b c : Branches V) → branches_eq eq b c ≡ true → length (children b) ≡ length (children c)
  same_length none none e = refl
  same_length none (branch m w c d) e = absurd (false≢true e)
  same_length (branch n v a b) none e = absurd (false≢true e)
  same_length (branch n v a b) (branch m w c d) e =
      let names = and_parts (bytes_eq n m) _ e in
      let values = and_parts (eq v w) _ names.1 in
      let both = and_parts (branches_eq eq a c) _ values.1 in
      ap suc (same_length b d both.1)

  pub unequal_lengths : (s t : Tree V) → length (children s.branches) ≢ length (children t.branches) → false ≡ tree_eq eq s t
  unequal_lengths s t differ = by_cases (branches_eq eq s.branches t.branches) refl
    where
      by_cases : (r : Bool) → branches_eq eq s.branches t.branches ≡ r → false ≡ (eq s.value t.value && branches_eq eq s.branches t.branches)
      by_cases true e = absurd (differ (same_length s.branches t.branches e))
      by_cases false e = rw e (sym (and-false (eq s.value t.value)))

  not_unequal : (b : Bool) → false ≡ not b → b ≡ true
  not_unequal true e = refl
  not_unequal false e = absurd (false≢true e)

  pub children_as_branches : (b : Branches V) → branches_of (children b) ≡ b
  children_as_branches none = refl
  children_as_branches (branch n v b a) = ap (branch n v b) (children_as_branches a)

  -- trees with equal values are equal if and only if their branches are
  pub children_decide : (s t : Tree V) (v w : V) (b c : Branches V) (mine theirs : List (Name × Tree V)) → tree_of v b ≡ s → tree_of w c ≡ t → false ≡ not (eq v w) → mine ≡ children s.branches → theirs ≡ children t.branches →
      tree_eq eq s t ≡ branches_eq eq (branches_of mine) (branches_of theirs)
  children_decide s t v w b c mine theirs is is' e m n =
      ap (λ x. eq x.value t.value && branches_eq eq s.branches t.branches) (sym is)
      ∙ ap (λ x. eq v x.value && branches_eq eq s.branches t.branches) (sym is')
      ∙ ap (λ r. r && branches_eq eq s.branches t.branches) (not_unequal (eq v w) e)
      ∙ ap (λ x. branches_eq eq x t.branches) (sym (ap branches_of m ∙ children_as_branches s.branches))
      ∙ ap (λ x. branches_eq eq (branches_of mine) x) (sym (ap branches_of n ∙ children_as_branches t.branches))
