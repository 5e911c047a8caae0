-- Branches as lists of named children, and lookup in them.
use Rattle.std.proofs.Common.{◌≡◌, ℕ, zero, suc, ◌<◌, get_or, Some, None, ◌∙◌, inl, inr, Bool, true, false, not, ◌==◌, List, [], ◌∷◌, length, refl, ap, sym, arith}
use Rattle.std.proofs.lemmas.Bool.{ne_eqb}
use Rattle.jj_paths.specs.Paths.{Name, name_cmp}
use Rattle.std.specs.declared.cmp.Ordering.TheVariants.{Less, Equal, Greater}
use Rattle.std.specs.Str.{bytes_eq}
use Rattle.std.specs.FinMap.{is_sorted}
use Rattle.std.proofs.lemmas.Slice.Eq.{bytes_eq-Decides}
use Rattle.std.proofs.lemmas.Bool.{and_parts, cases_lt}
use Rattle.jj_paths.specs.Tree.{Tree, branches_of, children, has_branches, child, IsIndexOf, IsInsertionPoint}
use Rattle.jj_paths.proofs.PathOrders.{name_cmp-itself}
use Rattle.jj_paths.proofs.ChildSearch.{below_all-at}

-- names that compare unequal differ
pub not_same : (x y name : Name) → name_cmp x y ≡ Less → y ≡ name → bytes_eq x name ≡ false
not_same x y name less e = by_cases (bytes_eq x name) refl
  where
    by_cases : (t : Bool) → bytes_eq x name ≡ t → t ≡ false
    by_cases true is = let same : x ≡ y = (bytes_eq-Decides x name).0 is ∙ sym e in let equal : Less ≡ Equal = sym less ∙ ap (λ z. name_cmp z y) same ∙ name_cmp-itself y in cc
    by_cases false is = refl

not_same_greater : (x name : Name) → name_cmp x name ≡ Greater → bytes_eq x name ≡ false
not_same_greater x name more = by_cases (bytes_eq x name) refl
  where
    by_cases : (t : Bool) → bytes_eq x name ≡ t → t ≡ false
    by_cases true is = let same : x ≡ name = (bytes_eq-Decides x name).0 is in let equal : Greater ≡ Equal = sym more ∙ ap (λ z. name_cmp z name) same ∙ name_cmp-itself name in cc
    by_cases false is = refl

module _ {V : Type 0} where
  pub children-branches_of : (items : List (Name × Tree V)) → children (branches_of items) ≡ items
  children-branches_of [] = refl
  children-branches_of (x ∷ xs) = ap (λ l. x ∷ l) (children-branches_of xs)

  pub has_branches-branches_of : (items : List (Name × Tree V)) → has_branches (branches_of items) ≡ not (length items == 0)
  has_branches-branches_of [] = refl
  has_branches-branches_of (x ∷ xs) = ap not (sym (ne_eqb (length (x ∷ xs)) 0 (omega arith)))

  -- the child at the index of its name, and none if the name has only an insertion point
  pub child-at : (items : List (Name × Tree V)) (name : Name) (i : ℕ) (d : Name × Tree V) → is_sorted name_cmp items ≡ true → IsIndexOf items name i → child (branches_of items) name ≡ Some (get_or items i d).1
  child-at [] name i d sorted at = absurd (omega (arith, at.in_range))
  child-at (x ∷ xs) name zero d sorted at = rw ((bytes_eq-Decides x.0 name).1 (at.has_name d))
  child-at (x ∷ xs) name (suc i) d sorted at =
      let less : name_cmp x.0 (get_or xs i d).0 ≡ Less = below_all-at x.0 xs i d (and_parts _ _ sorted).0 (omega (arith, at.in_range)) in
      let differs : bytes_eq x.0 name ≡ false = not_same x.0 (get_or xs i d).0 name less (at.has_name d) in
      rw differs (child-at xs name i d (and_parts _ _ sorted).1 (record { in_range = omega (arith, at.in_range); has_name = at.has_name }))

  -- no branch has the name
  child_absent : (items : List (Name × Tree V)) (name : Name) (d : Name × Tree V) → ((j : ℕ) → j < length items → bytes_eq (get_or items j d).0 name ≡ false) → child (branches_of items) name ≡ None
  child_absent [] name d other = refl
  child_absent (x ∷ xs) name d other = rw (other 0 (omega arith)) (child_absent xs name d (λ j lt. other (suc j) (omega arith)))

  pub child-gap : (items : List (Name × Tree V)) (name : Name) (i : ℕ) (d : Name × Tree V) → IsInsertionPoint items name i → child (branches_of items) name ≡ None
  child-gap items name i d gap = child_absent items name d (λ j lt. elim (cases_lt j i) [
    | inl before ↦ not_same (get_or items j d).0 name name (gap.smaller_before j d before) refl
    | inr after ↦ not_same_greater (get_or items j d).0 name (gap.greater_after j d after lt)
  ])
