-- Loops that move the items of an ascending list into a hash table.
use Rattle.std.proofs.Common.{◌≡◌, ◌+◌, List, [], ◌∷◌, ◌++◌, Bool, false, None, get_or, arith, sym, ap, ◌∙◌, refl}
use Rattle.std.specs.List.{AllByRecursion, list_any}
use Rattle.std.specs.List.Sorted.{IsStrictlySortedBy, IsPermutation, IsSortedBy}
use Rattle.std.specs.Map.{lookup}
use Rattle.std.specs.Cmp.{IsTotalOrder}
use Rattle.std.specs.Ordering.{is_lt, is_eq, ordering_reverse}
use Rattle.std.specs.declared.cmp.Ordering.{Ordering}
use Rattle.std.specs.declared.cmp.Ordering.TheVariants.{Less, Equal, Greater}
use Rattle.std.proofs.lemmas.List.Sorted.{IsPermutation-sym, IsPermutation-trans, IsPermutation-middle, IsPermutation-append_right}
use Rattle.std.proofs.lemmas.Map.Keys.{IsDistinct-from_sorted, IsDistinct-IsPermutation, IsDistinct-head, Less-from_sorted}
use Rattle.jj_content.specs.Content.{insertion_sort}
use Rattle.jj_content.specs.SortingProofs.{sorted_unique}

eq_reverse : (r : Ordering) → is_eq (ordering_reverse r) ≡ is_eq r
eq_reverse Less = refl
eq_reverse Equal = refl
eq_reverse Greater = refl

all_after : {X : Type 0} (P : X → Type 0) (xs ys : List X) → AllByRecursion P (xs ++ ys)
    → AllByRecursion P ys
all_after P [] ys a = a
all_after P (x ∷ xs) ys a = all_after P xs ys a.1

module _ {X : Type 0} {S : X → X → Ordering} (o : IsTotalOrder S) where
  flips : (x y : X) → is_eq (S x y) ≡ is_eq (S y x)
  flips x y = ap is_eq (o.antisymm x y) ∙ eq_reverse (S y x)

  -- an item that was not moved is unequal to those that were
  pub unequal_to_moved : (all rest moved : List X) (x : X) → IsStrictlySortedBy S all
      → IsPermutation all (x ∷ (rest ++ moved)) → AllByRecursion (λ y. is_eq (S x y) ≡ false) moved
  unequal_to_moved all rest moved x sorted p =
      let distinct = IsDistinct-IsPermutation (λ x y. is_eq (S x y)) flips all
      (x ∷ (rest ++ moved)) p (IsDistinct-from_sorted S all sorted) in
      all_after (λ y. is_eq (S x y) ≡ false) rest moved
      (IsDistinct-head (λ x y. is_eq (S x y)) x (rest ++ moved) distinct)

  -- the moved items, sorted, are the list again
  pub sorted_moved : (all moved : List X) → IsStrictlySortedBy S all → IsPermutation all moved
      → insertion_sort S moved ≡ all
  sorted_moved all moved sorted p =
      let distinct = IsDistinct-IsPermutation (λ x y. is_eq (S x y)) flips all moved p
      (IsDistinct-from_sorted S all sorted) in
      let adjacent : IsSortedBy (λ x y. is_lt (S x y)) all = λ k d _ lt.
      ap is_lt (o.antisymm (get_or all (k + 1) d) (get_or all k d)
      ∙ ap ordering_reverse (Less-from_sorted S all k (k + 1) d sorted (omega arith) lt)) in
      sym (sorted_unique o moved all distinct (IsPermutation-sym all moved p) adjacent)

-- one more item was moved
pub one_more_moved : {X : Type 0} (all rest moved new : List X) (x : X)
    → IsPermutation all (x ∷ (rest ++ moved)) → IsPermutation (x ∷ moved) new
    → IsPermutation all (rest ++ new)
one_more_moved all rest moved new x p q =
    IsPermutation-trans all (x ∷ (rest ++ moved)) (rest ++ new) p
    (IsPermutation-trans (x ∷ (rest ++ moved)) (rest ++ x ∷ moved) (rest ++ new)
    (IsPermutation-sym (rest ++ x ∷ moved) (x ∷ (rest ++ moved)) (IsPermutation-middle rest x moved))
    (IsPermutation-append_right rest (x ∷ moved) new q))

module _ {K : Type 0} (R : K → K → Ordering) (E : K → K → Bool)
    (ties : (x y : K) → E x y ≡ is_eq (R x y)) (k : K) where
  -- no entry has the key
  pub lookup_none : {V : Type 0} (es : List (K × V))
      → AllByRecursion (λ e. is_eq (R k e.0) ≡ false) es → lookup (E k) es ≡ None
  lookup_none [] a = refl
  lookup_none (e ∷ es) a =
      let differs : E k e.0 ≡ false = ties k e.0 ∙ a.0 in
      rw differs (lookup_none es a.1)

  -- no member is equal to the key
  pub none_equal : (ks : List K) → AllByRecursion (λ q. is_eq (R k q) ≡ false) ks
      → list_any (E k) ks ≡ false
  none_equal [] a = refl
  none_equal (q ∷ ks) a =
      let differs : E k q ≡ false = ties k q ∙ a.0 in
      rw differs (none_equal ks a.1)
