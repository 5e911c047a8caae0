-- Proofs about sorting: sorted lists of distinct items with the same members are equal.
-- Cited by contracts of public items through HashTableProofs.
use Rattle.std.proofs.Common.{◌≡◌, ◌+◌, ◌<◌, ◌⊎◌, List, [], ◌∷◌, length, map, true, false, refl, sym, ap, ◌∙◌, subst, inl, inr, get_or, arith}
use Rattle.std.specs.Ordering.{is_gt, is_eq, is_lt, ordering_reverse}
use Rattle.std.specs.declared.cmp.Ordering.{Ordering}
use Rattle.std.specs.declared.cmp.Ordering.TheVariants.{Less, Equal, Greater}
use Rattle.std.specs.List.{AllByRecursion, IsDistinct}
use Rattle.std.specs.List.Sorted.{IsStrictlySortedBy, IsSortedBy, IsPermutation}
use Rattle.std.specs.Cmp.{IsTotalOrder}
use Rattle.std.proofs.lemmas.Bool.{cond_both}
use Rattle.std.proofs.lemmas.Cmp.{tied_itself}
use Rattle.std.proofs.lemmas.List.Elements.{All-from_recursion, recursion_from_All}
use Rattle.std.proofs.lemmas.List.{length-map, get_or-map}
use Rattle.std.proofs.lemmas.List.Sorted.{All-permutation, IsPermutation-sym, IsPermutation-map}
use Rattle.std.proofs.lemmas.Map.Keys.{IsDistinct-IsPermutation, apart_from_distinct, sorted_from_all_adjacent}
use Rattle.jj_content.specs.Content.{insert_sorted, insertion_sort}

-- z is a member of the list
abbrev IsMember : {X : Type 0} → X → List X → Type 0
IsMember z [] = ⊥
IsMember z (x ∷ xs) = (z ≡ x) ⊎ IsMember z xs

module _ {X : Type 0} where
  pub all_weaken : (P Q : X → Type 0) → ((x : X) → P x → Q x) → (xs : List X) → AllByRecursion P xs
      → AllByRecursion Q xs
  all_weaken P Q f [] a = tt
  all_weaken P Q f (x ∷ xs) a = (f x a.0, all_weaken P Q f xs a.1)

  both : (P Q : X → Type 0) (xs : List X) → AllByRecursion P xs → AllByRecursion Q xs
      → AllByRecursion (λ x. P x × Q x) xs
  both P Q [] a b = tt
  both P Q (x ∷ xs) a b = ((a.0, b.0), both P Q xs a.1 b.1)

  at : (P : X → Type 0) (z : X) (xs : List X) → AllByRecursion P xs → IsMember z xs → P z
  at P z [] a h = absurd h
  at P z (x ∷ xs) a (inl e) = subst P (sym e) a.0
  at P z (x ∷ xs) a (inr h) = at P z xs a.1 h

  members_of_itself : (xs : List X) → AllByRecursion (λ z. IsMember z xs) xs
  members_of_itself [] = tt
  members_of_itself (x ∷ xs) = (
    inl refl,
    all_weaken (λ z. IsMember z xs) (λ z. IsMember z (x ∷ xs))
        (λ z h. inr h) xs (members_of_itself xs),
  )

-- ---- the members of the sorted list
module _ {X : Type 0} (S : X → X → Ordering) where
  all_inserted : (P : X → Type 0) (x : X) (ys : List X) → P x → AllByRecursion P ys
      → AllByRecursion P (insert_sorted S x ys)
  all_inserted P x [] p a = (p, tt)
  all_inserted P x (y ∷ ys) p a =
      cond_both (is_gt (S x y)) (y ∷ insert_sorted S x ys) (x ∷ y ∷ ys) (AllByRecursion P)
      (λ e. (a.0, all_inserted P x ys p a.1)) (λ e. (p, a))

  pub all_sorted : (P : X → Type 0) (xs : List X) → AllByRecursion P xs
      → AllByRecursion P (insertion_sort S xs)
  unfolding insertion_sort
  all_sorted P [] a = a
  all_sorted P (x ∷ xs) a = all_inserted P x (insertion_sort S xs) a.0 (all_sorted P xs a.1)

  length_inserted : (x : X) (ys : List X) → length (insert_sorted S x ys) ≡ length ys + 1
  length_inserted x [] = refl
  length_inserted x (y ∷ ys) =
      cond_both (is_gt (S x y)) (y ∷ insert_sorted S x ys) (x ∷ y ∷ ys)
      (λ l. length l ≡ length (y ∷ ys) + 1)
      (λ e. let h = length_inserted x ys in omega arith) (λ e. omega arith)

  pub length_sorted : (xs : List X) → length (insertion_sort S xs) ≡ length xs
  unfolding insertion_sort
  length_sorted [] = refl
  length_sorted (x ∷ xs) = let h = length_inserted x (insertion_sort S xs) in let k =
      length_sorted xs in omega arith

  member_first : (x : X) (ys : List X) → IsMember x (insert_sorted S x ys)
  member_first x [] = inl refl
  member_first x (y ∷ ys) =
      cond_both (is_gt (S x y)) (y ∷ insert_sorted S x ys) (x ∷ y ∷ ys) (IsMember x)
      (λ e. inr (member_first x ys)) (λ e. inl refl)

  member_later : (z x : X) (ys : List X) → IsMember z ys → IsMember z (insert_sorted S x ys)
  member_later z x [] a = absurd a
  member_later z x (y ∷ ys) a =
      cond_both (is_gt (S x y)) (y ∷ insert_sorted S x ys) (x ∷ y ∷ ys) (IsMember z)
      (λ e. elim a [ inl h ↦ inl h | inr h ↦ inr (member_later z x ys h) ]) (λ e. inr a)

  member_sorted : (xs : List X) → AllByRecursion (λ z. IsMember z (insertion_sort S xs)) xs
  unfolding insertion_sort
  member_sorted [] = tt
  member_sorted (x ∷ xs) = (
    member_first x (insertion_sort S xs),
    all_weaken (λ z. IsMember z (insertion_sort S xs))
        (λ z. IsMember z (insert_sorted S x (insertion_sort S xs)))
        (λ z h. member_later z x (insertion_sort S xs) h) xs (member_sorted xs),
  )

  pub all_from_sorted : (P : X → Type 0) (xs : List X) → AllByRecursion P (insertion_sort S xs)
      → AllByRecursion P xs
  all_from_sorted P xs a = all_weaken (λ z. IsMember z (insertion_sort S xs)) P
      (λ z h. at P z (insertion_sort S xs) a h) xs (member_sorted xs)

-- ---- a sorted list is determined by its members
Less-from : (r : Ordering) → is_gt r ≡ false → is_eq r ≡ false → r ≡ Less
Less-from Less p q = refl
Less-from Equal p q = cc
Less-from Greater p q = cc

Greater-from : (r : Ordering) → is_gt r ≡ true → r ≡ Greater
Greater-from Less p = cc
Greater-from Equal p = cc
Greater-from Greater p = refl

lt_reverse : (r : Ordering) → is_lt (ordering_reverse r) ≡ is_gt r
lt_reverse Less = refl
lt_reverse Equal = refl
lt_reverse Greater = refl

eq_reverse : (r : Ordering) → is_eq (ordering_reverse r) ≡ is_eq r
eq_reverse Less = refl
eq_reverse Equal = refl
eq_reverse Greater = refl

module _ {X : Type 0} {S : X → X → Ordering} (o : IsTotalOrder S) where
  not_both : (x y : X) → S x y ≡ Less → S y x ≡ Less → ⊥
  not_both x y p q = let e : Less ≡ Greater = sym p ∙ o.antisymm x y ∙ ap ordering_reverse q in cc

  not_itself : (x : X) → S x x ≡ Less → ⊥
  not_itself x p = let e : Less ≡ Equal = sym p ∙ tied_itself o x in cc

  sorted_inserted : (x : X) (ys : List X) → IsStrictlySortedBy S ys
      → AllByRecursion (λ y. is_eq (S x y) ≡ false) ys
      → IsStrictlySortedBy S (insert_sorted S x ys)
  unfolding IsStrictlySortedBy
  sorted_inserted x [] s a = (tt, tt)
  sorted_inserted x (y ∷ ys) s a =
      cond_both (is_gt (S x y)) (y ∷ insert_sorted S x ys) (x ∷ y ∷ ys) (IsStrictlySortedBy S)
      (λ e. (
        all_inserted S (λ z. S y z ≡ Less) x ys
            (o.antisymm y x ∙ ap ordering_reverse (Greater-from (S x y) e)) s.0,
        sorted_inserted x ys s.1 a.1,
      ))
      (λ e. let h = Less-from (S x y) e a.0 in (
        (
          h,
          all_weaken (λ z. S y z ≡ Less) (λ z. S x z ≡ Less)
              (λ z k. o.trans x y z h k) ys s.0,
        ),
        s,
      ))

  pub sorted_sort : (xs : List X) → IsDistinct (λ x y. is_eq (S x y)) xs
      → IsStrictlySortedBy S (insertion_sort S xs)
  unfolding insertion_sort IsStrictlySortedBy IsDistinct
  sorted_sort [] d = tt
  sorted_sort (x ∷ xs) d = sorted_inserted x (insertion_sort S xs) (sorted_sort xs d.1)
      (all_sorted S (λ y. is_eq (S x y) ≡ false) xs d.0)

  heads : (x y : X) (xs ys : List X) → AllByRecursion (λ z. S x z ≡ Less) xs
      → AllByRecursion (λ z. S y z ≡ Less) ys → IsMember x (y ∷ ys) → IsMember y (x ∷ xs) → x ≡ y
  heads x y xs ys s t (inl e) k = e
  heads x y xs ys s t (inr h) (inl e) = sym e
  heads x y xs ys s t (inr h) (inr k) = absurd
      (not_both x y (at (λ z. S x z ≡ Less) y xs s k) (at (λ z. S y z ≡ Less) x ys t h))

  tails : (x y : X) (xs ys : List X) → x ≡ y → AllByRecursion (λ z. S x z ≡ Less) xs
      → AllByRecursion (λ z. IsMember z (y ∷ ys)) xs → AllByRecursion (λ z. IsMember z ys) xs
  tails x y xs ys e s a =
      all_weaken (λ z. (S x z ≡ Less) × IsMember z (y ∷ ys)) (λ z. IsMember z ys)
      (λ z p. elim (p.1) [ inl h ↦ absurd (not_itself x (ap (S x) (e ∙ sym h) ∙ p.0)) | inr h ↦ h ])
      xs (both (λ z. S x z ≡ Less) (λ z. IsMember z (y ∷ ys)) xs s a)

  sorted_equal : (xs ys : List X) → IsStrictlySortedBy S xs → IsStrictlySortedBy S ys
      → AllByRecursion (λ z. IsMember z ys) xs → AllByRecursion (λ z. IsMember z xs) ys → xs ≡ ys
  unfolding IsStrictlySortedBy
  sorted_equal [] [] s t a b = refl
  sorted_equal [] (y ∷ ys) s t a b = absurd (b.0)
  sorted_equal (x ∷ xs) [] s t a b = absurd (a.0)
  sorted_equal (x ∷ xs) (y ∷ ys) s t a b =
      let e = heads x y xs ys s.0 t.0 a.0 b.0 in
      let rest = sorted_equal xs ys s.1 t.1 (tails x y xs ys e s.0 a.1)
      (tails y x ys xs (sym e) t.0 b.1) in
      λ i. e i ∷ rest i

  sorted_from_sort : (ys : List X) → IsDistinct (λ x y. is_eq (S x y)) ys
      → IsSortedBy (λ x y. is_lt (S x y)) ys → IsStrictlySortedBy S ys
  unfolding IsStrictlySortedBy
  sorted_from_sort [] d s = tt
  sorted_from_sort (y ∷ ys) d s = sorted_from_all_adjacent o (y ∷ ys) y (λ k lt.
      let a = get_or (y ∷ ys) k y in
      let b = get_or (y ∷ ys) (k + 1) y in
      let up : is_gt (S a b) ≡ false = sym (lt_reverse (S a b)) ∙ ap is_lt (sym (o.antisymm b a))
      ∙ s k y (omega arith) lt in
      Less-from (S a b) up (apart_from_distinct (λ x z. is_eq (S x z)) (y ∷ ys) k (k + 1) y d
      (omega arith) lt))

  -- a sorted permutation of distinct items is `insertion_sort` of them
  pub sorted_unique : (xs ys : List X) → IsDistinct (λ x y. is_eq (S x y)) xs → IsPermutation xs ys
      → IsSortedBy (λ x y. is_lt (S x y)) ys → ys ≡ insertion_sort S xs
  sorted_unique xs ys d p s =
      let flips : (x y : X) → is_eq (S x y) ≡ is_eq (S y x) = λ x y. ap is_eq (o.antisymm x y)
      ∙ eq_reverse (S y x) in
      let there : AllByRecursion (λ z. IsMember z (insertion_sort S xs)) ys =
      recursion_from_All (λ z. IsMember z (insertion_sort S xs)) ys
      (All-permutation (λ z. IsMember z (insertion_sort S xs)) xs ys p
      (All-from_recursion (λ z. IsMember z (insertion_sort S xs)) xs (member_sorted S xs))) in
      let back : AllByRecursion (λ z. IsMember z ys) xs =
      recursion_from_All (λ z. IsMember z ys) xs
      (All-permutation (λ z. IsMember z ys) ys xs (IsPermutation-sym xs ys p)
      (All-from_recursion (λ z. IsMember z ys) ys (members_of_itself ys))) in
      sorted_equal ys (insertion_sort S xs) (sorted_from_sort ys
      (IsDistinct-IsPermutation (λ x y. is_eq (S x y)) flips xs ys p d) s) (sorted_sort xs d)
      there (all_sorted S (λ z. IsMember z ys) xs back)

  sorted_mapped : {A : Type 0} (image : A → X) (ys : List A)
      → IsSortedBy (λ x y. is_lt (S (image x) (image y))) ys
      → IsSortedBy (λ x y. is_lt (S x y)) (map image ys)
  sorted_mapped image [] s = λ k d l lt. absurd (omega arith)
  sorted_mapped image (y ∷ ys) s = λ k d l lt.
      let next : k + 1 < length (y ∷ ys) = omega (arith, length-map (y ∷ ys) image) in
      let here : k < length (y ∷ ys) = omega arith in
      (λ i. is_lt (S (get_or-map image (y ∷ ys) (k + 1) y d next i)
      (get_or-map image (y ∷ ys) k y d here i))) ∙ s k y l next

  -- a sorted permutation of references to distinct items
  pub sorted_unique_mapped : {A : Type 0} (image : A → X) (xs : List X) (before after : List A)
      → map image before ≡ xs → IsDistinct (λ x y. is_eq (S x y)) xs
      → IsPermutation before after → IsSortedBy (λ x y. is_lt (S (image x) (image y))) after
      → map image after ≡ insertion_sort S xs
  sorted_unique_mapped image xs before after e d p s =
      sorted_unique xs (map image after) d (subst
      (λ (zs : List X). IsPermutation zs (map image after)) e
      (IsPermutation-map image before after p)) (sorted_mapped image after s)
