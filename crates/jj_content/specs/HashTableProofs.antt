-- Proofs about tables with distinct keys: two tables agree at every key if and only if their lists
-- of entries in key order are equal. Hence the content of hash maps and hash sets is lawful.
-- Cited by contracts of public items: hash_map_lawful, hash_set_lawful.
use Rattle.std.proofs.Common.{◌≡◌, ℕ, List, [], ◌∷◌, map, Bool, true, false, cond, Option, Some, None, refl, sym, ap, ◌∙◌, subst, inl, inr, arith, ◌&&◌, ◌||◌}
use Rattle.std.specs.Ordering.{on, is_gt, is_eq, ordering_reverse}
use Rattle.std.specs.declared.cmp.Ordering.{Ordering}
use Rattle.std.specs.declared.cmp.Ordering.TheVariants.{Less, Equal, Greater}
use Rattle.std.specs.List.{AllByRecursion, IsDistinct, find, list_any}
use Rattle.std.specs.List.Sorted.{IsStrictlySortedBy}
use Rattle.std.specs.Cmp.{IsTotalOrder, IsEquivalence}
use Rattle.std.specs.Cmp.Lexicographic.{pointwise}
use Rattle.std.specs.Option.{option_eq, option_map, is_some}
use Rattle.std.specs.Map.{lookup}
use Rattle.std.specs.HashMap.{HashMap, hash_map_eq}
use Rattle.std.specs.HashMap as hash
use Rattle.std.specs.HashMap.Eq.{get_from_hash_map_eq, hash_map_eq_from_get}
use Rattle.std.specs.HashSet.{HashSet, hash_set_eq}
use Rattle.std.specs.HashSet as bag
use Rattle.std.proofs.lemmas.Bool.{cond_both, and_parts, and_from, cases_Bool}
use Rattle.std.proofs.lemmas.Cmp.{on_total}
use Rattle.std.proofs.lemmas.List.Elements.{All-from_recursion, recursion_from_All}
use Rattle.std.proofs.lemmas.Map.Lookups.{hash_set_eq_decides}
use Rattle.jj_content.specs.Content.{insert_sorted, insertion_sort, IsLawful, AreValues, map_content, set_content}
use Rattle.jj_content.specs.PrefixFreeProofs.{on_lawful, both_lawful, list_lawful}
use Rattle.jj_content.specs.SortingProofs.{all_weaken, all_sorted, all_from_sorted, length_sorted, sorted_sort}

swap_conds : {A : Type 0} (a b : Bool) (u v w : A) → (a ≡ true → b ≡ true → ⊥)
    → cond a u (cond b v w) ≡ cond b v (cond a u w)
swap_conds true true u v w h = absurd (h refl refl)
swap_conds true false u v w h = refl
swap_conds false true u v w h = refl
swap_conds false false u v w h = refl

-- unequal keys compare as less or greater
pub distinct_by_order : {X K : Type 0} (key : X → K) (R : K → K → Ordering) (E : K → K → Bool)
    → ((x y : K) → E x y ≡ is_eq (R x y)) → (xs : List X)
    → IsDistinct (on key E) xs → IsDistinct (λ x y. is_eq (on key R x y)) xs
distinct_by_order {X} key R E ties xs d = subst (λ (t : X → X → Bool). IsDistinct t xs)
    (λ i x y. ties (key x) (key y) i) d

module _ {X K : Type 0} (key : X → K) {R : K → K → Ordering} (o : IsTotalOrder R) {E : K → K → Bool}
    (laws : IsEquivalence E)
    (ties : (x y : K) → E x y ≡ is_eq (R x y)) (F : X → X → Bool) where
  -- the first item whose key equals q
  abbrev found : K → List X → Option X
  found q xs = find (λ x. E q (key x)) xs

  -- equality of items: equal keys, and equal in the rest
  abbrev same : X → X → Bool
  same x y = E (key x) (key y) && F x y

  -- both lists find equal items at every key
  abbrev Agree : List X → List X → Type 0
  Agree xs ys = (q : K) → option_eq F (found q xs) (found q ys) ≡ true

  apart : (x y : X) → R (key x) (key y) ≡ Less → E (key x) (key y) ≡ false
  apart x y p = ties (key x) (key y) ∙ ap is_eq p

  -- equal keys match the same queries
  alike : (q x y : K) → E x y ≡ true → E q x ≡ E q y
  alike q x y e = laws.symm q x ∙ laws.congr x y q e ∙ laws.symm y q

  found_inserted : (q : K) (x : X) (ys : List X)
      → AllByRecursion (λ y. E (key x) (key y) ≡ false) ys
      → found q (insert_sorted (on key R) x ys) ≡ found q (x ∷ ys)
  found_inserted q x [] a = refl
  found_inserted q x (y ∷ ys) a =
      cond_both (is_gt (R (key x) (key y))) (y ∷ insert_sorted (on key R) x ys) (x ∷ y ∷ ys)
      (λ l. found q l ≡ found q (x ∷ y ∷ ys))
      (λ e. ap (cond (E q (key y)) (Some y)) (found_inserted q x ys a.1)
      ∙ swap_conds (E q (key y)) (E q (key x)) (Some y) (Some x) (found q ys)
      (λ h k. let c : true ≡ false = sym h ∙ laws.congr q (key x) (key y) k ∙ a.0 in cc))
      (λ e. refl)

  found_sorted : (q : K) (xs : List X) → IsDistinct (on key E) xs
      → found q (insertion_sort (on key R) xs) ≡ found q xs
  unfolding insertion_sort IsDistinct
  found_sorted q [] d = refl
  found_sorted q (x ∷ xs) d =
      found_inserted q x (insertion_sort (on key R) xs)
      (all_sorted (on key R) (λ y. E (key x) (key y) ≡ false) xs d.0)
      ∙ ap (cond (E q (key x)) (Some x)) (found_sorted q xs d.1)

  none_found : (q : K) (xs : List X) → AllByRecursion (λ x. E q (key x) ≡ false) xs
      → found q xs ≡ None
  none_found q [] a = refl
  none_found q (x ∷ xs) a = ap (λ b. cond b (Some x) (found q xs)) a.0 ∙ none_found q xs a.1

  first_found : (x : X) (xs : List X) → found (key x) (x ∷ xs) ≡ Some x
  first_found x xs = ap (λ b. cond b (Some x) (found (key x) xs)) (laws.refl (key x))

  -- no item of an ascending list matches a key below the first
  none_below : (x y : X) (ys : List X) → R (key x) (key y) ≡ Less
      → AllByRecursion (λ z. R (key y) (key z) ≡ Less) ys → found (key x) (y ∷ ys) ≡ None
  none_below x y ys p s = none_found (key x) (y ∷ ys) (
    apart x y p,
    all_weaken (λ z. R (key y) (key z) ≡ Less) (λ z. E (key x) (key z) ≡ false)
        (λ z k. apart x z (o.trans (key x) (key y) (key z) p k)) ys s,
  )

  -- a key that matches the first item matches no other
  none_past : (q : K) (x : X) (xs : List X) → E q (key x) ≡ true
      → AllByRecursion (λ z. R (key x) (key z) ≡ Less) xs → found q xs ≡ None
  none_past q x xs e s = none_found q xs
      (all_weaken (λ z. R (key x) (key z) ≡ Less) (λ z. E q (key z) ≡ false)
      (λ z k. laws.congr q (key x) (key z) e ∙ apart x z k) xs s)

  pointwise_from_agree : (xs ys : List X) → IsStrictlySortedBy (on key R) xs
      → IsStrictlySortedBy (on key R) ys → Agree xs ys → pointwise same xs ys ≡ true
  unfolding IsStrictlySortedBy
  pointwise_from_agree [] [] s t h = refl
  pointwise_from_agree [] (y ∷ ys) s t h = let c : false ≡ true =
      sym (ap (option_eq F None) (first_found y ys)) ∙ h (key y) in cc
  pointwise_from_agree (x ∷ xs) [] s t h = let c : false ≡ true =
      sym (ap (λ z. option_eq F z None) (first_found x xs)) ∙ h (key x) in cc
  pointwise_from_agree (x ∷ xs) (y ∷ ys) s t h =
      by_order (λ k. pointwise_from_agree xs ys s.1 t.1 k) (R (key x) (key y)) refl
    where
      later : E (key x) (key y) ≡ true → Agree xs ys
      later e q = elim (cases_Bool (E q (key x))) [
        | inl hit ↦ λ i. option_eq F (none_past q x xs hit s.0 i)
            (none_past q y ys (sym (alike q (key x) (key y) e) ∙ hit) t.0 i)
        | inr miss ↦ sym (λ i. option_eq F (cond (miss i) (Some x) (found q xs))
            (cond ((sym (alike q (key x) (key y) e) ∙ miss) i) (Some y) (found q ys))) ∙ h q
      ]

      by_order : (Agree xs ys → pointwise same xs ys ≡ true) → (r : Ordering)
          → R (key x) (key y) ≡ r → pointwise same (x ∷ xs) (y ∷ ys) ≡ true
      by_order rest Less p = let c : false ≡ true =
          sym (λ i. option_eq F (first_found x xs i) (none_below x y ys p t.0 i)) ∙ h (key x) in cc
      by_order rest Greater p =
          let back : R (key y) (key x) ≡ Less = o.antisymm (key y) (key x)
          ∙ ap ordering_reverse p in
          let c : false ≡ true = sym (λ i. option_eq F (none_below y x xs back s.0 i)
          (first_found y ys i)) ∙ h (key y) in cc
      by_order rest Equal p =
          let e : E (key x) (key y) ≡ true = ties (key x) (key y) ∙ ap is_eq p in
          let f : F x y ≡ true = sym (λ i. option_eq F (first_found x xs i)
          (cond (e i) (Some y) (found (key x) ys))) ∙ h (key x) in
          and_from (same x y) (pointwise same xs ys) (and_from (E (key x) (key y)) (F x y) e f)
          (rest (later e))

  agree_from_pointwise : (xs ys : List X) → pointwise same xs ys ≡ true → Agree xs ys
  agree_from_pointwise [] [] h q = refl
  agree_from_pointwise [] (y ∷ ys) h q = cc
  agree_from_pointwise (x ∷ xs) [] h q = cc
  agree_from_pointwise (x ∷ xs) (y ∷ ys) h q =
      let parts = and_parts (same x y) (pointwise same xs ys) h in
      let first = and_parts (E (key x) (key y)) (F x y) parts.0 in
      let other : E q (key y) ≡ E q (key x) = sym (alike q (key x) (key y) first.0) in
      elim (cases_Bool (E q (key x))) [
        | inl hit ↦ (λ i. option_eq F (cond (hit i) (Some x) (found q xs))
            (cond ((other ∙ hit) i) (Some y) (found q ys))) ∙ first.1
        | inr miss ↦ (λ i. option_eq F (cond (miss i) (Some x) (found q xs))
            (cond ((other ∙ miss) i) (Some y) (found q ys))) ∙ agree_from_pointwise xs ys parts.1 q
      ]

  pub sorted_equal_from_agree : (xs ys : List X) → IsDistinct (on key E) xs
      → IsDistinct (on key E) ys → Agree xs ys
      → pointwise same (insertion_sort (on key R) xs) (insertion_sort (on key R) ys) ≡ true
  sorted_equal_from_agree xs ys d e h =
      pointwise_from_agree (insertion_sort (on key R) xs) (insertion_sort (on key R) ys)
      (sorted_sort (on_total key o) xs (distinct_by_order key R E ties xs d))
      (sorted_sort (on_total key o) ys (distinct_by_order key R E ties ys e))
      (λ q. (λ i. option_eq F (found_sorted q xs d i) (found_sorted q ys e i)) ∙ h q)

  pub agree_from_sorted_equal : (xs ys : List X) → IsDistinct (on key E) xs
      → IsDistinct (on key E) ys
      → pointwise same (insertion_sort (on key R) xs) (insertion_sort (on key R) ys) ≡ true
      → Agree xs ys
  agree_from_sorted_equal xs ys d e h = λ q.
      sym (λ i. option_eq F (found_sorted q xs d i) (found_sorted q ys e i))
      ∙ agree_from_pointwise (insertion_sort (on key R) xs) (insertion_sort (on key R) ys) h q

-- ---- hash maps and hash sets
pub distinct_items : {X K : Type 0} (key : X → K) (E : K → K → Bool) (xs : List X)
    → IsDistinct E (map key xs) → IsDistinct (on key E) xs
unfolding IsDistinct
distinct_items key E [] d = tt
distinct_items key E (x ∷ xs) d = (apart_items xs d.0, distinct_items key E xs d.1)
  where
    apart_items : (ys : List _) → AllByRecursion (λ k. E (key x) k ≡ false) (map key ys)
        → AllByRecursion (λ y. E (key x) (key y) ≡ false) ys
    apart_items [] a = tt
    apart_items (y ∷ ys) a = (a.0, apart_items ys a.1)

values_sorted : {X : Type 0} (S : X → X → Ordering) (v : X → Type 0) (xs : List X)
    → AreValues v xs → AreValues v (insertion_sort S xs)
values_sorted S v xs a =
    let long = length_sorted S xs in (
      omega arith,
      All-from_recursion v (insertion_sort S xs)
          (all_sorted S v xs (recursion_from_All v xs a.1)),
    )

pub values_from_sorted : {X : Type 0} (S : X → X → Ordering) (v : X → Type 0) (xs : List X)
    → AreValues v (insertion_sort S xs) → AreValues v xs
values_from_sorted S v xs a =
    let long = length_sorted S xs in (
      omega arith,
      All-from_recursion v xs (all_from_sorted S v xs
          (recursion_from_All v (insertion_sort S xs) a.1)),
    )

-- `lookup` returns the value of the entry that `find` returns
lookup_is : {K V : Type 0} (test : K → Bool) (es : List (K × V))
    → lookup test es ≡ option_map (λ e. e.1) (find (λ e. test e.0) es)
lookup_is test [] = refl
lookup_is {K} {V} test (e ∷ es) = ap (cond (test e.0) (Some e.1)) (lookup_is test es)
    ∙ taken (test e.0)
  where
    taken : (b : Bool) → cond b (Some e.1) (option_map (λ (p : K × V). p.1)
        (find (λ p. test p.0) es)) ≡ option_map (λ p. p.1)
        (cond b (Some e) (find (λ p. test p.0) es))
    taken true = refl
    taken false = refl

option_eq_values : {K V : Type 0} (F : V → V → Bool) (p q : Option (K × V))
    → option_eq F (option_map (λ e. e.1) p) (option_map (λ e. e.1) q)
    ≡ option_eq (on (λ e. e.1) F) p q
option_eq_values F None None = refl
option_eq_values F None (Some y) = refl
option_eq_values F (Some x) None = refl
option_eq_values F (Some x) (Some y) = refl

and_true : (b : Bool) → (b && true) ≡ b
and_true true = refl
and_true false = refl

-- `list_any` is true if and only if `find` returns an item
any_is : {K : Type 0} (test : K → Bool) (ks : List K) → list_any test ks ≡ is_some (find test ks)
any_is test [] = refl
any_is test (k ∷ ks) = ap (λ b. test k || b) (any_is test ks) ∙ taken (test k)
  where
    taken : (b : Bool) → (b || is_some (find test ks)) ≡ is_some (cond b (Some k) (find test ks))
    taken true = refl
    taken false = refl

both_from_alike : {K : Type 0} (p q : Option K) → is_some p ≡ is_some q
    → option_eq (λ _ _. true) p q ≡ true
both_from_alike None None h = refl
both_from_alike None (Some y) h = h
both_from_alike (Some x) None h = sym h
both_from_alike (Some x) (Some y) h = refl

alike_from_both : {K : Type 0} (p q : Option K) → option_eq (λ _ _. true) p q ≡ true
    → is_some p ≡ is_some q
alike_from_both None None h = refl
alike_from_both None (Some y) h = h
alike_from_both (Some x) None h = sym h
alike_from_both (Some x) (Some y) h = refl

module _ {K : Type 0} {R : K → K → Ordering} (o : IsTotalOrder R) {E : K → K → Bool}
    (laws : IsEquivalence E) (ties : (x y : K) → E x y ≡ is_eq (R x y))
    {vk : K → Type 0} {ck : K → List ℕ} (lk : IsLawful vk E ck) where
  pub hash_map_lawful : {V Z : Type 0} {vv : V → Type 0} {F : V → V → Bool} {cv : V → List ℕ}
      → IsLawful vv F cv
      → IsLawful {X = HashMap K V Z} (λ m. hash.IsUnique E m
      × AreValues (λ e. vk e.0 × vv e.1) m.entries) (hash_map_eq E F)
      (λ m. map_content R ck cv m.entries)
  hash_map_lawful {V} {Z} {vv} {F} {cv} lv =
      let key : K × V → K = λ e. e.0 in
      let rest : K × V → K × V → Bool = on (λ e. e.1) F in
      let is_value : K × V → Type 0 = λ e. vk e.0 × vv e.1 in
      let lists = list_lawful (both_lawful (on_lawful (λ (e : K × V). e.0) lk)
      (on_lawful (λ (e : K × V). e.1) lv)) in
      let at : (m n : HashMap K V Z) (q : K) → option_eq F (hash.get E m q) (hash.get E n q)
      ≡ option_eq rest (find (λ e. E q e.0) m.entries) (find (λ e. E q e.0) n.entries) =
      λ m n q. (λ i. option_eq F (lookup_is (E q) m.entries i) (lookup_is (E q) n.entries i))
      ∙ option_eq_values F (find (λ e. E q e.0) m.entries) (find (λ e. E q e.0) n.entries) in
      record {
        same = λ m n p q h.
            lists.same (insertion_sort (on key R) m.entries) (insertion_sort (on key R) n.entries)
            (values_sorted (on key R) is_value m.entries p.1)
            (values_sorted (on key R) is_value n.entries q.1)
            (sorted_equal_from_agree key o laws ties rest m.entries n.entries
            (distinct_items key E m.entries p.0) (distinct_items key E n.entries q.0)
            (λ k. sym (at m n k) ∙ get_from_hash_map_eq E F laws m n h k));
        decides = λ m n s t p q h.
            let equal = lists.decides (insertion_sort (on key R) m.entries)
            (insertion_sort (on key R) n.entries) s t
            (values_sorted (on key R) is_value m.entries p.1)
            (values_sorted (on key R) is_value n.entries q.1) h in
            let agree = agree_from_sorted_equal key o laws ties rest m.entries n.entries
            (distinct_items key E m.entries p.0) (distinct_items key E n.entries q.0) equal in
            hash_map_eq_from_get E F m n (λ k. at m n k ∙ agree k);
      }

  pub hash_set_lawful : {Z : Type 0} → IsLawful {X = HashSet K Z}
      (λ s. bag.IsUnique E s × AreValues vk s.keys) (hash_set_eq E) (λ s. set_content R ck s.keys)
  hash_set_lawful {Z} =
      let key : K → K = λ k. k in
      let rest : K → K → Bool = λ _ _. true in
      let lists = list_lawful lk in
      let only_keys : (xs ys : List K) → pointwise (λ x y. E x y && true) xs ys
      ≡ pointwise E xs ys = λ xs ys i. pointwise (λ x y. and_true (E x y) i) xs ys in
      record {
        same = λ s t p q h.
            let has : (k : K) → is_some (find (E k) s.keys) ≡ is_some (find (E k) t.keys) =
            λ k. sym (any_is (E k) s.keys) ∙ (hash_set_eq_decides laws s t).0 h k
            ∙ any_is (E k) t.keys in
            let equal = sorted_equal_from_agree key o laws ties rest s.keys t.keys p.0 q.0
            (λ k. both_from_alike (find (E k) s.keys) (find (E k) t.keys) (has k)) in
            lists.same (insertion_sort R s.keys) (insertion_sort R t.keys)
            (values_sorted R vk s.keys p.1) (values_sorted R vk t.keys q.1)
            (sym (only_keys (insertion_sort R s.keys) (insertion_sort R t.keys)) ∙ equal);
        decides = λ s t a b p q h.
            let equal = lists.decides (insertion_sort R s.keys) (insertion_sort R t.keys) a b
            (values_sorted R vk s.keys p.1) (values_sorted R vk t.keys q.1) h in
            let agree = agree_from_sorted_equal key o laws ties rest s.keys t.keys p.0 q.0
            (only_keys (insertion_sort R s.keys) (insertion_sort R t.keys) ∙ equal) in
            (hash_set_eq_decides laws s t).1
            (λ k. any_is (E k) s.keys ∙ alike_from_both (find (E k) s.keys) (find (E k) t.keys)
            (agree k) ∙ sym (any_is (E k) t.keys));
      }
