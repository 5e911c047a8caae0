-- Trees of entries in any order: the sorted list without duplicates is the same map.
use Rattle.std.proofs.Common.{◌≡◌, ◌∙◌, ℕ, zero, suc, ◌+◌, ◌<◌, ◌≤◌, Bool, true, false, cond, [], ◌∷◌, List, length, get_or, Option, Some, None, refl, sym, ap, arith, All}
use Rattle.std.specs.Prelude.{count_by}
use Rattle.std.specs.Ordering.{is_lt, ordering_reverse}
use Rattle.std.specs.declared.cmp.Ordering.{Ordering}
use Rattle.std.specs.declared.cmp.Ordering.TheVariants.{Less, Equal, Greater}
use Rattle.std.specs.FinMap.{is_sorted}
use Rattle.std.specs.List.Sorted.{IsPermutation}
use Rattle.std.specs.Str.{bytes_eq}
use Rattle.std.proofs.lemmas.Cmp.{nat_list_cmp_total}
use Rattle.std.proofs.lemmas.List.Elements.{All-nil, All-cons, All-head, All-tail}
use Rattle.std.proofs.lemmas.List.Sorted.{All-permutation, IsPermutation-sym, sum_by-IsPermutation}
use Rattle.std.proofs.lemmas.List.{get_or_default}
use Rattle.std.proofs.lemmas.List.Sums.{sum_by-cons}
use Rattle.std.proofs.lemmas.Bool.{false≢true}
use Rattle.std.proofs.lemmas.Slice.Eq.{bytes_eq-Decides}
use Rattle.jj_paths.specs.Paths.{Name, name_cmp}
use Rattle.jj_paths.proofs.PathOrders.{name_cmp-same}
use Rattle.jj_backend.specs.Trees.{Entries, value_at}
use Rattle.jj_backend.specs.declared.backend.tree_value.TreeValue.{TreeValue}
use Rattle.jj_backend.proofs.BinarySearch.{any_entry, value-at, value-absent}

-- names of which neither precedes the other are the same
pub same_name : (a b : Name) → is_lt (name_cmp b a) ≡ false → is_lt (name_cmp a b) ≡ false → a ≡ b
same_name a b after before = name_cmp-same a b (by_cases (name_cmp a b) (name_cmp b a) (nat_list_cmp_total.antisymm b a) after before)
  where
    by_cases : (r s : Ordering) → s ≡ ordering_reverse r → is_lt s ≡ false → is_lt r ≡ false → r ≡ Equal
    by_cases Less s is after before = absurd (false≢true (sym before))
    by_cases Equal s is after before = refl
    by_cases Greater s is after before = absurd (false≢true (sym after ∙ ap is_lt is))

-- adjacent entries in ascending order, of which the first does not precede the second, have the same name
pub same_at : (es : Entries) (i j : ℕ) (a b d : Name × TreeValue) → j ≡ i + 1 → j < length es → a ≡ get_or es i a → b ≡ get_or es j b
    → is_lt (name_cmp (get_or es (i + 1) d).0 (get_or es i d).0) ≡ false → is_lt (name_cmp a.0 b.0) ≡ false → (get_or es i d).0 ≡ (get_or es (i + 1) d).0
same_at es i j a b d next within first second sorted apart =
    let here : get_or es i d ≡ a = get_or_default es i d a (omega arith) ∙ sym first in
    let there : get_or es (i + 1) d ≡ b = ap (λ k. get_or es k d) (sym next) ∙ (get_or_default es j d b within ∙ sym second) in
    same_name (get_or es i d).0 (get_or es (i + 1) d).0 sorted
    (ap (λ (e : Name × TreeValue). is_lt (name_cmp e.0 (get_or es (i + 1) d).0)) here ∙ (ap (λ (e : Name × TreeValue). is_lt (name_cmp a.0 e.0)) there ∙ apart))

count_cons : {X : Type 0} (p : X → Bool) (x : X) (xs : List X) → count_by p (x ∷ xs) ≡ cond (p x) 1 0 + count_by p xs
count_cons p x xs = sum_by-cons (λ y. cond (p y) 1 0) x xs

two_of : {X : Type 0} (p : X → Bool) (xs : List X) (i : ℕ) (d : X) → suc i < length xs
    → p (get_or xs i d) ≡ true → p (get_or xs (suc i) d) ≡ true → 2 ≤ count_by p xs
two_of p [] i d lt first second = absurd (omega arith)
two_of p (x ∷ []) i d lt first second = absurd (omega arith)
two_of p (x ∷ y ∷ xs) zero d lt first second =
    let one = ap (λ (b : Bool). let n : ℕ = cond b 1 0 in n) first in
    let two = ap (λ (b : Bool). let n : ℕ = cond b 1 0 in n) second in
    omega (arith, count_cons p x (y ∷ xs), count_cons p y xs, one, two)
two_of p (x ∷ y ∷ xs) (suc i) d lt first second =
    omega (arith, count_cons p x (y ∷ xs), two_of p (y ∷ xs) i d (omega arith) first second)

-- two adjacent entries have one name, in another order too
pub named_twice : (given es : Entries) (i : ℕ) (name : Name) → IsPermutation given es → i + 1 < length es
    → ((d : Name × TreeValue) → name ≡ (get_or es i d).0) → ((d : Name × TreeValue) → (get_or es i d).0 ≡ (get_or es (i + 1) d).0)
    → 2 ≤ count_by (λ (e : Name × TreeValue). bytes_eq name e.0) given
named_twice given [] i name moved within first second = absurd (omega arith)
named_twice given (d ∷ rest) i name moved within first second =
    let es : Entries = d ∷ rest in
    let next : suc i ≡ i + 1 = omega arith in
    let here : bytes_eq name (get_or es i d).0 ≡ true = (bytes_eq-Decides name (get_or es i d).0).1 (first d) in
    let there : bytes_eq name (get_or es (suc i) d).0 ≡ true =
    (bytes_eq-Decides name (get_or es (suc i) d).0).1 (first d ∙ (second d ∙ ap (λ k. (get_or es k d).0) (sym next))) in
    omega (arith, two_of (λ (e : Name × TreeValue). bytes_eq name e.0) es i d (omega arith) here there, sum_by-IsPermutation (λ (e : Name × TreeValue). cond (bytes_eq name e.0) 1 0) given es moved)

first_value : (e : Name × TreeValue) (es : Entries) (name : Name) → bytes_eq name e.0 ≡ true → value_at (e ∷ es) name ≡ Some e.1
first_value e es name same = rw same refl

later_value : (e : Name × TreeValue) (es : Entries) (name : Name) → bytes_eq name e.0 ≡ false → value_at (e ∷ es) name ≡ value_at es name
later_value e es name other = rw other refl

-- no entry has a name that value_at does not find
none_of : (name : Name) (es : Entries) → value_at es name ≡ None → All (λ e. bytes_eq name e.0 ≡ false) es
none_of name [] is = All-nil _
none_of name (e ∷ es) is = by_test (bytes_eq name e.0) refl (none_of name es)
  where
    by_test : (t : Bool) → bytes_eq name e.0 ≡ t → (value_at es name ≡ None → All (λ e. bytes_eq name e.0 ≡ false) es) → All (λ e. bytes_eq name e.0 ≡ false) (e ∷ es)
    by_test true same rest = let both : Some e.1 ≡ None = sym (first_value e es name same) ∙ is in cc
    by_test false other rest = All-cons (λ (f : Name × TreeValue). bytes_eq name f.0 ≡ false) e es other (rest (sym (later_value e es name other) ∙ is))

module _ (tree : Entries) where
  abbrev IsFound : Name × TreeValue → Type 0
  IsFound e = value_at tree e.0 ≡ Some e.1

  -- if the tree finds all entries of a list, then also the first of each name
  found_of : (es : Entries) → All IsFound es → (name : Name) (v : TreeValue) → value_at es name ≡ Some v → value_at tree name ≡ Some v
  found_of [] all name v is = let none : None ≡ Some v = is in cc
  found_of (e ∷ es) all name v is = by_test (bytes_eq name e.0) refl (found_of es (All-tail IsFound e es all) name v)
    where
      by_test : (t : Bool) → bytes_eq name e.0 ≡ t → (value_at es name ≡ Some v → value_at tree name ≡ Some v) → value_at tree name ≡ Some v
      by_test true same rest =
          ap (value_at tree) ((bytes_eq-Decides name e.0).0 same) ∙ (All-head IsFound e es all ∙ (sym (first_value e es name same) ∙ is))
      by_test false other rest = rest (sym (later_value e es name other) ∙ is)

-- sorting keeps the value of each name, if no name is left twice
pub same_values : (es tree : Entries) → IsPermutation es tree → is_sorted name_cmp tree ≡ true → (name : Name) → value_at tree name ≡ value_at es name
same_values es tree moved sorted name = by_value (value_at es name) refl
  where
    found : All (IsFound tree) tree
    found = λ k d lt. value-at tree (get_or tree k d).0 k d sorted lt refl

    by_value : (o : Option TreeValue) → value_at es name ≡ o → value_at tree name ≡ value_at es name
    by_value (Some v) is =
        found_of tree es (All-permutation (IsFound tree) tree es (IsPermutation-sym es tree moved) found) name v is ∙ sym is
    by_value None is =
        let absent = All-permutation (λ e. bytes_eq name e.0 ≡ false) es tree moved (none_of name es is) in
        any_entry tree name (λ d. value-absent tree name d (λ j lt. absent j d lt)) ∙ sym is
