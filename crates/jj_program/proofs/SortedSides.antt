-- Merging two sorted lists so that equal strings cancel: the counts of those that are left so far.
use Rattle.std.proofs.Common.{◌≡◌, ◌∙◌, ℕ, suc, ◌+◌, ◌<◌, ◌≤◌, Bool, true, false, not, List, [], ◌∷◌, Option, Some, None, cond, length, take, drop, refl, sym, ap, arith, get_or}
use Rattle.std.specs.Prelude.{count_by}
use Rattle.std.specs.Cmp.{IsEquivalence, IsStrictWeakOrder}
use Rattle.std.specs.Cmp.Lexicographic.{slice_cmp}
use Rattle.std.specs.List.Sorted.{IsSorted}
use Rattle.std.specs.Ordering.{is_lt, nat_cmp, ordering_reverse, ordering_then, MatchOrdering}
use Rattle.std.specs.declared.cmp.Ordering.{Ordering}
use Rattle.std.specs.declared.cmp.Ordering.TheVariants.{Less, Equal, Greater}
use Rattle.std.proofs.lemmas.Bool.{false≢true}
use Rattle.std.proofs.lemmas.Cmp.{nat_list_cmp_total, nat_list_eq_equiv, on_equiv, ranked}
use Rattle.std.proofs.lemmas.List.{drop_all, get_or_default, get_or-drop, length-drop}
use Rattle.std.proofs.lemmas.List.Sorted.{ranks_by, sorted_far}
use Rattle.std.proofs.lemmas.List.Sums.{sum_by-cons, sum_by-drop_more, sum_by-take-drop, sum_by_more}
use Rattle.std.proofs.lemmas.Slice.Eq.{bytes_eq-Decides}
use Rattle.jj_program.specs.Lines.{Text}
use Rattle.jj_program.specs.MergeViews.{text_eq, text_cmp, is_other, IsUnmatched, IsMatched}

-- 1 if the string equals v, else 0
abbrev pub same : Text → Text → ℕ
same v x = cond (text_eq v x) 1 0

pub text_laws : IsEquivalence text_eq
text_laws = on_equiv (λ (text : Text). text.now) nat_list_eq_equiv

pub alike : (v a x : Text) → text_eq a x ≡ true → text_eq v a ≡ text_eq v x
alike v a x h = text_laws.symm v a ∙ text_laws.congr a x v h ∙ text_laws.symm x v

-- how many of m strings that equal the option's value equal v
abbrev pub times : Option Text → ℕ → Text → ℕ
times None m v = 0
times (Some a) m v = cond (text_eq v a) m 0

-- m strings that equal the option's value, which is not among xs; or none
abbrev pub AreLeft : Option Text → ℕ → List Text → Type 0
AreLeft None m xs = m ≡ 0
AreLeft (Some a) m xs = (0 < m) × (count_by (text_eq a) xs ≡ 0)

abbrev pub AreApart : Option Text → Option Text → Type 0
AreApart None p = Unit {0}
AreApart (Some a) None = Unit {0}
AreApart (Some a) (Some b) = text_eq a b ≡ false

-- Of the first i of xs and the first j of ys, equal ones cancelled, and m of xs and n of ys are left.
pub record SidesAt (xs : List Text) (i : ℕ) (o : Option Text) (m : ℕ) (ys : List Text) (j : ℕ) (p : Option Text) (n : ℕ) : Type 0 where
  pub counts : (v : Text) → times o m v + count_by (text_eq v) (take j ys) ≡ times p n v + count_by (text_eq v) (take i xs)
  pub lengths : m + j ≡ n + i
  pub left : AreLeft o m (drop j ys)
  pub right : AreLeft p n (drop i xs)
  pub apart : AreApart o p

pub sides_start : (xs ys : List Text) → SidesAt xs 0 None 0 ys 0 None 0
sides_start xs ys = record { counts = λ v. refl; lengths = refl; left = refl; right = refl; apart = tt }

apart_swap : (o p : Option Text) → AreApart o p → AreApart p o
apart_swap None None h = tt
apart_swap None (Some b) h = tt
apart_swap (Some a) None h = tt
apart_swap (Some a) (Some b) h = text_laws.symm b a ∙ h

pub sides_swap : (xs : List Text) (i : ℕ) (o : Option Text) (m : ℕ) (ys : List Text) (j : ℕ) (p : Option Text) (n : ℕ)
    → SidesAt xs i o m ys j p n → SidesAt ys j p n xs i o m
sides_swap xs i o m ys j p n s = record {
  counts = λ v. sym (s.counts v);
  lengths = sym s.lengths;
  left = s.right;
  right = s.left;
  apart = apart_swap o p s.apart;
}

module _ (v : Text) (xs : List Text) (i : ℕ) (d : Text) (within : i < length xs) where
  count_first : count_by (text_eq v) (take (i + 1) xs) ≡ count_by (text_eq v) (take i xs) + same v (get_or xs i d)
  count_first = sum_by_more (same v) xs i d within

  count_rest : count_by (text_eq v) (drop i xs) ≡ same v (get_or xs i d) + count_by (text_eq v) (drop (i + 1) xs)
  count_rest = sum_by-drop_more (same v) xs i d within

  -- a string that is not among the rest differs from the first of it
  differs : count_by (text_eq v) (drop i xs) ≡ 0 → text_eq v (get_or xs i d) ≡ false
  differs none = by_test (text_eq v (get_or xs i d)) refl
    where
      by_test : (b : Bool) → text_eq v (get_or xs i d) ≡ b → b ≡ false
      by_test false h = refl
      by_test true h = let one : same v (get_or xs i d) ≡ 1 = ap (λ (t : Bool). let n : ℕ = cond t 1 0 in n) h in absurd (omega (arith, one, none, count_rest))

  none_further : count_by (text_eq v) (drop i xs) ≡ 0 → count_by (text_eq v) (drop (i + 1) xs) ≡ 0
  none_further none = omega (arith, none, count_rest)

one_yes : (v x : Text) → text_eq v x ≡ true → same v x ≡ 1
one_yes v x h = ap (λ (t : Bool). let n : ℕ = cond t 1 0 in n) h

cond_more : (b : Bool) (m : ℕ) → cond b (m + 1) 0 ≡ cond b m 0 + cond b 1 0
cond_more true m = refl
cond_more false m = refl

-- the option has no other value
abbrev pub IsNoneOr : Option Text → Text → Type 0
IsNoneOr None x = Unit {0}
IsNoneOr (Some a) x = text_eq a x ≡ true

pub none_or : (o : Option Text) (x : Text) → is_other o x.now ≡ false → IsNoneOr o x
none_or None x h = tt
none_or (Some a) x h = from_not (text_eq a x) h
  where
    from_not : (b : Bool) → not b ≡ false → b ≡ true
    from_not true h = refl
    from_not false h = absurd (false≢true (sym h))

pub is_another : (o : Option Text) (x : Text) → is_other o x.now ≡ true → (a : Text) × (o ≡ Some a) × (text_eq a x ≡ false)
is_another None x h = absurd (false≢true h)
is_another (Some a) x h = (a, refl, from_not (text_eq a x) h)
  where
    from_not : (b : Bool) → not b ≡ true → b ≡ false
    from_not true h = absurd (false≢true h)
    from_not false h = refl

times_more : (o : Option Text) (m : ℕ) (x v : Text) (rest : List Text) → AreLeft o m rest → IsNoneOr o x
    → times (Some x) (m + 1) v ≡ times o m v + same v x
times_more None m x v rest left only = none m left (text_eq v x)
  where
    none : (m : ℕ) → m ≡ 0 → (b : Bool) → cond b (m + 1) 0 ≡ 0 + cond b 1 0
    none m h true = omega (arith, h)
    none m h false = refl
times_more (Some a) m x v rest left only =
    let as_x : cond (text_eq v a) m 0 ≡ cond (text_eq v x) m 0 = ap (λ (b : Bool). let n : ℕ = cond b m 0 in n) (alike v a x only) in
    omega (arith, cond_more (text_eq v x) m, as_x)

apart_from_head : (p : Option Text) (n : ℕ) (xs : List Text) (i : ℕ) (d : Text) → i < length xs → AreLeft p n (drop i xs) → AreApart (Some (get_or xs i d)) p
apart_from_head None n xs i d within left = tt
apart_from_head (Some b) n xs i d within left = text_laws.symm (get_or xs i d) b ∙ differs b xs i d within left.1

left_further : (p : Option Text) (n : ℕ) (xs : List Text) (i : ℕ) (d : Text) → i < length xs → AreLeft p n (drop i xs) → AreLeft p n (drop (i + 1) xs)
left_further None n xs i d within left = left
left_further (Some b) n xs i d within left = (left.0, none_further b xs i d within left.1)

-- one more string of xs is left
pub left_more : (xs : List Text) (i : ℕ) (o : Option Text) (m : ℕ) (ys : List Text) (j : ℕ) (p : Option Text) (n : ℕ) (d : Text)
    → IsUnmatched xs i ys j → IsNoneOr o (get_or xs i d) → SidesAt xs i o m ys j p n
    → SidesAt xs (i + 1) (Some (get_or xs i d)) (m + 1) ys j p n
left_more xs i o m ys j p n d alone only s = record {
  counts = λ v. omega (arith, s.counts v, times_more o m (get_or xs i d) v (drop j ys) s.left only, count_first v xs i d alone.0);
  lengths = omega (arith, s.lengths);
  left = (omega arith, alone.1 d);
  right = left_further p n xs i d alone.0 s.right;
  apart = apart_from_head p n xs i d alone.0 s.right;
}

-- two equal strings cancel
pub both_more : (xs : List Text) (i : ℕ) (o : Option Text) (m : ℕ) (ys : List Text) (j : ℕ) (p : Option Text) (n : ℕ) (d : Text)
    → IsMatched xs i ys j → SidesAt xs i o m ys j p n → SidesAt xs (i + 1) o m ys (j + 1) p n
both_more xs i o m ys j p n d matched s = record {
  counts = λ v.
      let equal = ap (λ (b : Bool). let n : ℕ = cond b 1 0 in n) (alike v (get_or xs i d) (get_or ys j d) (matched.2 d d)) in
      omega (arith, s.counts v, equal, count_first v xs i d matched.0, count_first v ys j d matched.1);
  lengths = omega (arith, s.lengths);
  left = left_further o m ys j d matched.1 s.left;
  right = left_further p n xs i d matched.0 s.right;
  apart = s.apart;
}

pub times_apart : (a : Text) (p : Option Text) (n : ℕ) → AreApart (Some a) p → times p n a ≡ 0
times_apart a None n h = refl
times_apart a (Some b) n h = ap (λ (t : Bool). let k : ℕ = cond t n 0 in k) h

pub times_own : (a : Text) (m : ℕ) → times (Some a) m a ≡ m
times_own a m = ap (λ (t : Bool). let k : ℕ = cond t m 0 in k) (text_laws.refl a)

count_whole : (v : Text) (xs : List Text) (i : ℕ) → count_by (text_eq v) (take i xs) + count_by (text_eq v) (drop i xs) ≡ count_by (text_eq v) xs
count_whole v xs i = sum_by-take-drop (same v) xs i

-- the value that is left of xs has more occurrences there than in ys
pub left_counted : (xs : List Text) (i : ℕ) (a : Text) (m : ℕ) (ys : List Text) (j : ℕ) (p : Option Text) (n : ℕ)
    → SidesAt xs i (Some a) m ys j p n → count_by (text_eq a) ys < count_by (text_eq a) xs
left_counted xs i a m ys j p n s =
    omega (arith, s.counts a, s.left.0, s.left.1, times_own a m, times_apart a p n s.apart, count_whole a xs i, count_whole a ys j)

-- and so has the next one, if it is not among the rest of ys
pub head_counted : (xs : List Text) (i : ℕ) (o : Option Text) (m : ℕ) (ys : List Text) (j : ℕ) (p : Option Text) (n : ℕ) (d : Text)
    → IsUnmatched xs i ys j → SidesAt xs i o m ys j p n
    → count_by (text_eq (get_or xs i d)) ys < count_by (text_eq (get_or xs i d)) xs
head_counted xs i o m ys j p n d alone s =
    let x = get_or xs i d in
    omega (arith, s.counts x, times_apart x p n (apart_from_head p n xs i d alone.0 s.right), alone.1 d, one_yes x x (text_laws.refl x), count_rest x xs i d alone.0, count_whole x xs i, count_whole x ys j)

-- nothing passes a test that each element fails
none_counted : (p : Text → Bool) (xs : List Text) (d : Text) → ((k : ℕ) → k < length xs → p (get_or xs k d) ≡ false) → count_by p xs ≡ 0
none_counted p [] d none = refl
none_counted p (x ∷ xs) d none =
    let first : cond (p x) 1 0 ≡ 0 = ap (λ (t : Bool). let n : ℕ = cond t 1 0 in n) (none 0 (omega arith)) in
    omega (arith, sum_by-cons (λ y. cond (p y) 1 0) x xs, first, none_counted p xs d (λ k within. none (suc k) (omega arith)))

pub text_order : IsStrictWeakOrder (λ x y. is_lt (text_cmp x y))
text_order = ranks_by nat_list_cmp_total (λ (text : Text). text.now)

-- a string below the first of a sorted rest is not among the rest
below_rest : (x : Text) (ys : List Text) (j : ℕ) (d : Text) → IsSorted text_cmp ys → text_cmp x (get_or ys j d) ≡ Less
    → count_by (text_eq x) (drop j ys) ≡ 0
below_rest x ys j d up less = none_counted (text_eq x) (drop j ys) d (λ k within. other k within (text_eq x (get_or (drop j ys) k d)) refl)
  where
    other : (k : ℕ) → k < length (drop j ys) → (b : Bool) → text_eq x (get_or (drop j ys) k d) ≡ b → b ≡ false
    other k within false h = refl
    other k within true h =
        let z = get_or ys j d in
        let at : get_or (drop j ys) k d ≡ get_or ys (j + k) d = get_or-drop j ys k d in
        let bytes : x.now ≡ (get_or ys (j + k) d).now = (bytes_eq-Decides _ _).0 h ∙ ap (λ (text : Text). text.now) at in
        let not_below = sorted_far (λ x y. is_lt (text_cmp x y)) text_order ys up j (j + k) d (omega arith) (omega (arith, within, length-drop j ys)) in
        let below : is_lt (text_cmp (get_or ys (j + k) d) z) ≡ true = ap (λ (b : List ℕ). is_lt (slice_cmp nat_cmp b z.now)) (sym bytes) ∙ ap is_lt less in
        absurd (false≢true (sym not_below ∙ below))

pub same_bytes : (xs ys : List ℕ) → slice_cmp nat_cmp xs ys ≡ Equal → xs ≡ ys
same_bytes [] [] h = refl
same_bytes [] (y ∷ ys) h = cc
same_bytes (x ∷ xs) [] h = cc
same_bytes (x ∷ xs) (y ∷ ys) h =
    let (first, rest) = by_order (nat_cmp x y) (ranked x y (nat_cmp x y) refl) h in
    λ i. first i ∷ same_bytes xs ys rest i
  where
    by_order : (o : Ordering) → MatchOrdering o (x < y) (x ≡ y) (y < x) → ordering_then o (slice_cmp nat_cmp xs ys) ≡ Equal → (x ≡ y) × (slice_cmp nat_cmp xs ys ≡ Equal)
    by_order Less m h = cc
    by_order Equal m h = (m, h)
    by_order Greater m h = cc

module _ (xs : List Text) (i : ℕ) (ys : List Text) (j : ℕ) where
  -- there are no more of ys
  pub unmatched_last : i < length xs → length ys ≤ j → IsUnmatched xs i ys j
  unmatched_last within past = (within, λ d. ap (count_by (text_eq (get_or xs i d))) (drop_all j ys past))

  pub unmatched_below : (d : Text) → i < length xs → IsSorted text_cmp ys → text_cmp (get_or xs i d) (get_or ys j d) ≡ Less → IsUnmatched xs i ys j
  unmatched_below d within up less = (
    within,
    λ e. ap (λ (x : Text). count_by (text_eq x) (drop j ys)) (get_or_default xs i e d within) ∙ below_rest (get_or xs i d) ys j d up less,
  )

  pub matched : (d : Text) → i < length xs → j < length ys → text_cmp (get_or xs i d) (get_or ys j d) ≡ Equal → IsMatched xs i ys j
  matched d within_xs within_ys level = (
    within_xs,
    within_ys,
    λ e f. (bytes_eq-Decides _ _).1
        (ap (λ (x : Text). x.now) (get_or_default xs i e d within_xs) ∙ same_bytes _ _ level ∙ ap (λ (x : Text). x.now) (get_or_default ys j d f within_ys)),
  )

pub above_from_greater : (x y : Text) → text_cmp x y ≡ Greater → text_cmp y x ≡ Less
above_from_greater x y greater = nat_list_cmp_total.antisymm y.now x.now ∙ ap ordering_reverse greater
