-- Loop invariant of `resolve_by_counts`: each distinct value is counted once, at its first index.
use Rattle.std.proofs.Common.{◌≡◌, ◌≢◌, ℕ, ◌+◌, ◌-◌, ◌<◌, ◌≤◌, ◌⊎◌, inl, inr, Bool, true, false, ◌||◌, List, [], ◌∷◌, length, take, Option, Some, None, refl, ap, subst, arith, sym, ◌∙◌, get_or, Bor}
use Rattle.std.specs.Prelude.{count_by, Contains, IfSome, IfNone, pos, ◌-ℤ◌, ◌<ℤ◌}
use Rattle.std.specs.Cmp.{IsEquivalence}
use Rattle.std.specs.List.{list_any}
use Rattle.std.specs.Option.{option_copied, is_some}
use Rattle.std.proofs.lemmas.Int.{ints}
use Rattle.std.proofs.lemmas.Bool.{false≢true, cases_lt}
use Rattle.std.proofs.lemmas.Bool.Decides.{eqb_tells}
use Rattle.std.proofs.lemmas.List.{take_all, get_or_default}
use Rattle.std.proofs.lemmas.List.Folds.{list_any_at, list_any_kept, list_any_more, list_any_none}
use Rattle.std.proofs.lemmas.List.Sums.{sum_by-cons}
use denote.Enum.Bare.{sameb}
use Rattle.jj_merges.specs.contracts.merge.SameChange.{the_type}
use Rattle.jj_merges.specs.Merge as merge
use Rattle.jj_merges.specs.Resolution.{ResolvesTo}
use Rattle.jj_merges.specs.declared.merge.SameChange.{SameChange}
use Rattle.jj_merges.specs.declared.merge.SameChange.TheVariants.{Keep, Accept}
use Rattle.jj_merges.proofs.AddCounts.{weight, weight-false}

pub one_more : (a r : ℕ) → pos a -ℤ pos r ≡ pos 1 → a ≡ r + 1
one_more a r h = omega (arith, ints)

pub is_one : (a r : ℕ) → a ≡ r + 1 → pos a -ℤ pos r ≡ pos 1
is_one a r h = omega (arith, ints)

pub not_zero : (a r : ℕ) → a ≢ r → pos a -ℤ pos r ≢ pos 0
not_zero a r h e = h (omega (arith, ints))

pub is_zero : (a r : ℕ) → a ≤ r → r ≤ a → pos a -ℤ pos r ≡ pos 0
is_zero a r h k = omega (arith, ints)

pub is_positive : (a r : ℕ) → r < a → pos 0 <ℤ (pos a -ℤ pos r)
is_positive a r h = omega (arith, ints)

pub from_positive : (a r : ℕ) → pos 0 <ℤ (pos a -ℤ pos r) → r < a
from_positive a r h = omega (arith, ints)

pub is_negative : (a r : ℕ) → a < r → (pos a -ℤ pos r) <ℤ pos 0
is_negative a r h = omega (arith, ints)

pub from_negative : (a r : ℕ) → (pos a -ℤ pos r) <ℤ pos 0 → a < r
from_negative a r h = omega (arith, ints)

-- the test `same_change == SameChange::Keep`
pub is_keep : (c : SameChange) → sameb the_type c Keep ≡ true → c ≡ Keep
is_keep Keep h = refl
is_keep Accept h = absurd (false≢true h)

pub is_not_keep : (c : SameChange) → sameb the_type c Keep ≡ false → c ≡ Keep → ⊥
is_not_keep Keep h k = false≢true (sym h)
is_not_keep Accept h k = cc

-- o is `Some` of a value that equals w
abbrev pub Covers : {T : Type 0} → (T → T → Bool) → Option T → T → Type 0
Covers eq None w = ⊥
Covers eq (Some p) w = eq p w ≡ true

either_part : (s t : Bool) → (s || t) ≡ true → (s ≡ true) ⊎ (t ≡ true)
either_part true t h = inl refl
either_part false t h = inr h

or_false : (b : Bool) → (b ≡ true) ⊎ (b ≡ false)
or_false true = inl refl
or_false false = inr refl

-- a value that equals no term has count 0 on both sides
added_first : {T : Type 0} (p : T → Bool) (x : T) (m : List T) (t : Bool) → p x ≡ t → (t || list_any p m) ≡ false
    → (list_any p m ≡ false → count_by p (merge.removes m) ≡ 0) → count_by p (merge.adds (x ∷ m)) ≡ 0
added_first p x m true is none further = absurd (false≢true (sym none))
added_first p x m false is none further =
    omega (arith, sum_by-cons (weight p) x (merge.removes m), weight-false p x is, further none)

removed_later : {T : Type 0} (p : T → Bool) (m : List T) (t : Bool) → (t || list_any p m) ≡ false
    → (list_any p m ≡ false → count_by p (merge.adds m) ≡ 0) → count_by p (merge.adds m) ≡ 0
removed_later p m true none further = absurd (false≢true (sym none))
removed_later p m false none further = further none

mutual
  none_added : {T : Type 0} (p : T → Bool) (m : List T) → list_any p m ≡ false → count_by p (merge.adds m) ≡ 0
  none_added p [] none = refl
  none_added p (x ∷ m) none = added_first p x m (p x) refl none (λ further. none_removed p m further)

  none_removed : {T : Type 0} (p : T → Bool) (m : List T) → list_any p m ≡ false → count_by p (merge.removes m) ≡ 0
  none_removed p [] none = refl
  none_removed p (x ∷ m) none = removed_later p m (p x) none (λ further. none_added p m further)

module _ {T : Type 0} (p : T → Bool) (xs : List T) where
  -- the last n elements do not pass the test
  abbrev pub NoneOfLast : ℕ → Type 0
  NoneOfLast n = (k : ℕ) (d : T) → k < n → p (get_or xs (length xs - 1 - k) d) ≡ false

  pub none_of_last-more : (n i : ℕ) (x : T) → n < length xs → i ≡ length xs - 1 - n → x ≡ get_or xs i x → p x ≡ false → NoneOfLast n → NoneOfLast (n + 1)
  none_of_last-more n i x lt at is other before k d hk =
      elim (cases_lt k n) [
        | inl h ↦ before k d h
        | inr h ↦
            let j : length xs - 1 - k ≡ i = omega arith in
            ap (λ j. p (get_or xs j d)) j ∙ (sym (ap p (is ∙ get_or_default xs i x d (omega arith))) ∙ other)
      ]

  pub none_of_last-all : (n : ℕ) → length xs ≤ n → NoneOfLast n → list_any p xs ≡ false
  none_of_last-all n le none =
      list_any_none p xs (λ k d hk.
      let j : k ≡ length xs - 1 - (length xs - 1 - k) = omega arith in
      ap (λ j. p (get_or xs j d)) j ∙ none (length xs - 1 - k) d (omega arith))

  pub any_at : (i : ℕ) (x : T) → i < length xs → x ≡ get_or xs i x → p x ≡ true → list_any p xs ≡ true
  any_at i x lt is here = list_any_at p xs i x lt (sym (ap p is) ∙ here)

module _ {T : Type 0} (eq : T → T → Bool) (m : List T) where
  abbrev pub all_added : T → ℕ
  all_added v = count_by (eq v) (merge.adds m)

  abbrev pub all_removed : T → ℕ
  all_removed v = count_by (eq v) (merge.removes m)

  -- the value equals one of the first i terms
  abbrev pub IsSeen : ℕ → T → Type 0
  IsSeen i v = list_any (eq v) (take i m) ≡ true

  -- Of the values among the first i terms, at most `added` has a positive count, and at most
  -- `removed` a negative one.
  pub record ScanInvariant (change : SameChange) (i : ℕ) (added removed : Option T) : Type 0 where
    pub only_added : (w : T) → IsSeen i w → all_removed w < all_added w → Covers eq added w
    pub only_removed : (w : T) → IsSeen i w → all_added w < all_removed w → Covers eq removed w
    pub is_added : IfSome added (λ a. IsSeen i a × (all_removed a < all_added a) × Contains m a)
    pub is_removed : IfSome removed (λ r. IsSeen i r × (all_added r < all_removed r))
    pub once : change ≡ Keep → IfSome added (λ a. all_added a ≡ all_removed a + 1)
    pub nothing_removed : change ≡ Keep → removed ≡ None

  abbrev pub HasNoResolution : SameChange → Type 0
  HasNoResolution change = (v : T) → ResolvesTo eq change m v → ⊥

module _ {T : Type 0} (eq : T → T → Bool) (laws : IsEquivalence eq) (m : List T) where
  -- equal values have equal counts
  alike : (v w : T) → eq v w ≡ true → eq v ≡ eq w
  alike v w h = λ i y. laws.congr v w y h i

  both : (v p x : T) → eq v p ≡ true → eq v x ≡ true → eq p x ≡ true
  both v p x hp hx = sym (laws.congr v p x hp) ∙ hx

  same_added : (v w : T) → eq v w ≡ true → all_added eq m v ≡ all_added eq m w
  same_added v w h = ap (λ p. count_by p (merge.adds m)) (alike v w h)

  same_removed : (v w : T) → eq v w ≡ true → all_removed eq m v ≡ all_removed eq m w
  same_removed v w h = ap (λ p. count_by p (merge.removes m)) (alike v w h)

  same_seen : (i : ℕ) (v w : T) → eq v w ≡ true → IsSeen eq m i v → IsSeen eq m i w
  same_seen i v w h seen = sym (ap (λ p. list_any p (take i m)) (alike v w h)) ∙ seen

  -- the first i + 1 terms
  next_seen : (i : ℕ) (x w : T) → i < length m → x ≡ get_or m i x → IsSeen eq m (i + 1) w → IsSeen eq m i w ⊎ (eq w x ≡ true)
  next_seen i x w within is seen =
      elim (either_part _ _ (sym (list_any_more (eq w) m i x within) ∙ seen)) [ inl before ↦ inl before | inr here ↦ inr (ap (eq w) is ∙ here) ]

  seen_here : (i : ℕ) (x : T) → i < length m → x ≡ get_or m i x → IsSeen eq m (i + 1) x
  seen_here i x within is =
      list_any_more (eq x) m i x within ∙ ap (λ t. list_any (eq x) (take i m) || t) (sym (ap (eq x) is) ∙ laws.refl x) ∙ or_true (list_any (eq x) (take i m))
    where
      or_true : (b : Bool) → (b || true) ≡ true
      or_true true = refl
      or_true false = refl

  if_some : (o : Option T) (P Q : T → Type 0) → ((x : T) → P x → Q x) → IfSome o P → IfSome o Q
  if_some None P Q f h = h
  if_some (Some x) P Q f h = f x h

  pub start : (change : SameChange) → ScanInvariant eq m change 0 None None
  start change = record {
    only_added = λ w seen. absurd (false≢true seen);
    only_removed = λ w seen. absurd (false≢true seen);
    is_added = tt;
    is_removed = tt;
    once = λ _. tt;
    nothing_removed = λ _. refl;
  }

  -- a value that was seen before, or whose count is 0, preserves the invariant
  passed : (change : SameChange) (x : T) (added removed : Option T) (i : ℕ) → i < length m → x ≡ get_or m i x
      → ((w : T) → eq w x ≡ true → IsSeen eq m i w ⊎ (all_added eq m w ≡ all_removed eq m w))
      → ScanInvariant eq m change i added removed → ScanInvariant eq m change (i + 1) added removed
  passed change x added removed i within is known t = record {
    only_added = λ w seen more. elim (next_seen i x w within is seen) [
      | inl before ↦ t.only_added w before more
      | inr here ↦ elim (known w here) [ inl before ↦ t.only_added w before more | inr even ↦ absurd (omega arith) ]
    ];
    only_removed = λ w seen more. elim (next_seen i x w within is seen) [
      | inl before ↦ t.only_removed w before more
      | inr here ↦ elim (known w here) [ inl before ↦ t.only_removed w before more | inr even ↦ absurd (omega arith) ]
    ];
    is_added = if_some added (λ a. IsSeen eq m i a × (all_removed eq m a < all_added eq m a) × Contains m a) _ (λ a (seen, more, member). (list_any_kept (eq a) m i seen, more, member)) t.is_added;
    is_removed = if_some removed (λ r. IsSeen eq m i r × (all_added eq m r < all_removed eq m r)) _ (λ r (seen, more). (list_any_kept (eq r) m i seen, more)) t.is_removed;
    once = t.once;
    nothing_removed = t.nothing_removed;
  }

  pub seen_before : (change : SameChange) (x : T) (added removed : Option T) (i : ℕ) → i < length m → x ≡ get_or m i x
      → IsSeen eq m i x → ScanInvariant eq m change i added removed → ScanInvariant eq m change (i + 1) added removed
  seen_before change x added removed i within is before =
      passed change x added removed i within is (λ w here. inl (same_seen i x w (laws.symm x w ∙ here) before))

  pub balanced : (change : SameChange) (x : T) (added removed : Option T) (i : ℕ) → i < length m → x ≡ get_or m i x
      → all_added eq m x ≡ all_removed eq m x → ScanInvariant eq m change i added removed → ScanInvariant eq m change (i + 1) added removed
  balanced change x added removed i within is even =
      passed change x added removed i within is (λ w here. inr (same_added w x here ∙ even ∙ sym (same_removed w x here)))

  pub first_added : (change : SameChange) (x : T) (removed : Option T) (i : ℕ) → i < length m → x ≡ get_or m i x
      → all_removed eq m x < all_added eq m x → ((change ≡ Keep) × (all_added eq m x ≢ all_removed eq m x + 1) → ⊥)
      → ScanInvariant eq m change i None removed → ScanInvariant eq m change (i + 1) (Some x) removed
  first_added change x removed i within is more not_repeated t = record {
    only_added = λ w seen w_more. elim (next_seen i x w within is seen) [
      | inl before ↦ absurd (t.only_added w before w_more)
      | inr here ↦ laws.symm x w ∙ here
    ];
    only_removed = λ w seen w_more. elim (next_seen i x w within is seen) [
      | inl before ↦ t.only_removed w before w_more
      | inr here ↦ absurd (omega (arith, same_added w x here, same_removed w x here))
    ];
    is_added = (seen_here i x within is, more, (i, within, sym is));
    is_removed = if_some removed (λ r. IsSeen eq m i r × (all_added eq m r < all_removed eq m r)) _ (λ r (seen, less). (list_any_kept (eq r) m i seen, less)) t.is_removed;
    once = λ keep. by_count keep;
    nothing_removed = t.nothing_removed;
  }
    where
      by_count : change ≡ Keep → all_added eq m x ≡ all_removed eq m x + 1
      by_count keep = elim (eqb_tells (all_added eq m x) (all_removed eq m x + 1)) [ inl same ↦ same.1 | inr other ↦ absurd (not_repeated (keep, other.1)) ]

  pub first_removed : (change : SameChange) → (change ≡ Keep → ⊥) → (x : T) (added : Option T) (i : ℕ) → i < length m → x ≡ get_or m i x
      → all_added eq m x < all_removed eq m x → ScanInvariant eq m change i added None → ScanInvariant eq m change (i + 1) added (Some x)
  first_removed change not_kept x added i within is more t = record {
    only_added = λ w seen w_more. elim (next_seen i x w within is seen) [
      | inl before ↦ t.only_added w before w_more
      | inr here ↦ absurd (omega (arith, same_added w x here, same_removed w x here))
    ];
    only_removed = λ w seen w_more. elim (next_seen i x w within is seen) [
      | inl before ↦ absurd (t.only_removed w before w_more)
      | inr here ↦ laws.symm x w ∙ here
    ];
    is_added = if_some added (λ a. IsSeen eq m i a × (all_removed eq m a < all_added eq m a) × Contains m a) _ (λ a (seen, less, member). (list_any_kept (eq a) m i seen, less, member)) t.is_added;
    is_removed = (seen_here i x within is, more);
    once = t.once;
    nothing_removed = λ keep. absurd (not_kept keep);
  }

  -- two distinct values have positive counts
  pub two_added : (change : SameChange) (a x : T) (removed : Option T) (i : ℕ) → list_any (eq x) (take i m) ≡ false
      → all_removed eq m x < all_added eq m x → ScanInvariant eq m change i (Some a) removed → HasNoResolution eq m change
  two_added change a x removed i new more t v d =
      let (before, a_more, _) = t.is_added in
      let same : eq a x ≡ true = covered change d a_more in
      false≢true (sym new ∙ same_seen i a x same before)
    where
      covered : (change : SameChange) → ResolvesTo eq change m v → all_removed eq m a < all_added eq m a → eq a x ≡ true
      covered Keep d a_more = both v a x (d.1 a (not_zero (all_added eq m a) (all_removed eq m a) (λ e. omega (arith, e)))) (d.1 x (not_zero (all_added eq m x) (all_removed eq m x) (λ e. omega (arith, e))))
      covered Accept d a_more = both v a x (d.1 a (is_positive (all_added eq m a) (all_removed eq m a) a_more)) (d.1 x (is_positive (all_added eq m x) (all_removed eq m x) more))

  -- with `Keep`, a count that is neither 0 nor 1 leaves the merge unresolved
  pub keep_unresolved : (change : SameChange) (x : T) → change ≡ Keep → all_added eq m x ≢ all_removed eq m x → all_added eq m x ≢ all_removed eq m x + 1 → HasNoResolution eq m change
  keep_unresolved Accept x keep other more v d = cc
  keep_unresolved Keep x keep other more v d =
      let vx = d.1 x (not_zero (all_added eq m x) (all_removed eq m x) other) in
      more (omega (arith, one_more (all_added eq m v) (all_removed eq m v) d.0, same_added v x vx, same_removed v x vx))

  -- two distinct values have negative counts
  pub two_removed : (change : SameChange) (r x : T) (added : Option T) (i : ℕ) → list_any (eq x) (take i m) ≡ false
      → all_added eq m x < all_removed eq m x → ScanInvariant eq m change i added (Some r) → HasNoResolution eq m change
  two_removed Keep r x added i new more t v d = let none : Some r ≡ None = t.nothing_removed refl in cc
  two_removed Accept r x added i new more t v d =
      let (before, r_more) = t.is_removed in
      let same : eq r x ≡ true = d.2 r x (is_negative (all_added eq m r) (all_removed eq m r) r_more) (is_negative (all_added eq m x) (all_removed eq m x) more) in
      false≢true (sym new ∙ same_seen i r x same before)

  -- for the options that the loop tests
  pub some_added : (change : SameChange) (x : T) (added removed : Option T) (i : ℕ) → is_some added ≡ true → list_any (eq x) (take i m) ≡ false
      → all_removed eq m x < all_added eq m x → ScanInvariant eq m change i added removed → HasNoResolution eq m change
  some_added change x None removed i some new more t = absurd (false≢true some)
  some_added change x (Some a) removed i some new more t = two_added change a x removed i new more t

  pub some_removed : (change : SameChange) (x : T) (added removed : Option T) (i : ℕ) → is_some removed ≡ true → list_any (eq x) (take i m) ≡ false
      → all_added eq m x < all_removed eq m x → ScanInvariant eq m change i added removed → HasNoResolution eq m change
  some_removed change x added None i some new more t = absurd (false≢true some)
  some_removed change x added (Some r) i some new more t = two_removed change r x added i new more t

  pub none_yet_added : (change : SameChange) (x : T) (added removed : Option T) (i : ℕ) → is_some added ≡ false → i < length m → x ≡ get_or m i x
      → all_removed eq m x < all_added eq m x → ((change ≡ Keep) × (all_added eq m x ≢ all_removed eq m x + 1) → ⊥)
      → ScanInvariant eq m change i added removed → ScanInvariant eq m change (i + 1) (Some x) removed
  none_yet_added change x None removed i none within is more not_repeated t = first_added change x removed i within is more not_repeated t
  none_yet_added change x (Some a) removed i none within is more not_repeated t = absurd (false≢true (sym none))

  pub none_yet_removed : (change : SameChange) → (change ≡ Keep → ⊥) → (x : T) (added removed : Option T) (i : ℕ) → is_some removed ≡ false → i < length m → x ≡ get_or m i x
      → all_added eq m x < all_removed eq m x → ScanInvariant eq m change i added removed → ScanInvariant eq m change (i + 1) added (Some x)
  none_yet_removed change not_kept x added None i none within is more t = first_removed change not_kept x added i within is more t
  none_yet_removed change not_kept x added (Some r) i none within is more t = absurd (false≢true (sym none))

  -- a value with a nonzero count equals one of the terms
  at_end : (i : ℕ) (w : T) → length m ≤ i → all_added eq m w ≢ all_removed eq m w → IsSeen eq m i w
  at_end i w end other =
      elim (or_false (list_any (eq w) m)) [
        | inl seen ↦ ap (list_any (eq w)) (take_all i m end) ∙ seen
        | inr none ↦ absurd (other (none_added (eq w) m none ∙ sym (none_removed (eq w) m none)))
      ]

  covers_both : (o : Option T) (w x : T) → Covers eq o w → Covers eq o x → eq w x ≡ true
  covers_both None w x cw cx = absurd cw
  covers_both (Some q) w x cw cx = both q w x cw cx

  resolved : (change : SameChange) (a : T) (removed : Option T) (i : ℕ) → length m ≤ i → ScanInvariant eq m change i (Some a) removed → ResolvesTo eq change m a
  resolved Keep a removed i end t = (
    is_one (all_added eq m a) (all_removed eq m a) (t.once refl),
    λ w some. by_order w (λ e. some (is_zero (all_added eq m w) (all_removed eq m w) (omega arith) (omega arith))),
  )
    where
      by_order : (w : T) → all_added eq m w ≢ all_removed eq m w → eq a w ≡ true
      by_order w other =
          elim (cases_lt (all_added eq m w) (all_removed eq m w)) [
            | inl less ↦ absurd (subst (λ o. Covers eq o w) (t.nothing_removed refl) (t.only_removed w (at_end i w end other) less))
            | inr more ↦ t.only_added w (at_end i w end other) (omega (arith, other))
          ]
  resolved Accept a removed i end t =
      let (_, more, _) = t.is_added in (
        is_positive (all_added eq m a) (all_removed eq m a) more,
        λ w positive.
            let w_more = from_positive (all_added eq m w) (all_removed eq m w) positive in
            t.only_added w (at_end i w end (λ e. omega (arith, e))) w_more,
        λ w x w_negative x_negative.
            let w_less = from_negative (all_added eq m w) (all_removed eq m w) w_negative in
            let x_less = from_negative (all_added eq m x) (all_removed eq m x) x_negative in
            covers_both removed w x (t.only_removed w (at_end i w end (λ e. omega (arith, e))) w_less) (t.only_removed x (at_end i x end (λ e. omega (arith, e))) x_less),
      )

  pub resolved_option : (change : SameChange) (added removed : Option T) (i : ℕ) → length m ≤ i → ScanInvariant eq m change i added removed → IfSome added (ResolvesTo eq change m)
  resolved_option change None removed i end t = tt
  resolved_option change (Some a) removed i end t = resolved change a removed i end t

  unresolved : (change : SameChange) (removed : Option T) (i : ℕ) → length m ≤ i → ScanInvariant eq m change i None removed → HasNoResolution eq m change
  unresolved change removed i end t v d =
      let more = is_more change d in
      t.only_added v (at_end i v end (λ e. omega (arith, e, more))) more
    where
      is_more : (change : SameChange) → ResolvesTo eq change m v → all_removed eq m v < all_added eq m v
      is_more Keep d = omega (arith, one_more (all_added eq m v) (all_removed eq m v) d.0)
      is_more Accept d = from_positive (all_added eq m v) (all_removed eq m v) d.0

  pub member : (change : SameChange) (added removed : Option T) (i : ℕ) → ScanInvariant eq m change i added removed → IfSome added (Contains m)
  member change added removed i t = if_some added (λ a. IsSeen eq m i a × (all_removed eq m a < all_added eq m a) × Contains m a) _ (λ a (_, _, member). member) t.is_added

  pub unresolved_option : (change : SameChange) (added : Option (Bor T)) (removed : Option T) (i : ℕ) → length m ≤ i
      → ScanInvariant eq m change i (option_copied added) removed → IfNone added (HasNoResolution eq m change)
  unresolved_option change None removed i end t = unresolved change removed i end t
  unresolved_option change (Some a) removed i end t = tt

-- `is_some` of an option of a reference
pub copied_is_some : {T : Type 0} (o : Option (Bor T)) → is_some (option_copied o) ≡ is_some o
copied_is_some None = refl
copied_is_some (Some x) = refl

-- a fact about the referenced value
pub if_copied : {T : Type 0} (P : T → Type 0) (o : Option (Bor T)) → IfSome (option_copied o) P → IfSome o (λ v. P v.now)
if_copied P None h = h
if_copied P (Some x) h = h
