-- The outcome of the merges with the signed counts of two sorted sides.
use Rattle.std.proofs.Common.{◌≡◌, ◌≢◌, ◌∙◌, ℕ, ◌+◌, ◌<◌, ◌≤◌, Bool, true, false, List, Option, Some, None, cond, length, refl, sym, ap, subst, arith, get_or}
use Rattle.std.specs.Prelude.{count_by, pos, ◌-ℤ◌}
use Rattle.std.proofs.lemmas.Bool.{false≢true}
use Rattle.std.proofs.lemmas.List.{take_all}
use Rattle.jj_merges.specs.declared.merge.SameChange.{SameChange}
use Rattle.jj_merges.specs.declared.merge.SameChange.TheVariants.{Keep, Accept}
use Rattle.jj_merges.specs.Merge.{adds, removes}
use Rattle.jj_merges.specs.Resolution.{ResolvesTo}
use Rattle.jj_merges.proofs.ResolutionScan.{HasNoResolution, all_added, all_removed, from_negative, from_positive, is_negative, is_one, is_positive, is_zero, keep_unresolved, not_zero}
use Rattle.jj_program.specs.Lines.{Text}
use Rattle.jj_program.specs.MergeViews.{text_eq, is_other, HaveCountsOf, ResolvesSides, IsUnmatched}
use Rattle.jj_program.proofs.SortedSides.{SidesAt, head_counted, is_another, left_counted, sides_swap, text_laws, times, times_apart, times_own}

both : (v a x : Text) → text_eq v a ≡ true → text_eq v x ≡ true → text_eq a x ≡ true
both v a x va vx = sym (text_laws.congr v a x va) ∙ vx

module _ (m : List Text) where
  -- two values with positive counts
  pub two_added : (change : SameChange) (a x : Text) → text_eq a x ≡ false → all_removed text_eq m a < all_added text_eq m a
      → all_removed text_eq m x < all_added text_eq m x → HasNoResolution text_eq m change
  two_added Keep a x apart a_more x_more v d =
      let va = d.1 a (not_zero (all_added text_eq m a) (all_removed text_eq m a) (λ e. omega (arith, e))) in
      let vx = d.1 x (not_zero (all_added text_eq m x) (all_removed text_eq m x) (λ e. omega (arith, e))) in
      false≢true (sym apart ∙ both v a x va vx)
  two_added Accept a x apart a_more x_more v d =
      let va = d.1 a (is_positive (all_added text_eq m a) (all_removed text_eq m a) a_more) in
      let vx = d.1 x (is_positive (all_added text_eq m x) (all_removed text_eq m x) x_more) in
      false≢true (sym apart ∙ both v a x va vx)

  -- a value with a negative count, without the rule for equal changes
  pub kept_removed : (change : SameChange) (x : Text) → change ≡ Keep → all_added text_eq m x < all_removed text_eq m x → HasNoResolution text_eq m change
  kept_removed change x keep more = keep_unresolved text_eq text_laws m change x keep (λ e. omega (arith, e)) (λ e. omega (arith, e))

  -- two values with negative counts
  pub two_removed : (change : SameChange) (r x : Text) → text_eq r x ≡ false → all_added text_eq m r < all_removed text_eq m r
      → all_added text_eq m x < all_removed text_eq m x → HasNoResolution text_eq m change
  two_removed Keep r x apart r_more x_more v d = kept_removed Keep x refl x_more v d
  two_removed Accept r x apart r_more x_more v d =
      let same = d.2 r x (is_negative (all_added text_eq m r) (all_removed text_eq m r) r_more) (is_negative (all_added text_eq m x) (all_removed text_eq m x) x_more) in
      false≢true (sym apart ∙ same)

module _ (change : SameChange) (xs ys : List Text) (i j m n : ℕ) (o p : Option Text) (d : Text) where
  -- another string is left of the adds already
  pub conflict_added : IsUnmatched xs i ys j → SidesAt xs i o m ys j p n → is_other o (get_or xs i d).now ≡ true
      → ResolvesSides change xs ys None
  conflict_added alone s other terms counts = by_value (is_another o (get_or xs i d) other) s
    where
      by_value : (a : Text) × (o ≡ Some a) × (text_eq a (get_or xs i d) ≡ false) → SidesAt xs i o m ys j p n → HasNoResolution text_eq terms change
      by_value (a, is, apart) s =
          let x = get_or xs i d in
          let t : SidesAt xs i (Some a) m ys j p n = subst (λ o. SidesAt xs i o m ys j p n) is s in
          two_added terms change a x apart
          (omega (arith, counts a, left_counted xs i a m ys j p n t))
          (omega (arith, counts x, head_counted xs i o m ys j p n d alone s))

  -- another string is left of the removes already
  pub conflict_removed : IsUnmatched ys j xs i → SidesAt xs i o m ys j p n → is_other p (get_or ys j d).now ≡ true
      → ResolvesSides change xs ys None
  conflict_removed alone s other terms counts = by_value (is_another p (get_or ys j d) other) (sides_swap xs i o m ys j p n s)
    where
      by_value : (b : Text) × (p ≡ Some b) × (text_eq b (get_or ys j d) ≡ false) → SidesAt ys j p n xs i o m → HasNoResolution text_eq terms change
      by_value (b, is, apart) s =
          let y = get_or ys j d in
          let t : SidesAt ys j (Some b) n xs i o m = subst (λ p. SidesAt ys j p n xs i o m) is s in
          two_removed terms change b y apart
          (omega (arith, counts b, left_counted ys j b n xs i o m t))
          (omega (arith, counts y, head_counted ys j p n xs i o m d alone s))

  -- a string of the removes is unmatched, without the rule for equal changes
  pub conflict_kept : change ≡ Keep → IsUnmatched ys j xs i → SidesAt xs i o m ys j p n → ResolvesSides change xs ys None
  conflict_kept keep alone s terms counts =
      let y = get_or ys j d in
      kept_removed terms change y keep
      (omega (arith, counts y, head_counted ys j p n xs i o m d alone (sides_swap xs i o m ys j p n s)))

-- only strings that equal the option's value are left
times_some : (p : Option Text) (n : ℕ) (w : Text) → 0 < times p n w → (b : Text) × (p ≡ Some b) × (text_eq w b ≡ true)
times_some None n w some = absurd (omega arith)
times_some (Some b) n w some = (b, refl, by_test (text_eq w b) some)
  where
    by_test : (t : Bool) → 0 < cond t n 0 → t ≡ true
    by_test true h = refl
    by_test false h = absurd (omega (arith, h))

module _ (xs ys terms : List Text) (i j m n : ℕ) (o p : Option Text) (s : SidesAt xs i o m ys j p n)
    (xs_end : length xs ≤ i) (ys_end : length ys ≤ j) (counts : HaveCountsOf xs ys (adds terms) (removes terms)) where
  signed : (v : Text) → all_added text_eq terms v + times p n v ≡ all_removed text_eq terms v + times o m v
  signed v =
      let all_xs = ap (count_by (text_eq v)) (take_all i xs xs_end) in
      let all_ys = ap (count_by (text_eq v)) (take_all j ys ys_end) in
      omega (arith, s.counts v, counts v, all_xs, all_ys)

  -- a value with a positive count is left of the adds
  is_left : (a w : Text) → o ≡ Some a → all_removed text_eq terms w < all_added text_eq terms w → text_eq a w ≡ true
  is_left a w is more =
      let (b, here, same) = times_some o m w (omega (arith, signed w, more)) in
      text_laws.symm a w ∙ subst (λ (b : Text). text_eq w b ≡ true) (some_same b a (sym here ∙ is)) same
    where
      some_same : (b a : Text) → Some b ≡ Some a → b ≡ a
      some_same b a h = cc

  -- values with negative counts are left of the removes
  are_left : (w x : Text) → all_added text_eq terms w < all_removed text_eq terms w → all_added text_eq terms x < all_removed text_eq terms x → text_eq w x ≡ true
  are_left w x w_more x_more =
      let (b, b_here, w_same) = times_some p n w (omega (arith, signed w, w_more)) in
      let (c, c_here, x_same) = times_some p n x (omega (arith, signed x, x_more)) in
      let same : c ≡ b = some_same c b (sym c_here ∙ b_here) in
      both b w x (text_laws.symm b w ∙ w_same) (text_laws.symm b x ∙ subst (λ (c : Text). text_eq x c ≡ true) same x_same)
    where
      some_same : (c b : Text) → Some c ≡ Some b → c ≡ b
      some_same c b h = cc

resolved : (change : SameChange) (xs ys terms : List Text) (i j m n : ℕ) (a : Text) (p : Option Text) → (change ≡ Keep → p ≡ None)
    → SidesAt xs i (Some a) m ys j p n → length xs ≤ i → i ≤ length xs → length ys ≤ j → j ≤ length ys → length xs ≡ length ys + 1
    → HaveCountsOf xs ys (adds terms) (removes terms) → ResolvesTo text_eq change terms a
resolved Keep xs ys terms i j m n a (Some b) keep s xs_end xs_in ys_end ys_in one counts = let none : Some b ≡ None = keep refl in cc
resolved Keep xs ys terms i j m n a None keep s xs_end xs_in ys_end ys_in one counts =
    let sums = signed xs ys terms i j m n (Some a) None s xs_end ys_end counts in
    let single : m ≡ 1 = omega (arith, s.lengths, s.right) in (
      is_one (all_added text_eq terms a) (all_removed text_eq terms a) (omega (arith, sums a, times_own a m, single)),
      λ w some. by_test w (text_eq a w) refl some,
    )
  where
    by_test : (w : Text) (b : Bool) → text_eq a w ≡ b → pos (all_added text_eq terms w) -ℤ pos (all_removed text_eq terms w) ≢ pos 0 → b ≡ true
    by_test w true h some = refl
    by_test w false h some =
        let sums = signed xs ys terms i j m n (Some a) None s xs_end ys_end counts in
        let none = times_apart w (Some a) m (text_laws.symm w a ∙ h) in
        absurd (some (is_zero (all_added text_eq terms w) (all_removed text_eq terms w) (omega (arith, sums w, none)) (omega (arith, sums w, none))))
resolved Accept xs ys terms i j m n a p keep s xs_end xs_in ys_end ys_in one counts =
    let sums = signed xs ys terms i j m n (Some a) p s xs_end ys_end counts in (
      is_positive (all_added text_eq terms a) (all_removed text_eq terms a) (omega (arith, sums a, times_own a m, times_apart a p n s.apart, s.left.0)),
      λ w positive. is_left xs ys terms i j m n (Some a) p s xs_end ys_end counts a w refl
          (from_positive (all_added text_eq terms w) (all_removed text_eq terms w) positive),
      λ w x w_negative x_negative. are_left xs ys terms i j m n (Some a) p s xs_end ys_end counts w x
          (from_negative (all_added text_eq terms w) (all_removed text_eq terms w) w_negative)
          (from_negative (all_added text_eq terms x) (all_removed text_eq terms x) x_negative),
    )

-- the outcome once both sides are merged
pub decided_at_end : (change : SameChange) (xs ys : List Text) (i j m n : ℕ) (o p : Option Text) → (change ≡ Keep → p ≡ None)
    → SidesAt xs i o m ys j p n → length xs ≤ i → i ≤ length xs → length ys ≤ j → j ≤ length ys → length xs ≡ length ys + 1
    → ResolvesSides change xs ys o
decided_at_end change xs ys i j m n None p keep s xs_end xs_in ys_end ys_in one terms counts = absurd (omega (arith, s.lengths, s.left))
decided_at_end change xs ys i j m n (Some a) p keep s xs_end xs_in ys_end ys_in one terms counts =
    resolved change xs ys terms i j m n a p keep s xs_end xs_in ys_end ys_in one counts
