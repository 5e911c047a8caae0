-- Positions are left by the first remove of each class: those of the start, and those after the first remove of a class is dropped.
use Rattle.std.proofs.Common.{◌≡◌, ◌∙◌, ℕ, zero, suc, ◌+◌, ◌*◌, ◌/◌, ◌%◌, ◌<◌, ◌≤◌, true, false, List, length, refl, ap, sym, subst, arith, set, ⊎_elim}
use Rattle.std.specs.Prelude.{◌==◌, ◌||◌, nat_le, slice_index}
use Rattle.std.proofs.lemmas.Bool.{cases_eq, cases_lt, le-leb, leb-true, lt-leb, ne_eqb}
use Rattle.std.proofs.lemmas.List.{get_or-set_other, get_or-set_same}
use Rattle.jj_program.specs.MergeSimplify.{AreHeadsFrom, AreNextsFrom, IsFirstFrom, IsRemoveOf, is_left, remove_at}

-- the first remove that is left of the class of the remove at a position
abbrev pub head_at : List ℕ → List ℕ → ℕ → ℕ
head_at classes heads p = slice_index heads (slice_index classes (remove_at p))

-- a head is a remove of its class, or the number of terms
abbrev pub AreHeads : List ℕ → List ℕ → Type 0
AreHeads classes heads = (class : ℕ) → class < length classes → (slice_index heads class ≤ length classes)
    × (slice_index heads class < length classes → IsRemoveOf classes class (slice_index heads class))

module _ (classes heads : List ℕ) where
  tested : (p : ℕ) → 0 < p → is_left classes heads p ≡ nat_le (head_at classes heads p) (remove_at p)
  tested p up = ap (λ b. b || nat_le (head_at classes heads p) (remove_at p)) (ne_eqb p 0 (λ e. absurd (omega arith)))

  pub left-head : (p : ℕ) → 0 < p → is_left classes heads p ≡ true → head_at classes heads p ≤ remove_at p
  left-head p up h = leb-true (head_at classes heads p) (remove_at p) (sym (tested p up) ∙ h)

  pub head-left : (p : ℕ) → 0 < p → head_at classes heads p ≤ remove_at p → is_left classes heads p ≡ true
  head-left p up h = tested p up ∙ le-leb (head_at classes heads p) (remove_at p) h

  head-dropped : (p : ℕ) → 0 < p → remove_at p < head_at classes heads p → is_left classes heads p ≡ false
  head-dropped p up h = tested p up ∙ lt-leb (head_at classes heads p) (remove_at p) h

  pub heads-start : AreHeadsFrom 0 classes heads → AreHeads classes heads
  heads-start from = λ class within. let first = from class within in (first.1, first.2)

  -- all positions are left at first
  pub all-left : AreHeadsFrom 0 classes heads → ((index : ℕ) → index < length classes → slice_index classes index < length classes)
      → (p : ℕ) → 2 * p < length classes + 1 → is_left classes heads p ≡ true
  all-left from below zero within = refl
  all-left from below (suc p) within =
      let t = remove_at (suc p) in
      let in_range : t < length classes = omega arith in
      let first = from (slice_index classes t) (below t in_range) in
      head-left (suc p) (omega arith) (⊎_elim
      (λ (over : t < slice_index heads (slice_index classes t)). absurd (first.3 t (omega arith) over (omega arith, refl)))
      (λ (under : slice_index heads (slice_index classes t) ≤ t). under)
      (cases_lt t (slice_index heads (slice_index classes t))))

module _ (classes nexts heads : List ℕ) (class r : ℕ) (same_size : length heads ≡ length classes) (are_nexts : AreNextsFrom 0 classes nexts) (within_class : class < length classes)
    (is_head : slice_index heads class ≡ r) (within : r < length classes) (is_remove : IsRemoveOf classes class r) where
  abbrev pub heads_after : List ℕ
  heads_after = set heads class (slice_index nexts r)

  next : IsFirstFrom classes class (r + 1) (slice_index nexts r)
  next = subst (λ c. IsFirstFrom classes c (r + 1) (slice_index nexts r)) is_remove.1 (are_nexts r (omega arith) within is_remove.0)

  written : slice_index heads_after class ≡ slice_index nexts r
  written = get_or-set_same heads class (slice_index nexts r) 0 (omega arith)

  pub dropped-at : remove_at (r / 2 + 1) ≡ r
  dropped-at = omega (arith, is_remove.0)

  pub dropped-below : 2 * (r / 2 + 1) < length classes + 1
  dropped-below = omega (arith, is_remove.0)

  pub heads-after : AreHeads classes heads → AreHeads classes heads_after
  heads-after are = λ c in_range. ⊎_elim
      (λ (e : c ≡ class).
      let at : slice_index heads_after c ≡ slice_index nexts r = ap (slice_index heads_after) e ∙ written in
      subst (λ h. (h ≤ length classes) × (h < length classes → IsRemoveOf classes c h)) (sym at)
      (next.1, λ less. let is = next.2 less in (is.0, is.1 ∙ sym e)))
      (λ apart.
      let at : slice_index heads_after c ≡ slice_index heads c = get_or-set_other heads class c (slice_index nexts r) 0 apart in
      subst (λ h. (h ≤ length classes) × (h < length classes → IsRemoveOf classes c h)) (sym at) (are c in_range))
      (cases_eq c class)

  at_class : (hs : List ℕ) (p h : ℕ) → slice_index classes (remove_at p) ≡ class → slice_index hs class ≡ h → head_at classes hs p ≡ h
  at_class hs p h e f = ap (slice_index hs) e ∙ f

  of_dropped : slice_index classes (remove_at (r / 2 + 1)) ≡ class
  of_dropped = ap (slice_index classes) dropped-at ∙ is_remove.1

  pub dropped-left : is_left classes heads (r / 2 + 1) ≡ true
  dropped-left = head-left classes heads (r / 2 + 1) (omega arith) (omega (arith, at_class heads (r / 2 + 1) r of_dropped is_head, dropped-at))

  pub dropped-fails : is_left classes heads_after (r / 2 + 1) ≡ false
  dropped-fails = head-dropped classes heads_after (r / 2 + 1) (omega arith) (omega (arith, at_class heads_after (r / 2 + 1) (slice_index nexts r) of_dropped written, dropped-at, next.0))

  pub others-left : (p : ℕ) → 2 * p < length classes + 1 → (p ≡ r / 2 + 1 → ⊥) → is_left classes heads_after p ≡ is_left classes heads p
  others-left zero low apart = refl
  others-left (suc k) low apart =
      let p = suc k in
      let t = remove_at p in
      let up : 0 < p = omega arith in
      let odd : t % 2 ≡ 1 = omega arith in
      let not_r : t ≡ r → ⊥ = λ e. apart (omega (arith, e)) in
      ⊎_elim
      (λ (of : slice_index classes t ≡ class).
      let before = at_class heads p r of is_head in
      let after = at_class heads_after p (slice_index nexts r) of written in
      ⊎_elim
      (λ (less : t < r).
      head-dropped classes heads_after p up (omega (arith, after, next.0)) ∙ sym (head-dropped classes heads p up (omega (arith, before))))
      (λ (more : r ≤ t).
      let above : r < t = omega (arith, not_r) in
      let not_under : slice_index nexts r ≤ t = ⊎_elim
      (λ (under : t < slice_index nexts r). absurd (next.3 t (omega arith) under (odd, of)))
      (λ (over : slice_index nexts r ≤ t). over)
      (cases_lt t (slice_index nexts r)) in
      head-left classes heads_after p up (omega (arith, after)) ∙ sym (head-left classes heads p up (omega (arith, before))))
      (cases_lt t r))
      (λ apart'. ap (λ h. (p == 0) || nat_le h t) (get_or-set_other heads class (slice_index classes t) (slice_index nexts r) 0 apart'))
      (cases_eq (slice_index classes t) class)
