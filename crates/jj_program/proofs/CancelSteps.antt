-- A step of the cancellation at a position is a step of `cancel_from`.
use Rattle.std.proofs.Common.{◌≡◌, ◌∙◌, ℕ, zero, suc, ◌+◌, ◌*◌, ◌/◌, ◌<◌, ◌≤◌, Bool, true, false, List, [], ◌∷◌, ◌++◌, drop, length, map, Some, None, refl, ap, sym, subst, arith, set, add-one, ⊎_elim}
use Rattle.std.specs.Prelude.{◌==◌, position, slice_index}
use Rattle.std.specs.List.{range_with_len}
use Rattle.std.proofs.lemmas.Bool.{cases_lt, eq-eqb, ne_eqb}
use Rattle.std.proofs.lemmas.List.{drop-append-le, length-set}
use Rattle.std.proofs.lemmas.List.FromFn.{fill_by_all, length-map-range_with_len, map-range_with_len_more}
use Rattle.jj_merges.specs.Simplify.{SideIndices, cancel_pair, split_indices}
use Rattle.jj_merges.proofs.CancelLoop.{LoopInvariant, LoopInvariant-done, LoopInvariant-found, LoopInvariant-passed}
use Rattle.jj_merges.proofs.FirstMatch.{position-found, position-none}
use Rattle.jj_merges.proofs.SideAppend.{adds-more_even, adds-more_odd, removes-more_even, removes-more_odd}
use Rattle.jj_program.specs.MergeSimplify.{AreNextsFrom, IsRemoveOf, is_left, positions_below, remove_at, sides_at, sides_left}
use Rattle.jj_program.proofs.FirstRemoves.{dropped-at, dropped-fails, dropped-left, heads_after, left-head, others-left}
use Rattle.jj_program.proofs.LeftPositions.{positions-agree, positions-all, rank, rank-below, rank-dropped, rank-grows, rank-passes}
use Rattle.jj_program.proofs.LeftSides.{add-read, length-adds, length-removes, remove-at, remove-read, sides-dropped}

-- two terms are equal if they are of one class
abbrev pub AreAlike : (ℕ → ℕ → Bool) → List ℕ → Type 0
AreAlike same classes = (i j : ℕ) → i < length classes → j < length classes → same i j ≡ (slice_index classes i == slice_index classes j)

module _ (same : ℕ → ℕ → Bool) (classes : List ℕ) (whole : SideIndices) where
  -- the sides after all steps from this position on are those of the whole
  abbrev pub IsOnTheWay : List ℕ → List ℕ → ℕ → Type 0
  IsOnTheWay heads adds current = LoopInvariant same (length classes) whole (rank (is_left classes heads) current) (sides_left classes heads adds)

  module _ (alike : AreAlike same classes) (heads adds : List ℕ) (current : ℕ) (within : current < length adds) (sizes : 2 * length adds ≡ length classes + 1)
      (left : is_left classes heads current ≡ true) (in_range : slice_index adds current < length classes) (way : IsOnTheWay heads adds current) where
    abbrev test : ℕ → Bool
    test = is_left classes heads

    -- the add at the position
    abbrev add : ℕ
    add = slice_index adds current

    -- another remove than those of the class of the add
    differs : (j : ℕ) → j < length (sides_left classes heads adds).removes
        → ((p : ℕ) → 0 < p → p < length adds → test p ≡ true → rank test p ≡ 1 + j → slice_index classes add ≡ slice_index classes (remove_at p) → ⊥)
        → same (slice_index (sides_left classes heads adds).adds (rank test current)) (slice_index (sides_left classes heads adds).removes j) ≡ false
    differs j inside apart =
        let (p, ranked, read) = remove-read test adds (length adds) j inside in
        let up : 0 < p = ⊎_elim (λ (h : 0 < p). h) (λ (h : p ≤ 0). let e : p ≡ 0 = omega arith in absurd (omega (arith, ranked.2, ap (rank test) e))) (cases_lt 0 p) in
        ap (λ x. same x (slice_index (sides_left classes heads adds).removes j)) (add-read test adds (length adds) current left within)
        ∙ ap (same add) read
        ∙ alike add (remove_at p) in_range (omega (arith, ranked.0))
        ∙ ne_eqb (slice_index classes add) (slice_index classes (remove_at p)) (apart p up ranked.0 ranked.1 ranked.2)

    pub way-passed : slice_index heads (slice_index classes add) ≡ length classes → IsOnTheWay heads adds (current + 1)
    way-passed none =
        let s = sides_left classes heads adds in
        let i = rank test current in
        let missing : None ≡ position (same (slice_index s.adds i)) s.removes =
        position-none (same (slice_index s.adds i)) s.removes
        (λ j inside. differs j inside (λ p up below passes ranked e.
        let last = left-head classes heads p up passes in
        let at = ap (slice_index heads) (sym e) ∙ none in
        absurd (omega (arith, last, at)))) in
        let size = length-adds test adds (length adds) in
        let hi : i < length s.adds = omega (arith, size, rank-below test current (length adds) left within) in
        let next : i + 1 ≡ rank test (current + 1) = sym (ap (rank test) (add-one current) ∙ rank-passes test current left) in
        subst (λ k. LoopInvariant same (length classes) whole k s) next (LoopInvariant-passed same (length classes) whole i s way hi missing)

    module _ (nexts : List ℕ) (r : ℕ) (same_size : length heads ≡ length classes) (are_nexts : AreNextsFrom 0 classes nexts) (within_class : slice_index classes add < length classes)
        (is_head : slice_index heads (slice_index classes add) ≡ r) (r_within : r < length classes) (is_remove : IsRemoveOf classes (slice_index classes add) r) where
      abbrev class : ℕ
      class = slice_index classes add

      abbrev q : ℕ
      q = r / 2 + 1

      abbrev after : List ℕ
      after = heads_after classes nexts heads class r same_size are_nexts within_class is_head r_within is_remove

      abbrev other : ℕ → Bool
      other = is_left classes after

      q_left : test q ≡ true
      q_left = dropped-left classes nexts heads class r same_size are_nexts within_class is_head r_within is_remove

      q_fails : other q ≡ false
      q_fails = dropped-fails classes nexts heads class r same_size are_nexts within_class is_head r_within is_remove

      q_below : q < length adds
      q_below = omega (arith, is_remove.0)

      rest_left : (p : ℕ) → p < length adds → (p ≡ q → ⊥) → other p ≡ test p
      rest_left p below apart = others-left classes nexts heads class r same_size are_nexts within_class is_head r_within is_remove p (omega arith) apart

      -- the sides after the pair is dropped
      pub way-dropped : LoopInvariant same (length classes) whole (rank test current) (sides_left classes after (set adds current (slice_index adds q)))
      way-dropped =
          let s = sides_left classes heads adds in
          let i = rank test current in
          let n = length adds in
          let first : rank test 0 < rank test q = rank-below test 0 q refl (omega arith) in
          let inside : rank test q < rank test n = rank-below test q n q_left q_below in
          let removes_size = length-removes test adds n (omega arith) in
          let size = length-adds test adds n in
          let hi : i < length s.adds = omega (arith, size, rank-below test current n left within) in
          step (rank test q) refl
        where
          step : (k : ℕ) → rank test q ≡ k → LoopInvariant same (length classes) whole (rank test current) (sides_left classes after (set adds current (slice_index adds q)))
          step zero e = absurd (omega (arith, rank-below test 0 q refl (omega arith), e))
          step (suc k) e =
              let s = sides_left classes heads adds in
              let i = rank test current in
              let n = length adds in
              let inside : rank test q < rank test n = rank-below test q n q_left q_below in
              let removes_size = length-removes test adds n (omega arith) in
              let size = length-adds test adds n in
              let hi : i < length s.adds = omega (arith, size, rank-below test current n left within) in
              let at_q : slice_index s.removes k ≡ r = remove-at test adds n q k q_left q_below (omega (arith, e)) ∙ dropped-at classes nexts heads class r same_size are_nexts within_class is_head r_within is_remove in
              let found : Some k ≡ position (same (slice_index s.adds i)) s.removes =
              position-found (same (slice_index s.adds i)) s.removes k (omega arith)
              (λ j before. differs j (omega arith) (λ p up below passes ranked alike_p.
              let last = left-head classes heads p up passes in
              let head : slice_index heads (slice_index classes (remove_at p)) ≡ r = ap (slice_index heads) (sym alike_p) ∙ is_head in
              let under : p < q = ⊎_elim (λ (h : p < q). h) (λ (h : q ≤ p). absurd (omega (arith, rank-grows test q p h, ranked, e, before))) (cases_lt p q) in
              absurd (omega (arith, last, head, under, is_remove.0))))
              (ap (λ x. same x (slice_index s.removes k)) (add-read test adds n current left within)
              ∙ ap (same add) at_q ∙ alike add r in_range r_within ∙ eq-eqb (slice_index classes add) (slice_index classes r) (sym is_remove.1)) in
              let next : cancel_pair s i k ≡ sides_left classes after (set adds current (slice_index adds q)) =
              sides-dropped test adds n other current q k refl left within q_below q_left (omega (arith, e)) q_fails rest_left
              ∙ ap (λ m. sides_at (set adds current (slice_index adds q)) (positions_below m other)) (sym (length-set adds current (slice_index adds q))) in
              subst (LoopInvariant same (length classes) whole i) next (LoopInvariant-found same (length classes) whole i k s way hi found)

      pub way-stays : current < q → IsOnTheWay after (set adds current (slice_index adds q)) current
      way-stays above =
          let agree = positions-agree test other current (λ p below. rest_left p (omega arith) (λ e. absurd (omega arith))) in
          subst (λ k. LoopInvariant same (length classes) whole k (sides_left classes after (set adds current (slice_index adds q)))) (sym (ap length agree)) way-dropped

      pub way-moves : q ≤ current → IsOnTheWay after (set adds current (slice_index adds q)) (current + 1)
      way-moves under =
          let fewer = rank-dropped test other (suc current) q (omega arith) q_left q_fails (λ p below. rest_left p (omega arith)) in
          let same_rank : rank test current ≡ rank other (current + 1) = omega (arith, fewer, rank-passes test current left, ap (rank other) (add-one current)) in
          subst (λ k. LoopInvariant same (length classes) whole k (sides_left classes after (set adds current (slice_index adds q)))) same_rank way-dropped

  pub way-done : (heads adds : List ℕ) (current : ℕ) → length adds ≤ current → current ≤ length adds → IsOnTheWay heads adds current → sides_left classes heads adds ≡ whole
  way-done heads adds current low high way =
      let e : current ≡ length adds = omega arith in
      LoopInvariant-done same (length classes) whole (rank (is_left classes heads) current) (sides_left classes heads adds) way
      (omega (arith, length-adds (is_left classes heads) adds (length adds), ap (rank (is_left classes heads)) e))

-- the sides of n terms
split-all : (m n : ℕ) → n ≡ 2 * m + 1 → ((split_indices n).adds ≡ map (λ p. 2 * p) (range_with_len 0 (m + 1)))
    × ((split_indices n).removes ≡ drop 1 (map remove_at (range_with_len 0 (m + 1))))
split-all zero n e = let one : n ≡ 1 = omega arith in subst (λ k. ((split_indices k).adds ≡ map (λ p. 2 * p) (range_with_len 0 (0 + 1))) × ((split_indices k).removes ≡ drop 1 (map remove_at (range_with_len 0 (0 + 1))))) (sym one) (refl, refl)
split-all (suc m) n e =
    let before = split-all m (2 * m + 1) refl in
    let last : n ≡ 2 * m + 1 + 1 + 1 = omega arith in
    let twice : 2 * m + 1 + 1 ≡ 2 * (m + 1) = omega arith in
    let once : 2 * m + 1 ≡ remove_at (m + 1) = omega arith in
    let longer : suc m + 1 ≡ m + 1 + 1 = omega arith in
    let wide = length-map-range_with_len remove_at 0 (m + 1) in (
      ap (λ k. (split_indices k).adds) last
          ∙ adds-more_even (2 * m + 1 + 1) (omega arith)
          ∙ ap (λ xs. xs ++ (2 * m + 1 + 1) ∷ []) (adds-more_odd (2 * m + 1) (λ h. absurd (omega arith)) ∙ before.0)
          ∙ ap (λ k. map (λ p. 2 * p) (range_with_len 0 (m + 1)) ++ k ∷ []) twice
          ∙ sym (ap (λ k. map (λ p. 2 * p) (range_with_len 0 k)) longer ∙ map-range_with_len_more (λ p. 2 * p) 0 (m + 1) (m + 1) (omega arith)),
      ap (λ k. (split_indices k).removes) last
          ∙ removes-more_even (2 * m + 1 + 1) (omega arith)
          ∙ removes-more_odd (2 * m + 1) (λ h. absurd (omega arith))
          ∙ ap (λ xs. xs ++ (2 * m + 1) ∷ []) before.1
          ∙ ap (λ k. drop 1 (map remove_at (range_with_len 0 (m + 1))) ++ k ∷ []) once
          ∙ sym (ap (λ k. drop 1 (map remove_at (range_with_len 0 k))) longer
          ∙ ap (drop 1) (map-range_with_len_more remove_at 0 (m + 1) (m + 1) (omega arith))
          ∙ drop-append-le 1 (map remove_at (range_with_len 0 (m + 1))) (remove_at (m + 1) ∷ []) (omega (arith, wide))),
    )

-- the sides at first
pub sides-start : (classes heads adds : List ℕ) → 2 * length adds ≡ length classes + 1 → adds ≡ map (λ p. 2 * p) (range_with_len 0 (length adds))
    → ((p : ℕ) → p < length adds → is_left classes heads p ≡ true) → sides_left classes heads adds ≡ split_indices (length classes)
sides-start classes heads adds sizes even all = by (length adds) refl
  where
    by : (n : ℕ) → length adds ≡ n → sides_left classes heads adds ≡ split_indices (length classes)
    by zero e = absurd (omega arith)
    by (suc m) e =
        let split = split-all m (length classes) (omega (arith, e)) in
        let longer : length adds ≡ m + 1 = omega (arith, e) in
        let positions : positions_below (length adds) (is_left classes heads) ≡ range_with_len 0 (m + 1) = positions-all (is_left classes heads) (length adds) all ∙ ap (range_with_len 0) longer in
        let twice : adds ≡ map (λ p. 2 * p) (range_with_len 0 (m + 1)) = even ∙ ap (λ k. map (λ p. 2 * p) (range_with_len 0 k)) longer in
        let each : map (slice_index adds) (range_with_len 0 (m + 1)) ≡ adds =
        sym (fill_by_all (slice_index adds) adds (m + 1) 0 longer (λ k within. refl)) in
        let first : map (slice_index adds) (positions_below (length adds) (is_left classes heads)) ≡ (split_indices (length classes)).adds =
        ap (map (slice_index adds)) positions ∙ each ∙ twice ∙ sym split.0 in
        let second : drop 1 (map remove_at (positions_below (length adds) (is_left classes heads))) ≡ (split_indices (length classes)).removes =
        ap (λ ps. drop 1 (map remove_at ps)) positions ∙ sym split.1 in
        λ t. record { adds = first t; removes = second t }
