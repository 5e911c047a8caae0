-- The positions that pass a test, and the ones that are left when one of them is dropped.
use Rattle.std.proofs.Common.{◌≡◌, ◌∙◌, ℕ, zero, suc, ◌+◌, ◌-◌, ◌<◌, ◌≤◌, Bool, true, false, cond, [], ◌∷◌, ◌++◌, length, refl, ap, sym, subst, arith, get_or, remove, ⊎_elim}
use Rattle.std.specs.List.{range_with_len}
use Rattle.std.proofs.lemmas.Bool.{cases_Bool, cases_eq, cases_lt}
use Rattle.std.proofs.lemmas.List.{append-nil, get_or_append_left, get_or_push, length_push}
use Rattle.std.proofs.lemmas.List.Edits.{length-remove, remove-append_left, remove-append_right}
use Rattle.jj_merges.proofs.SideAppend.{range_with_len-push}
use Rattle.jj_program.specs.MergeSimplify.{positions_below}

-- the number of positions below q that pass
abbrev pub rank : (ℕ → Bool) → ℕ → ℕ
rank test q = length (positions_below q test)

module _ (test : ℕ → Bool) where
  pub positions-passes : (q : ℕ) → test q ≡ true → positions_below (suc q) test ≡ positions_below q test ++ q ∷ []
  positions-passes q h = ap (λ (b : Bool). positions_below q test ++ cond b (q ∷ []) []) h

  pub positions-fails : (q : ℕ) → test q ≡ false → positions_below (suc q) test ≡ positions_below q test
  positions-fails q h = ap (λ (b : Bool). positions_below q test ++ cond b (q ∷ []) []) h ∙ append-nil (positions_below q test)

  pub rank-passes : (q : ℕ) → test q ≡ true → rank test (suc q) ≡ rank test q + 1
  rank-passes q h = ap length (positions-passes q h) ∙ length_push (positions_below q test) q

  pub rank-fails : (q : ℕ) → test q ≡ false → rank test (suc q) ≡ rank test q
  rank-fails q h = ap length (positions-fails q h)

  rank-step : (q : ℕ) → rank test q ≤ rank test (suc q)
  rank-step q = ⊎_elim (λ h. omega (arith, rank-passes q h)) (λ h. omega (arith, rank-fails q h)) (cases_Bool (test q))

  pub rank-grows : (q n : ℕ) → q ≤ n → rank test q ≤ rank test n
  rank-grows q zero h = let e : q ≡ 0 = omega arith in omega (arith, ap (rank test) e)
  rank-grows q (suc n) h = ⊎_elim
      (λ (above : n < q). let e : q ≡ suc n = omega arith in omega (arith, ap (rank test) e))
      (λ (below : q ≤ n). omega (arith, rank-grows q n below, rank-step n))
      (cases_lt n q)

  pub rank-below : (q n : ℕ) → test q ≡ true → q < n → rank test q < rank test n
  rank-below q n h less = omega (arith, rank-passes q h, rank-grows (suc q) n (omega arith))

  last-at : (n d : ℕ) → test n ≡ true → get_or (positions_below (suc n) test) (rank test n) d ≡ n
  last-at n d h = ap (λ ps. get_or ps (rank test n) d) (positions-passes n h) ∙ get_or_push (positions_below n test) n d (rank test n) refl

  pub position-at : (n q d : ℕ) → test q ≡ true → q < n → get_or (positions_below n test) (rank test q) d ≡ q
  position-at zero q d h less = absurd (omega arith)
  position-at (suc n) q d h less = ⊎_elim
      (λ (e : q ≡ n). subst (λ k. get_or (positions_below (suc n) test) (rank test k) d ≡ k) (sym e) (last-at n d (subst (λ k. test k ≡ true) e h)))
      (λ other. let below : q < n = omega arith in
      get_or_append_left (positions_below n test) (cond (test n) (n ∷ []) []) d (rank test q) (rank-below q n h below) ∙ position-at n q d h below)
      (cases_eq q n)

  -- p is the position below n with j passing ones before it
  abbrev pub HasRank : ℕ → ℕ → ℕ → Type 0
  HasRank n j p = (p < n) × (test p ≡ true) × (rank test p ≡ j)

  pub position-ranked : (n j d : ℕ) → j < rank test n → HasRank n j (get_or (positions_below n test) j d)
  position-ranked zero j d h = absurd (omega arith)
  position-ranked (suc n) j d h = ⊎_elim
      (λ (below : j < rank test n).
      let there = get_or_append_left (positions_below n test) (cond (test n) (n ∷ []) []) d j below in
      let ranked = position-ranked n j d below in
      subst (HasRank (suc n) j) (sym there) (omega (arith, ranked.0), ranked.1, ranked.2))
      (λ (above : rank test n ≤ j). ⊎_elim
      (λ (yes : test n ≡ true).
      let e : j ≡ rank test n = omega (arith, rank-passes n yes) in
      let there : get_or (positions_below (suc n) test) j d ≡ n = ap (λ k. get_or (positions_below (suc n) test) k d) e ∙ last-at n d yes in
      subst (HasRank (suc n) j) (sym there) (omega arith, yes, sym e))
      (λ (no : test n ≡ false). absurd (omega (arith, rank-fails n no)))
      (cases_Bool (test n)))
      (cases_lt j (rank test n))

  pub positions-all : (n : ℕ) → ((p : ℕ) → p < n → test p ≡ true) → positions_below n test ≡ range_with_len 0 n
  positions-all zero all = refl
  positions-all (suc n) all =
      let before = positions-all n (λ p less. all p (omega arith)) in
      let at : 0 + n ≡ n = omega arith in
      positions-passes n (all n (omega arith)) ∙ ap (λ ps. ps ++ n ∷ []) before ∙ sym (range_with_len-push 0 n ∙ ap (λ k. range_with_len 0 n ++ k ∷ []) at)

module _ (test other : ℕ → Bool) where
  pub positions-agree : (n : ℕ) → ((p : ℕ) → p < n → other p ≡ test p) → positions_below n other ≡ positions_below n test
  positions-agree zero h = refl
  positions-agree (suc n) h =
      let before = positions-agree n (λ p less. h p (omega arith)) in
      let here = h n (omega arith) in
      λ i. before i ++ cond (here i) (n ∷ []) []

  -- `other` passes all that `test` does but q
  pub positions-dropped : (n q : ℕ) → q < n → test q ≡ true → other q ≡ false → ((p : ℕ) → p < n → (p ≡ q → ⊥) → other p ≡ test p)
      → positions_below n other ≡ remove (positions_below n test) (rank test q)
  positions-dropped zero q less passes fails rest = absurd (omega arith)
  positions-dropped (suc n) q less passes fails rest = ⊎_elim
      (λ (e : q ≡ n).
      let before = positions-agree n (λ p below. rest p (omega arith) (λ same. absurd (omega arith))) in
      let none : rank test n - rank test n ≡ 0 = omega arith in
      let removed : remove (positions_below (suc n) test) (rank test n) ≡ positions_below n test =
      ap (λ ps. remove ps (rank test n)) (positions-passes test n (subst (λ k. test k ≡ true) e passes))
      ∙ remove-append_right (positions_below n test) (n ∷ []) (rank test n) (rank test n) refl (omega arith)
      ∙ ap (λ k. positions_below n test ++ remove (n ∷ []) k) none ∙ append-nil (positions_below n test) in
      positions-fails other n (subst (λ k. other k ≡ false) e fails) ∙ before ∙ sym removed ∙ ap (λ k. remove (positions_below (suc n) test) (rank test k)) (sym e))
      (λ apart.
      let below : q < n = omega arith in
      let before = positions-dropped n q below passes fails (λ p under. rest p (omega arith)) in
      let here = rest n (omega arith) (λ same. apart (sym same)) in
      let both : positions_below (suc n) other ≡ remove (positions_below n test) (rank test q) ++ cond (test n) (n ∷ []) [] = λ i. before i ++ cond (here i) (n ∷ []) [] in
      both ∙ sym (remove-append_left (positions_below n test) (cond (test n) (n ∷ []) []) (rank test q) (rank-below test q n passes below)))
      (cases_eq q n)

  pub rank-dropped : (n q : ℕ) → q < n → test q ≡ true → other q ≡ false → ((p : ℕ) → p < n → (p ≡ q → ⊥) → other p ≡ test p)
      → rank other n + 1 ≡ rank test n
  rank-dropped n q less passes fails rest =
      omega (arith, ap length (positions-dropped n q less passes fails rest), length-remove (positions_below n test) (rank test q) (rank-below test q n passes less))
