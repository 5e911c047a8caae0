-- Ranks of numbers: how many of them precede each, in the order of their times and then of the
-- numbers.
use Rattle.std.proofs.Common.{◌≡◌, ◌≢◌, ◌<◌, ◌≤◌, ◌+◌, ℕ, zero, suc, Bool, true, false, cond, ◌&&◌, ◌||◌, ◌==◌, List, [], ◌∷◌, length, refl, sym, ◌∙◌, ap, arith, true≢false, inl, inr, ◌⊎◌}
use Rattle.std.specs.Prelude.{nat_lt}
use Rattle.std.specs.List.{Contains, count_by}
use Rattle.std.specs.declared.cmp.Ordering.{Ordering}
use Rattle.std.specs.declared.cmp.Ordering.TheVariants.{Less, Equal, Greater}
use Rattle.std.specs.Ordering.{nat_cmp, ordering_then}
use Rattle.std.proofs.lemmas.Bool.Decides.{Decides-eqb, nat_tests}
use Rattle.std.proofs.lemmas.List.Sums.{sum_by-cons, count_by-le-length}
use Rattle.jj_dag.proofs.ReadyOrders.{here, later}

module _ (time : ℕ → ℕ) where
  -- a has an earlier time than b, or one time and a smaller number
  abbrev pub IsBefore : ℕ → ℕ → Type 0
  IsBefore a b = (time a < time b) ⊎ ((time a ≡ time b) × (a < b))

  abbrev pub is_before : ℕ → ℕ → Bool
  is_before a b = nat_lt (time a) (time b) || ((time a == time b) && nat_lt a b)

  -- how many of the numbers are before a
  abbrev pub rank : List ℕ → ℕ → ℕ
  rank ns a = count_by (λ m. is_before m a) ns

  before_true : (a b : ℕ) → IsBefore a b → is_before a b ≡ true
  before_true a b h = grind (arith, nat_tests)

  not_self : (a : ℕ) → is_before a a ≡ false
  not_self a = grind (arith, nat_tests)

  chained : (a b c : ℕ) → is_before a b ≡ true → is_before b c ≡ true → is_before a c ≡ true
  chained a b c h g = grind (arith, nat_tests)

  -- two numbers are equal, or one precedes the other
  pub three_ways : (a b : ℕ) → (a ≡ b) ⊎ (IsBefore a b ⊎ IsBefore b a)
  three_ways a b = grind (arith)

count_cons : {X : Type 0} (p : X → Bool) (x : X) (xs : List X) → count_by p (x ∷ xs) ≡ cond (p x) 1 0 + count_by p xs
count_cons p x xs = sum_by-cons (λ y. cond (p y) 1 0) x xs

one_more : (b c : Bool) → (b ≡ true → c ≡ true) → cond {A = ℕ} b 1 0 ≤ cond c 1 0
one_more true c h = rw (h refl) (omega arith)
one_more false c h = omega arith

-- more pass the weaker test
count_le : {X : Type 0} (p q : X → Bool) (xs : List X) → ((x : X) → p x ≡ true → q x ≡ true) → count_by p xs ≤ count_by q xs
count_le p q [] h = omega arith
count_le p q (x ∷ xs) h =
    let here_le = one_more (p x) (q x) (h x) in
    let rest = count_le p q xs h in
    rw (count_cons p x xs, count_cons q x xs) (omega arith)

count_lt : {X : Type 0} (p q : X → Bool) (xs : List X) (a : X) → ((x : X) → p x ≡ true → q x ≡ true) → Contains xs a → p a ≡ false → q a ≡ true → count_by p xs < count_by q xs
count_lt p q [] a h (k, lt, e) out in_q = absurd (omega arith)
count_lt p q (x ∷ xs) a h (zero, lt, e) out in_q =
    let first : cond {A = ℕ} (p x) 1 0 ≡ 0 = ap (λ y. cond {A = ℕ} (p y) 1 0) e ∙ ap (λ b. cond {A = ℕ} b 1 0) out in
    let second : cond {A = ℕ} (q x) 1 0 ≡ 1 = ap (λ y. cond {A = ℕ} (q y) 1 0) e ∙ ap (λ b. cond {A = ℕ} b 1 0) in_q in
    let rest = count_le p q xs h in
    rw (count_cons p x xs, count_cons q x xs) (omega arith)
count_lt p q (x ∷ xs) a h (suc k, lt, e) out in_q =
    let here_le = one_more (p x) (q x) (h x) in
    let rest = count_lt p q xs a h (k, omega arith, e) out in_q in
    rw (count_cons p x xs, count_cons q x xs) (omega arith)

module _ (time : ℕ → ℕ) (ns : List ℕ) where
  pub rank_grows : (a b : ℕ) → Contains ns a → IsBefore time a b → rank time ns a < rank time ns b
  rank_grows a b h lt =
      let t = before_true time a b lt in
      count_lt (λ m. is_before time m a) (λ m. is_before time m b) ns a (λ x e. chained time x a b e t) h (not_self time a) t

  pub rank_below : (a : ℕ) → rank time ns a ≢ suc (length ns)
  rank_below a e = let le = count_by-le-length (λ m. is_before time m a) ns in absurd (omega arith)

  pub rank_apart : (a b : ℕ) → Contains ns a → Contains ns b → rank time ns a ≡ rank time ns b → a ≡ b
  rank_apart a b in_a in_b e = elim (three_ways time a b) [
    | inl same ↦ same
    | inr r ↦ elim r [
      | inl lt ↦ let g = rank_grows a b in_a lt in absurd (omega arith)
      | inr gt ↦ let g = rank_grows b a in_b gt in absurd (omega arith)
    ]
  ]

  -- a greater rank is that of a later number
  pub rank_tells : (a b : ℕ) → Contains ns a → Contains ns b → rank time ns a < rank time ns b → IsBefore time a b
  rank_tells a b in_a in_b lt = elim (three_ways time a b) [
    | inl same ↦ let e = ap (rank time ns) same in absurd (omega arith)
    | inr r ↦ elim r [
      | inl before ↦ before
      | inr gt ↦ let g = rank_grows b a in_b gt in absurd (omega arith)
    ]
  ]

  -- the first of some numbers that has this rank
  abbrev pub first_ranked : List ℕ → ℕ → ℕ
  first_ranked [] r = 0
  first_ranked (m ∷ ms) r = cond (rank time ns m == r) m (first_ranked ms r)

  abbrev pub number_ranked : ℕ → ℕ
  number_ranked r = first_ranked ns r

  pub ranked_back : (a : ℕ) → Contains ns a → number_ranked (rank time ns a) ≡ a
  ranked_back a h = along ns a (λ m k. k) h
    where
      along : (ms : List ℕ) (a : ℕ) → ((m : ℕ) → Contains ms m → Contains ns m) → Contains ms a → first_ranked ms (rank time ns a) ≡ a
      along [] a among (k, lt, e) = absurd (omega arith)
      along (m ∷ ms) a among h =
          let P : Bool → Type 0 = λ b. (rank time ns m == rank time ns a) ≡ b → cond b m (first_ranked ms (rank time ns a)) ≡ a in
          elim (rank time ns m == rank time ns a) as P [
            | true ↦ λ e. rank_apart m a (among m (here m ms)) (among a h) ((Decides-eqb (rank time ns m) (rank time ns a)).0 e)
            | false ↦ λ e. along ms a (λ x k. among x (later m ms x k)) (behind h e)
          ] refl
        where
          behind : Contains (m ∷ ms) a → (rank time ns m == rank time ns a) ≡ false → Contains ms a
          behind (zero, lt, q) e = absurd (true≢false (sym ((Decides-eqb (rank time ns m) (rank time ns a)).1 (ap (rank time ns) q)) ∙ e))
          behind (suc k, lt, q) e = (k, omega arith, q)

  -- the times, and then the numbers, compare as the ranks do
  pub rank_compares : (a b : ℕ) (tie : Ordering) → Contains ns a → Contains ns b → (a ≡ b → tie ≡ Equal)
      → ordering_then (nat_cmp (time a) (time b)) (ordering_then (nat_cmp a b) tie) ≡ nat_cmp (rank time ns a) (rank time ns b)
  rank_compares a b tie in_a in_b tied = elim (three_ways time a b) [
    | inl same ↦ let e = tied same in let r = ap (rank time ns) same in let t = ap time same in level (time a) (time b) a b (rank time ns a) (rank time ns b) t same e r
    | inr r ↦ elim r [
      | inl lt ↦ below (time a) (time b) a b (rank time ns a) (rank time ns b) lt (rank_grows a b in_a lt)
      | inr gt ↦ above (time a) (time b) a b (rank time ns a) (rank time ns b) gt (rank_grows b a in_b gt)
    ]
  ]
    where
      is_equal : (x y : ℕ) → x ≡ y → nat_cmp x y ≡ Equal
      is_equal x y e = grind (arith, nat_tests)

      is_less : (x y : ℕ) → x < y → nat_cmp x y ≡ Less
      is_less x y lt = grind (arith, nat_tests)

      is_greater : (x y : ℕ) → y < x → nat_cmp x y ≡ Greater
      is_greater x y gt = grind (arith, nat_tests)

      level : (s t a b p q : ℕ) → s ≡ t → a ≡ b → tie ≡ Equal → p ≡ q → ordering_then (nat_cmp s t) (ordering_then (nat_cmp a b) tie) ≡ nat_cmp p q
      level s t a b p q st ab e pq = rw (is_equal s t st, is_equal a b ab, is_equal p q pq) e

      below : (s t a b p q : ℕ) → (s < t) ⊎ ((s ≡ t) × (a < b)) → p < q → ordering_then (nat_cmp s t) (ordering_then (nat_cmp a b) tie) ≡ nat_cmp p q
      below s t a b p q (inl lt) r = rw (is_less s t lt, is_less p q r) refl
      below s t a b p q (inr (e, lt)) r = rw (is_equal s t e, is_less a b lt, is_less p q r) refl

      above : (s t a b p q : ℕ) → (t < s) ⊎ ((t ≡ s) × (b < a)) → q < p → ordering_then (nat_cmp s t) (ordering_then (nat_cmp a b) tie) ≡ nat_cmp p q
      above s t a b p q (inl gt) r = rw (is_greater s t gt, is_greater p q r) refl
      above s t a b p q (inr (e, gt)) r = rw (is_equal s t (sym e), is_greater a b gt, is_greater p q r) refl
