-- A merge after writes at its simplified indices.
use Rattle.std.proofs.Common.{◌≡◌, ◌≢◌, ℕ, ◌+◌, ◌%◌, ◌<◌, suc, zero, Bool, cond, List, [], ◌∷◌, ◌++◌, length, map, Some, refl, ap, arith, get_or, sym, ◌∙◌, All, inl, inr}
use Rattle.std.specs.Prelude.{slice_get, slice_set, count_by, AllPairs}
use Rattle.std.specs.List.{AllZip}
use Rattle.std.specs.Cmp.{IsPartialEquivalence}
use Rattle.std.proofs.lemmas.List.{length-set, get_or-append-add, length-append, get_or_append_left, get_or_default}
use Rattle.std.proofs.lemmas.Option.{slice_get_cases}
use Rattle.std.proofs.lemmas.List.Elements.{All-head, All-tail}
use Rattle.std.proofs.lemmas.List.Sorted.{sum_by-IsPermutation}
use Rattle.std.proofs.lemmas.List.Sums.{sum_by-append, sum_by-cons}
use Rattle.jj_merges.proofs.TermwiseLaws.{simplified_in_range}
use Rattle.jj_merges.proofs.Cancellation.{All-prefix, equal_options, simplified_sides}
use Rattle.jj_merges.specs.Merge as merge
use Rattle.jj_merges.specs.Merge.{AreTermwiseEqual, HaveSameCounts, signed_count}
use Rattle.jj_merges.specs.Simplify.{equal_at, split_indices, simplified_indices, at_indices}
use Rattle.jj_merges.proofs.SimplifiedIndices.{count-pairs, count-at_indices, is_value_at, is_value_at-same, simplified_cancels_pairs, signed_counts_equal, adds-all, removes-all, adds-filter_map, removes-filter_map, AllHaveTerms}
use Rattle.jj_merges.proofs.SimplifiedLaws.{indices_permutation, sides-simplified, distinct-permutation}

module _ {T : Type 0} where
  -- the list after the values ns were written at the indices ps, in order
  abbrev pub written : List T → List ℕ → List T → List T
  written m [] ns = m
  written m (p ∷ ps) [] = m
  written m (p ∷ ps) (n ∷ ns) = written (slice_set m p n) ps ns

  pub length-written : (m : List T) (ps : List ℕ) (ns : List T) → length (written m ps ns) ≡ length m
  length-written m [] ns = refl
  length-written m (p ∷ ps) [] = refl
  length-written m (p ∷ ps) (n ∷ ns) = length-written (slice_set m p n) ps ns ∙ length-set m p n

  pub written_done : (m : List T) (ps : List ℕ) (ns : List T) → length ps ≡ 0 → written m ps ns ≡ m
  written_done m [] ns h = refl
  written_done m (p ∷ ps) ns h = absurd (omega arith)

  pub slice_get-set_other : (m : List T) (p q : ℕ) (x : T) → p ≢ q → slice_get (slice_set m p x) q ≡ slice_get m q
  slice_get-set_other [] p q x h = refl
  slice_get-set_other (y ∷ m) zero zero x h = absurd (h refl)
  slice_get-set_other (y ∷ m) zero (suc q) x h = refl
  slice_get-set_other (y ∷ m) (suc p) zero x h = refl
  slice_get-set_other (y ∷ m) (suc p) (suc q) x h = slice_get-set_other m p q x (λ e. h (ap suc e))

  pub slice_get-set_same : (m : List T) (p : ℕ) (x : T) → p < length m → slice_get (slice_set m p x) p ≡ Some x
  slice_get-set_same [] p x h = absurd (omega arith)
  slice_get-set_same (y ∷ m) zero x h = refl
  slice_get-set_same (y ∷ m) (suc p) x h = slice_get-set_same m p x (omega arith)

  -- other indices are unchanged
  pub slice_get-written : (m : List T) (ps : List ℕ) (ns : List T) (q : ℕ) → All (λ p. p ≢ q) ps → slice_get (written m ps ns) q ≡ slice_get m q
  slice_get-written m [] ns q h = refl
  slice_get-written m (p ∷ ps) [] q h = refl
  slice_get-written m (p ∷ ps) (n ∷ ns) q h =
      slice_get-written (slice_set m p n) ps ns q (All-tail (λ p. p ≢ q) p ps h) ∙ slice_get-set_other m p q n (All-head (λ p. p ≢ q) p ps h)

  -- reading the written values
  pub at_indices-written : (m : List T) (ps : List ℕ) (ns : List T) → length ns ≡ length ps → All (λ p. p < length m) ps → AllPairs (λ p q. p ≢ q) ps → at_indices (written m ps ns) ps ≡ ns
  at_indices-written m [] [] e h apart = refl
  at_indices-written m [] (n ∷ ns) e h apart = absurd (omega arith)
  at_indices-written m (p ∷ ps) [] e h apart = absurd (omega arith)
  at_indices-written m (p ∷ ps) (n ∷ ns) e h apart =
      let others : All (λ q. q ≢ p) ps = λ k d hk same. apart 0 (suc k) d (omega arith) (omega arith) (sym same) in
      let here : slice_get (written (slice_set m p n) ps ns) p ≡ Some n =
      slice_get-written (slice_set m p n) ps ns p others ∙ slice_get-set_same m p n (All-head (λ p. p < length m) p ps h) in
      let rest = at_indices-written (slice_set m p n) ps ns (omega arith)
      (λ k d hk. omega (arith, length-set m p n, h (suc k) d (omega arith)))
      (λ i j d hij hj. apart (suc i) (suc j) d (omega arith) (omega arith)) in
      rw here (ap (λ zs. n ∷ zs) rest)

  pub AllZip-set : (R : T → T → Type 0) (m u : List T) (p : ℕ) (n : T) → AllZip R m u → ((x : T) → slice_get m p ≡ Some x → R x n) → AllZip R m (slice_set u p n)
  AllZip-set R [] [] p n h f = h
  AllZip-set R [] (y ∷ u) p n h f = absurd h
  AllZip-set R (x ∷ m) [] p n h f = absurd h
  AllZip-set R (x ∷ m) (y ∷ u) zero n h f = (f x refl, h.1)
  AllZip-set R (x ∷ m) (y ∷ u) (suc p) n h f = (h.0, AllZip-set R m u p n h.1 f)

  -- a list stays termwise equal to m if the written values equal m's terms
  pub AllZip-written : (R : T → T → Type 0) (m u : List T) (ps : List ℕ) (ns : List T) → AllZip R m u → All (λ p. p < length m) ps → AllZip R (at_indices m ps) ns → AllZip R m (written u ps ns)
  AllZip-written R m u [] ns h r k = h
  AllZip-written R m u (p ∷ ps) [] h r k = h
  AllZip-written R m u (p ∷ ps) (n ∷ ns) h r k =
      elim (slice_get_cases m p).1 [
        | inl x ↦
            let both : AllZip R (x.0 ∷ at_indices m ps) (n ∷ ns) = rw x.2 at k in
            AllZip-written R m (slice_set u p n) ps ns
            (AllZip-set R m u p n h (λ y e. let same : Some y ≡ Some x.0 = sym e ∙ x.2 in let here : y ≡ x.0 = cc in rw here both.0))
            (All-tail (λ p. p < length m) p ps r) both.1
        | inr past ↦ absurd (omega (arith, past.0, All-head (λ p. p < length m) p ps r))
      ]

  pub AllZip-refl : (R : T → T → Type 0) → ((x : T) → R x x) → (m : List T) → AllZip R m m
  AllZip-refl R f [] = tt
  AllZip-refl R f (x ∷ m) = (f x, AllZip-refl R f m)

pub All-suffix : {X : Type 0} (P : X → Type 0) (xs ys : List X) → All P (xs ++ ys) → All P ys
All-suffix P xs ys h k d hk = rw (get_or-append-add xs ys k d) at (h (length xs + k) d (omega (arith, length-append xs ys)))

-- counts by two tests that agree
pub count-agree : (p q : ℕ → Bool) (xs : List ℕ) → All (λ x. p x ≡ q x) xs → count_by p xs ≡ count_by q xs
count-agree p q [] h = refl
count-agree p q (x ∷ xs) h =
    let f : ℕ → ℕ = λ y. cond (p y) 1 0 in
    let g : ℕ → ℕ = λ y. cond (q y) 1 0 in
    let here : f x ≡ g x = ap (λ b. cond b 1 0) (All-head (λ y. p y ≡ q y) x xs h) in
    omega (arith, sum_by-cons f x xs, sum_by-cons g x xs, here, count-agree p q xs (All-tail (λ y. p y ≡ q y) x xs h))

module _ {T : Type 0} (eq : T → T → Bool) where
  -- signed counts of u, which differs from m at simplified indices only
  pub update_counts : IsPartialEquivalence eq → (m u n : List T) (odd : length m % 2 ≡ 1) → length u ≡ length m → at_indices u (simplified_indices eq m) ≡ n
      → ((q : ℕ) → All (λ p. p ≢ q) (simplified_indices eq m) → slice_get u q ≡ slice_get m q) → HaveSameCounts eq u n
  update_counts laws m u n odd e at others v =
      let l = simplified_cancels_pairs eq m odd in
      let t = simplified_sides eq m in
      let s = split_indices (length m) in
      let ps = simplified_indices eq m in
      let a = map (λ p. p.0) l.pairs in
      let r = map (λ p. p.1) l.pairs in
      let apart = distinct-permutation (length m) (ps ++ (a ++ r)) (indices_permutation eq m odd) in
      let left_out : All (λ q. slice_get u q ≡ slice_get m q) (a ++ r) = λ k d hk.
      rw get_or-append-add at (others (get_or (ps ++ (a ++ r)) (length ps + k) d) (λ i d' hi same. apart i (length ps + k) d (omega arith) (omega (arith, length-append ps (a ++ r))) (get_or_append_left ps (a ++ r) d i hi ∙ (get_or_default ps i d d' hi ∙ same)))) in
      let now : ℕ → Bool = is_value_at eq u v in
      let before : ℕ → Bool = is_value_at eq m v in
      let agree : All (λ q. now q ≡ before q) (a ++ r) = λ k d hk. ap (λ o. equal_options eq (Some v) o) (left_out k d hk) in
      let on_adds = count-agree now before a (All-prefix (λ q. now q ≡ before q) a r agree) in
      let on_removes = count-agree now before r (All-suffix (λ q. now q ≡ before q) a r agree) in
      let pairs = count-pairs (equal_at eq m) before (is_value_at-same eq laws m v) l.pairs l.equal in
      let all_adds = ap (count_by (eq v)) (adds-all eq u ∙ ap (λ k. at_indices u (split_indices k).adds) e) ∙ count-at_indices eq u v s.adds in
      let all_removes = ap (count_by (eq v)) (removes-all eq u ∙ ap (λ k. at_indices u (split_indices k).removes) e) ∙ count-at_indices eq u v s.removes in
      let f : ℕ → ℕ = λ x. cond (now x) 1 0 in
      let cut_adds = sum_by-IsPermutation f s.adds (t.adds ++ a) l.adds in
      let cut_removes = sum_by-IsPermutation f s.removes (t.removes ++ r) l.removes in
      let found : AllHaveTerms (slice_get u) ps = λ k d hk.
      elim (slice_get_cases u (get_or ps k d)).1 [ inl x ↦ (x.0, x.2) | inr past ↦ absurd (omega (arith, past.0, simplified_in_range eq m odd k d hk, e)) ] in
      let kept_adds : count_by (eq v) (merge.adds n) ≡ count_by now t.adds =
      ap (λ xs. count_by (eq v) (merge.adds xs)) (sym at) ∙ (ap (count_by (eq v)) (adds-filter_map (slice_get u) ps found) ∙ (count-at_indices eq u v (merge.adds ps) ∙ ap (count_by now) (sides-simplified eq m odd).0)) in
      let kept_removes : count_by (eq v) (merge.removes n) ≡ count_by now t.removes =
      ap (λ xs. count_by (eq v) (merge.removes xs)) (sym at) ∙ (ap (count_by (eq v)) (removes-filter_map (slice_get u) ps found) ∙ (count-at_indices eq u v (merge.removes ps) ∙ ap (count_by now) (sides-simplified eq m odd).1)) in
      signed_counts_equal (count_by (eq v) (merge.adds u)) (count_by (eq v) (merge.removes u)) (count_by (eq v) (merge.adds n)) (count_by (eq v) (merge.removes n))
      (omega (arith, all_adds, all_removes, cut_adds, cut_removes, sum_by-append f t.adds a, sum_by-append f t.removes r, kept_adds, kept_removes, on_adds, on_removes, pairs))
