-- Signed counts of clones, repeated and padded merges, diffs, options, and after `swap_remove`.
use Rattle.std.proofs.Common.{◌≡◌, ℕ, ◌+◌, ◌%◌, ◌<◌, Bool, true, false, cond, List, [], ◌∷◌, length, map, Some, None, Option, Ok, Err, Result, OnErr, OnOk, length-append, ◌*◌, refl, ap, arith, sym, ◌∙◌, get_or, inl, inr, ◌⊎◌}
use Rattle.std.specs.Prelude.{count_by, slice_get, pos, ◌+ℤ◌, ◌-ℤ◌}
use Rattle.std.specs.Cmp.{IsPartialEquivalence}
use Rattle.std.specs.List.{AllZip, AllClonesOf, AppendsClonesOf, swap_remove}
use Rattle.std.proofs.lemmas.Int.{ints}
use Rattle.std.proofs.lemmas.List.Sums.{sum_by-cons, sum_by-swap_remove}
use Rattle.jj_merges.specs.declared.merge.diffs.Diff.{Diff}
use Rattle.jj_merges.specs.Merge.{adds, removes, signed_count}
use Rattle.jj_merges.specs.Sources.{diff_terms}
use Rattle.jj_merges.specs.Options.{present}
use Rattle.jj_merges.specs.Counts.{count_difference, count_of_single, HaveCountsOfClones, ExtendsToOptions}
use Rattle.jj_merges.proofs.TermwiseLaws.{AllZip-weaker, equal_alike, HaveSameCounts-AreTermwiseEqual}
use Rattle.jj_merges.proofs.ImageCounts.{same_zero}
use Rattle.jj_merges.proofs.FlattenLaws.{signed_count-append}
use Rattle.jj_merges.proofs.Sides.{length-adds, length-removes}
use Rattle.std.proofs.lemmas.Option.{get_or_from_slice_get}

pub on_ok_both : {T E A B C : Type 0} (r : Result T E) → (A → B → C) → OnOk r A → OnOk r B → OnOk r C
on_ok_both (Ok x) f a b = f a b
on_ok_both (Err e) f a b = tt

pub by_result : {T E A B C : Type 0} (r : Result T E) → OnOk r A → OnErr r B → (A → C) → (B → C) → C
by_result (Ok x) a b f h = f a
by_result (Err e) a b f h = h b

count-single : {T : Type 0} (p : T → Bool) (x : T) → count_by p (x ∷ []) ≡ cond {A = ℕ} (p x) 1 0
count-single {T} p x =
    let f : T → ℕ = λ y. cond (p y) 1 0 in
    omega (arith, sum_by-cons f x [])

module _ {T : Type 0} (clones : T → T → Type 0) where
  pub clones_counts : (m n : List T) → AllZip clones m n → HaveCountsOfClones clones m n
  clones_counts m n h eq laws respects =
      HaveSameCounts-AreTermwiseEqual eq laws m n m (AllZip-weaker clones (λ x y. eq x y ≡ true) respects m n h) (λ v. refl)

  module _ (eq : T → T → Bool) (laws : IsPartialEquivalence eq) (respects : (x y : T) → clones x y → eq x y ≡ true) (x v : T) where
    alike : (y : T) → (y ≡ x) ⊎ clones x y → eq v y ≡ eq v x
    alike y (inl e) = ap (eq v) e
    alike y (inr c) = sym (equal_alike eq laws v x y (respects x y c))

    -- either all clones of x are counted or none
    count-copies : (ys : List T) → AllClonesOf clones x ys → count_by (eq v) ys ≡ cond (eq v x) (length ys) 0
    count-copies [] h = sym (same_zero (eq v x))
    count-copies (y ∷ ys) h =
        let more : cond (eq v y) 1 0 + count_by (eq v) ys ≡ cond (eq v x) (length (y ∷ ys)) 0 =
        ap (λ b. cond b 1 0 + count_by (eq v) ys) (alike y h.0) ∙ (ap (λ n. cond (eq v x) 1 0 + n) (count-copies ys h.1)
        ∙ elim (eq v x) as (λ b. cond b 1 0 + cond b (length ys) 0 ≡ cond b (length (y ∷ ys)) 0) [
          | true ↦ omega arith
          | false ↦ refl
        ]) in
        sum_by-cons (λ z. cond (eq v z) 1 0) y ys ∙ more

  mutual
    adds-copies : (x : T) (ys : List T) → AllClonesOf clones x ys → AllClonesOf clones x (adds ys)
    adds-copies x [] h = tt
    adds-copies x (y ∷ ys) h = (h.0, removes-copies x ys h.1)

    removes-copies : (x : T) (ys : List T) → AllClonesOf clones x ys → AllClonesOf clones x (removes ys)
    removes-copies x [] h = tt
    removes-copies x (y ∷ ys) h = adds-copies x ys h.1

  -- an odd number of clones has the count of one
  pub repeated_counts : (x : T) (ys : List T) (n : ℕ) → AllClonesOf clones x ys → length ys + 1 ≡ 2 * n → HaveCountsOfClones clones (x ∷ []) ys
  repeated_counts x ys n h long eq laws respects v =
      let a = count-copies eq laws respects x v (adds ys) (adds-copies x ys h) in
      let r = count-copies eq laws respects x v (removes ys) (removes-copies x ys h) in
      let more : length (adds ys) ≡ length (removes ys) + 1 = omega (arith, length-adds ys, length-removes ys, long) in
      ap (λ k. pos k -ℤ pos (count_by (eq v) (removes ys))) a
      ∙ (ap (λ k. pos (cond (eq v x) (length (adds ys)) 0) -ℤ pos k) r
      ∙ (elim (eq v x) as (λ b. pos (cond b (length (adds ys)) 0) -ℤ pos (cond b (length (removes ys)) 0) ≡ pos (cond b 1 0) -ℤ pos 0) [
        | true ↦ omega (arith, ints, more)
        | false ↦ refl
      ] ∙ ap (λ k. pos k -ℤ pos 0) (sym (count-single (eq v) x))))

  -- an even number of clones has count 0
  count-even_copies : (x : T) (ys : List T) → AllClonesOf clones x ys → length ys % 2 ≡ 0 → (eq : T → T → Bool) → IsPartialEquivalence eq → ((x y : T) → clones x y → eq x y ≡ true) → (v : T) → signed_count eq ys v ≡ pos 0
  count-even_copies x ys h even eq laws respects v =
      let a = count-copies eq laws respects x v (adds ys) (adds-copies x ys h) in
      let r = count-copies eq laws respects x v (removes ys) (removes-copies x ys h) in
      let same : length (adds ys) ≡ length (removes ys) = omega (arith, length-adds ys, length-removes ys, even) in
      ap (λ k. pos k -ℤ pos (count_by (eq v) (removes ys))) a
      ∙ (ap (λ k. pos (cond (eq v x) (length (adds ys)) 0) -ℤ pos k) r
      ∙ elim (eq v x) as (λ b. pos (cond b (length (adds ys)) 0) -ℤ pos (cond b (length (removes ys)) 0) ≡ pos 0) [
        | true ↦ omega (arith, ints, same)
        | false ↦ refl
      ])

  pub padded_counts : (old new : List T) (x : T) → length old % 2 ≡ 1 → length new % 2 ≡ 1 → AppendsClonesOf clones old new x → HaveCountsOfClones clones old new
  padded_counts old new x odd long h eq laws respects v =
      let even : length h.0 % 2 ≡ 0 = omega (arith, odd, long, ap length h.1, length-append old h.0) in
      ap (λ xs. signed_count eq xs v) h.1
      ∙ (signed_count-append eq v old h.0 odd
      ∙ (ap (λ z. signed_count eq old v -ℤ z) (count-even_copies x h.0 h.2 even eq laws respects v) ∙ omega (arith, ints)))

module _ {T : Type 0} where
  one : (eq : T → T → Bool) (x v : T) → count_of_single eq x v ≡ pos (cond (eq v x) 1 0)
  one eq x v = elim (eq v x) as (λ b. cond b (pos 1) (pos 0) ≡ pos (cond b 1 0)) [
    | true ↦ refl
    | false ↦ refl
  ]

  -- after a remove and an add were removed
  pub count-swap_remove : (eq : T → T → Bool) (v : T) (m n : List T) (r a : ℕ) (remove add : T) → r < length (removes m) → a < length (adds m)
      → slice_get (removes m) r ≡ Some remove → slice_get (adds m) a ≡ Some add
      → removes n ≡ swap_remove (removes m) r remove → adds n ≡ swap_remove (adds m) a add
      → signed_count eq n v ≡ (signed_count eq m v -ℤ count_of_single eq add v) +ℤ count_of_single eq remove v
  count-swap_remove eq v m n r a remove add hr ha er ea rest_removes rest_adds =
      let f : T → ℕ = λ x. cond (eq v x) 1 0 in
      let gr : get_or (removes m) r remove ≡ remove = get_or_from_slice_get (removes m) r remove remove er in
      let ga : get_or (adds m) a add ≡ add = get_or_from_slice_get (adds m) a add add ea in
      let ir : count_by (eq v) (removes n) + f remove ≡ count_by (eq v) (removes m) =
      ap (λ xs. count_by (eq v) xs + f remove) rest_removes ∙ (ap (λ x. count_by (eq v) (swap_remove (removes m) r remove) + f x) (sym gr) ∙ sum_by-swap_remove f (removes m) r remove hr) in
      let ia : count_by (eq v) (adds n) + f add ≡ count_by (eq v) (adds m) =
      ap (λ xs. count_by (eq v) xs + f add) rest_adds ∙ (ap (λ x. count_by (eq v) (swap_remove (adds m) a add) + f x) (sym ga) ∙ sum_by-swap_remove f (adds m) a add ha) in
      omega (arith, ints, ir, ia, one eq add v, one eq remove v)

  adds-diffs : (ds : List (Diff T)) → removes (diff_terms ds) ≡ map (λ d. d.after) ds
  adds-diffs [] = refl
  adds-diffs (d ∷ ds) = ap (λ xs. d.after ∷ xs) (adds-diffs ds)

  removes-diffs : (ds : List (Diff T)) → adds (diff_terms ds) ≡ map (λ d. d.before) ds
  removes-diffs [] = refl
  removes-diffs (d ∷ ds) = ap (λ xs. d.before ∷ xs) (removes-diffs ds)

  pub diffs_counts : (first : T) (ds : List (Diff T)) (eq : T → T → Bool) (v : T) → signed_count eq (first ∷ diff_terms ds) v ≡ count_difference eq (first ∷ map (λ d. d.after) ds) (map (λ d. d.before) ds) v
  diffs_counts first ds eq v = ap (λ xs. count_difference eq (first ∷ xs) (adds (diff_terms ds)) v) (adds-diffs ds) ∙ ap (λ xs. count_difference eq (first ∷ map (λ d. d.after) ds) xs v) (removes-diffs ds)

  count-present : (eq : T → T → Bool) (on : Option T → Option T → Bool) → ExtendsToOptions eq on → (v : T) (xs : List (Option T)) → count_by (on (Some v)) xs ≡ count_by (eq v) (present xs)
  count-present eq on h v [] = refl
  count-present eq on h v (None ∷ xs) =
      let f : Option T → ℕ = λ x. cond (on (Some v) x) 1 0 in
      let none : f None ≡ 0 = ap (λ b. cond {A = ℕ} b 1 0) (h.absent v) in
      omega (arith, sum_by-cons f None xs, none, count-present eq on h v xs)
  count-present eq on h v (Some x ∷ xs) =
      let f : Option T → ℕ = λ x. cond (on (Some v) x) 1 0 in
      let g : T → ℕ = λ y. cond (eq v y) 1 0 in
      let here : f (Some x) ≡ g x = ap (λ b. cond {A = ℕ} b 1 0) (h.both v x) in
      omega (arith, sum_by-cons f (Some x) xs, sum_by-cons g x (present xs), here, count-present eq on h v xs)

  pub legacy_counts : (m : List (Option T)) (eq : T → T → Bool) (on : Option T → Option T → Bool) → ExtendsToOptions eq on → (v : T) → signed_count on m (Some v) ≡ count_difference eq (present (adds m)) (present (removes m)) v
  legacy_counts m eq on h v =
      ap (λ k. pos k -ℤ pos (count_by (on (Some v)) (removes m))) (count-present eq on h v (adds m))
      ∙ ap (λ k. pos (count_by (eq v) (present (adds m))) -ℤ pos k) (count-present eq on h v (removes m))
