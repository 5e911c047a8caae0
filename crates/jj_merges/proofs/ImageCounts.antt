-- Signed counts of images, as sums over distinct terms.
use Rattle.std.proofs.Common.{◌≡◌, ℕ, suc, ◌+◌, Bool, true, false, not, ◌||◌, cond, List, [], ◌∷◌, All, refl, ap, arith, sym, ◌∙◌, get_or, true≢false}
use Rattle.std.specs.Prelude.{count_by, sum_by, filter, Contains, pos, ◌-ℤ◌}
use Rattle.std.specs.Cmp.{IsEquivalence, IsPartialEquivalence}
use Rattle.std.specs.List.{AllZip, list_any}
use Rattle.std.proofs.lemmas.Int.{ints}
use Rattle.std.proofs.lemmas.List.Elements.{All-head, All-tail}
use Rattle.std.proofs.lemmas.List.Folds.{list_any_at}
use Rattle.std.proofs.lemmas.List.Sums.{sum_by-cons}
use Rattle.jj_merges.specs.Merge.{adds, removes, signed_count}
use Rattle.jj_merges.specs.Calls.{CallsReturn}
use Rattle.jj_merges.specs.Counts.{distinct, sum_if, HaveCountsOfImages}
use Rattle.jj_merges.proofs.TermwiseLaws.{AllZip-adds, AllZip-removes, equal_alike}
use Rattle.jj_merges.proofs.SimplifiedIndices.{All-adds, All-removes}

sum_by-split : {X : Type 0} (f g h : X → ℕ) → ((x : X) → f x ≡ g x + h x) → (xs : List X) → sum_by f xs ≡ sum_by g xs + sum_by h xs
sum_by-split f g h e [] = refl
sum_by-split f g h e (x ∷ xs) = omega (arith, sum_by-cons f x xs, sum_by-cons g x xs, sum_by-cons h x xs, e x, sum_by-split f g h e xs)

sum_by-zero : {X : Type 0} (f : X → ℕ) → ((x : X) → f x ≡ 0) → (xs : List X) → sum_by f xs ≡ 0
sum_by-zero f e [] = refl
sum_by-zero f e (x ∷ xs) = omega (arith, sum_by-cons f x xs, e x, sum_by-zero f e xs)

pub same_zero : (b : Bool) → cond {A = ℕ} b 0 0 ≡ 0
same_zero true = refl
same_zero false = refl

module _ {T : Type 0} (same : T → T → Bool) (laws : IsEquivalence same) (p : T → Bool) (keeps : (x y : T) → same x y ≡ true → p x ≡ p y) where
  -- 1 if v passes the test and equals x, else 0
  abbrev hit : T → T → ℕ
  hit x v = cond (p v) (cond (same v x) 1 0) 0

  hit-false : (x v : T) → same v x ≡ false → hit x v ≡ 0
  hit-false x v e = ap (λ b. cond {A = ℕ} (p v) (cond b 1 0) 0) e ∙ same_zero (p v)

  hit-true : (x v : T) → same v x ≡ true → hit x v ≡ cond {A = ℕ} (p x) 1 0
  hit-true x v e = ap (λ b. cond {A = ℕ} (p v) (cond b 1 0) 0) e ∙ ap (λ b. cond {A = ℕ} b 1 0) (keeps v x e)

  abbrev others : T → List T → List T
  others y = filter (λ v. not (same y v))

  -- if y equals x, no value that differs from y equals x
  hits-others_equal : (y x : T) → same y x ≡ true → (vs : List T) → sum_by (hit x) (others y vs) ≡ 0
  hits-others_equal y x e [] = refl
  hits-others_equal y x e (v ∷ vs) =
      elim (same y v) as (λ b. same y v ≡ b → sum_by (hit x) (cond (not b) (v ∷ others y vs) (others y vs)) ≡ 0) [
        | true ↦ λ i. hits-others_equal y x e vs
        | false ↦ λ i.
            let apart : same v x ≡ false = laws.symm v x ∙ (sym (laws.congr y x v e) ∙ i) in
            omega (arith, sum_by-cons (hit x) v (others y vs), hit-false x v apart, hits-others_equal y x e vs)
      ] refl

  -- if y differs from x, no value that equals y equals x
  hits-others_apart : (y x : T) → same y x ≡ false → (vs : List T) → sum_by (hit x) (others y vs) ≡ sum_by (hit x) vs
  hits-others_apart y x e [] = refl
  hits-others_apart y x e (v ∷ vs) =
      elim (same y v) as (λ b. same y v ≡ b → sum_by (hit x) (cond (not b) (v ∷ others y vs) (others y vs)) ≡ sum_by (hit x) (v ∷ vs)) [
        | true ↦ λ i.
            let apart : same v x ≡ false = sym (laws.congr y v x i) ∙ e in
            omega (arith, sum_by-cons (hit x) v vs, hit-false x v apart, hits-others_apart y x e vs)
        | false ↦ λ i. omega (arith, sum_by-cons (hit x) v (others y vs), sum_by-cons (hit x) v vs, hits-others_apart y x e vs)
      ] refl

  -- exactly one distinct value of m equals x, if m contains one
  one_hit : (x : T) (m : List T) → list_any (λ y. same y x) m ≡ true → sum_by (hit x) (distinct same m) ≡ cond (p x) 1 0
  one_hit x [] h = absurd (true≢false (sym h))
  one_hit x (y ∷ m) h =
      elim (same y x) as (λ b. same y x ≡ b → (b || list_any (λ y. same y x) m) ≡ true → sum_by (hit x) (distinct same (y ∷ m)) ≡ cond (p x) 1 0) [
        | true ↦ λ e k. omega (arith, sum_by-cons (hit x) y (others y (distinct same m)), hit-true x y e, hits-others_equal y x e (distinct same m))
        | false ↦ λ e k. omega (arith, sum_by-cons (hit x) y (others y (distinct same m)), hit-false x y e, hits-others_apart y x e (distinct same m), one_hit x m k)
      ] refl h

  -- the count of v in xs if v passes the test, else 0
  abbrev chosen_count : List T → T → ℕ
  chosen_count xs v = cond (p v) (count_by (same v) xs) 0

  chosen_count-cons : (x : T) (xs : List T) (v : T) → chosen_count (x ∷ xs) v ≡ hit x v + chosen_count xs v
  chosen_count-cons x xs v =
      elim (p v) as (λ b. cond b (count_by (same v) (x ∷ xs)) 0 ≡ cond b (cond (same v x) 1 0) 0 + cond b (count_by (same v) xs) 0) [
        | true ↦ sum_by-cons (λ y. cond (same v y) 1 0) x xs
        | false ↦ refl
      ]

  -- all values of xs are in m
  count-distinct : (m xs : List T) → All (λ x. list_any (λ y. same y x) m ≡ true) xs → count_by p xs ≡ sum_by (chosen_count xs) (distinct same m)
  count-distinct m [] h = sym (sum_by-zero (chosen_count []) (λ v. same_zero (p v)) (distinct same m))
  count-distinct m (x ∷ xs) h =
      let P : T → Type 0 = λ x. list_any (λ y. same y x) m ≡ true in
      omega (
        arith,
        sum_by-cons (λ y. cond (p y) 1 0) x xs,
        sum_by-split (chosen_count (x ∷ xs)) (hit x) (chosen_count xs) (chosen_count-cons x xs) (distinct same m),
        one_hit x m (All-head P x xs h),
        count-distinct m xs (All-tail P x xs h),
      )

  all_listed : (m : List T) → All (λ x. list_any (λ y. same y x) m ≡ true) m
  all_listed m k d h = list_any_at (λ y. same y (get_or m k d)) m k d h (laws.refl (get_or m k d))

  -- sums of differences are differences of sums
  sum_if-counts : (m vs : List T) → sum_if (signed_count same m) p vs ≡ pos (sum_by (chosen_count (adds m)) vs) -ℤ pos (sum_by (chosen_count (removes m)) vs)
  sum_if-counts m [] = refl
  sum_if-counts m (v ∷ vs) =
      let here : cond (p v) (signed_count same m v) (pos 0) ≡ pos (chosen_count (adds m) v) -ℤ pos (chosen_count (removes m) v) =
      elim (p v) as (λ b. cond b (signed_count same m v) (pos 0) ≡ pos (cond b (count_by (same v) (adds m)) 0) -ℤ pos (cond b (count_by (same v) (removes m)) 0)) [
        | true ↦ refl
        | false ↦ refl
      ] in
      omega (arith, ints, here, sum_if-counts m vs, sum_by-cons (chosen_count (adds m)) v vs, sum_by-cons (chosen_count (removes m)) v vs)

  -- the signed count of all values that pass the test
  count-chosen : (m : List T) → pos (count_by p (adds m)) -ℤ pos (count_by p (removes m)) ≡ sum_if (signed_count same m) p (distinct same m)
  count-chosen m =
      let P : T → Type 0 = λ x. list_any (λ y. same y x) m ≡ true in
      let a = count-distinct m (adds m) (All-adds P m (all_listed m)) in
      let r = count-distinct m (removes m) (All-removes P m (all_listed m)) in
      ap (λ n. pos n -ℤ pos (count_by p (removes m))) a
      ∙ (ap (λ n. pos (sum_by (chosen_count (adds m)) (distinct same m)) -ℤ pos n) r
      ∙ sym (sum_if-counts m (distinct same m)))

Contains-here : {X : Type 0} (x : X) (xs : List X) → Contains (x ∷ xs) x
Contains-here x xs = (0, omega arith, refl)

Contains-there : {X : Type 0} (x : X) (xs : List X) (y : X) → Contains xs y → Contains (x ∷ xs) y
Contains-there x xs y h = (suc h.0, omega (arith, h.1), h.2)

module _ {F T U : Type 0} (call : F → T → U → F → Type 0) where
  images_zip : (R : T → U → Type 0) (f last : F) (m : List T) (n : List U) → ((f g : F) (x : T) (y : U) → Contains m x → call f x y g → R x y) → CallsReturn call f m n last → AllZip R m n
  images_zip R f last [] [] respects h = tt
  images_zip R f last [] (y ∷ n) respects h = absurd h
  images_zip R f last (x ∷ m) [] respects h = absurd h
  images_zip R f last (x ∷ m) (y ∷ n) respects h =
      (respects f h.0 x y (Contains-here x m) h.1, images_zip R h.0 last m n (λ f g z w i. respects f g z w (Contains-there x m z i)) h.2)

  count-termwise : (eq : U → U → Bool) → IsPartialEquivalence eq → (image : T → U) (w : U) (xs : List T) (ys : List U) → AllZip (λ x y. eq (image x) y ≡ true) xs ys → count_by (eq w) ys ≡ count_by (λ x. eq w (image x)) xs
  count-termwise eq laws image w [] [] h = refl
  count-termwise eq laws image w [] (y ∷ ys) h = absurd h
  count-termwise eq laws image w (x ∷ xs) [] h = absurd h
  count-termwise eq laws image w (x ∷ xs) (y ∷ ys) h =
      let f : U → ℕ = λ z. cond (eq w z) 1 0 in
      let here : f (image x) ≡ f y = ap (λ b. cond b 1 0) (equal_alike eq laws w (image x) y h.0) in
      omega (arith, here, sum_by-cons f y ys, sum_by-cons (λ z. f (image z)) x xs, count-termwise eq laws image w xs ys h.1)

  pub image_counts : (f last : F) (m : List T) (n : List U) → CallsReturn call f m n last → HaveCountsOfImages call m n
  image_counts f last m n h same eq image laws other gives keeps w =
      let R : T → U → Type 0 = λ x y. eq (image x) y ≡ true in
      let zip : AllZip R m n = images_zip R f last m n gives h in
      let chosen : T → Bool = λ v. eq w (image v) in
      let alike : (x y : T) → same x y ≡ true → chosen x ≡ chosen y = λ x y e. equal_alike eq other w (image x) (image y) (keeps x y e) in
      ap (λ k. pos k -ℤ pos (count_by (eq w) (removes n))) (count-termwise eq other image w (adds m) (adds n) (AllZip-adds R m n zip))
      ∙ (ap (λ k. pos (count_by chosen (adds m)) -ℤ pos k) (count-termwise eq other image w (removes m) (removes n) (AllZip-removes R m n zip))
      ∙ count-chosen same laws chosen alike m)
