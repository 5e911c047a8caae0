-- Loop step of `count_adds`.
use Rattle.std.proofs.Common.{◌≡◌, ◌≢◌, ℕ, ◌+◌, ◌%◌, ◌<◌, Bool, true, false, cond, List, [], ◌∷◌, ◌++◌, length, take, refl, ap, arith, sym, ◌∙◌, get_or}
use Rattle.std.specs.Prelude.{count_by}
use Rattle.std.proofs.lemmas.List.{take_more, length-take-le}
use Rattle.std.proofs.lemmas.List.Sums.{sum_by_push}
use Rattle.jj_merges.specs.Merge as merge
use Rattle.jj_merges.proofs.SideAppend.{adds-push_even, adds-push_odd}

-- 1 if the term passes the test, else 0
abbrev pub weight : {T : Type 0} → (T → Bool) → T → ℕ
weight p x = cond (p x) 1 0

pub weight-true : {T : Type 0} (p : T → Bool) (x : T) → p x ≡ true → weight p x ≡ 1
weight-true p x h = rw h refl

pub weight-false : {T : Type 0} (p : T → Bool) (x : T) → p x ≡ false → weight p x ≡ 0
weight-false p x h = rw h refl

module _ {T : Type 0} (p : T → Bool) (xs : List T) (i : ℕ) (x : T) where
  pub count-adds-even : i < length xs → x ≡ get_or xs i x → i % 2 ≡ 0 → count_by p (merge.adds (take (i + 1) xs)) ≡ count_by p (merge.adds (take i xs)) + weight p x
  count-adds-even h e even =
      let n : length (take i xs) ≡ i = length-take-le i xs (omega arith) in
      let t : take (i + 1) xs ≡ take i xs ++ x ∷ [] = take_more xs i x h ∙ ap (λ y. take i xs ++ y ∷ []) (sym e) in
      ap (λ ys. count_by p (merge.adds ys)) t ∙ (ap (count_by p) (adds-push_even (take i xs) x (omega arith)) ∙ sum_by_push (λ y. cond (p y) 1 0) (merge.adds (take i xs)) x)

  pub count-adds-odd : i < length xs → x ≡ get_or xs i x → i % 2 ≢ 0 → count_by p (merge.adds (take (i + 1) xs)) ≡ count_by p (merge.adds (take i xs))
  count-adds-odd h e odd =
      let n : length (take i xs) ≡ i = length-take-le i xs (omega arith) in
      let t : take (i + 1) xs ≡ take i xs ++ x ∷ [] = take_more xs i x h ∙ ap (λ y. take i xs ++ y ∷ []) (sym e) in
      ap (λ ys. count_by p (merge.adds ys)) t ∙ ap (count_by p) (adds-push_odd (take i xs) x (omega arith))

pub ruleset count_steps = (count-adds-even, count-adds-odd)
