-- Flags of the terms that are left while pairs of an add and an equal remove cancel.
use Rattle.std.proofs.Common.{◌≡◌, ◌≢◌, ◌∙◌, ℕ, suc, zero, ◌+◌, ◌%◌, ◌<◌, Bool, true, false, List, [], ◌∷◌, ◌++◌, cond, length, set, refl, ap, arith, get_or, take}
use Rattle.std.specs.Prelude.{count_by}
use Rattle.std.specs.List.{sum_by}
use Rattle.std.proofs.lemmas.List.{length-set, get_or-set_other, take_more, length-take-le}
use Rattle.std.proofs.lemmas.List.Sums.{sum_by-cons}
use Rattle.jj_merges.specs.Merge as merge
use Rattle.jj_merges.proofs.Sides.{length-adds, length-removes}
use Rattle.jj_program.specs.Lines.{Text}
use Rattle.jj_program.specs.MergeViews.{text_eq}
use Rattle.jj_program.specs.PairedTerms.{AreLeftOf, IsLeftOpposite, left_adds, left_removes}
use Rattle.jj_program.proofs.SortedSides.{alike, same}

-- all terms are left at first
mutual
  all_adds : (bs : List Bool) (xs : List Text) → length bs ≡ length xs → ((k : ℕ) → k < length bs → get_or bs k false ≡ true) → left_adds bs xs ≡ merge.adds xs
  all_adds [] [] size all = refl
  all_adds [] (x ∷ xs) size all = absurd (omega (arith, size))
  all_adds (b ∷ bs) [] size all = absurd (omega (arith, size))
  all_adds (b ∷ bs) (x ∷ xs) size all =
      ap (λ (b : Bool). let ys : List Text = cond b (x ∷ left_removes bs xs) (left_removes bs xs) in ys) (all 0 (omega arith))
      ∙ ap (λ ys. x ∷ ys) (all_removes bs xs (omega (arith, size)) (λ k within. all (suc k) (omega (arith, within))))

  all_removes : (bs : List Bool) (xs : List Text) → length bs ≡ length xs → ((k : ℕ) → k < length bs → get_or bs k false ≡ true) → left_removes bs xs ≡ merge.removes xs
  all_removes [] [] size all = refl
  all_removes [] (x ∷ xs) size all = absurd (omega (arith, size))
  all_removes (b ∷ bs) [] size all = absurd (omega (arith, size))
  all_removes (b ∷ bs) (x ∷ xs) size all = all_adds bs xs (omega (arith, size)) (λ k within. all (suc k) (omega (arith, within)))

pub all_left : (xs : List Text) (bs : List Bool) → length bs ≡ length xs → ((k : ℕ) → k < length bs → get_or bs k false ≡ true) → AreLeftOf xs bs
all_left xs bs size all = record {
  size = size;
  counts = λ v.
      let added = ap (count_by (text_eq v)) (all_adds bs xs size all) in
      let removed = ap (count_by (text_eq v)) (all_removes bs xs size all) in
      omega (arith, added, removed);
  lengths =
      let added = ap length (all_adds bs xs size all) in
      let removed = ap length (all_removes bs xs size all) in
      omega (arith, added, removed, length-adds xs, length-removes xs);
}

-- w is the weight of a term
module _ (w : Text → ℕ) where
  abbrev added : List Bool → List Text → ℕ
  added bs xs = sum_by w (left_adds bs xs)

  abbrev removed : List Bool → List Text → ℕ
  removed bs xs = sum_by w (left_removes bs xs)

  head_kept : (b : Bool) (x : Text) (ys : List Text) → let zs : List Text = cond b (x ∷ ys) ys in sum_by w zs ≡ cond b (w x) 0 + sum_by w ys
  head_kept true x ys = sum_by-cons w x ys
  head_kept false x ys = omega arith

  added_cons : (b : Bool) (bs : List Bool) (x : Text) (xs : List Text) → added (b ∷ bs) (x ∷ xs) ≡ cond b (w x) 0 + removed bs xs
  added_cons b bs x xs = head_kept b x (left_removes bs xs)

  head_left : (b : Bool) (x : Text) → b ≡ true → let n : ℕ = cond b (w x) 0 in n ≡ w x
  head_left b x h = ap (λ (b : Bool). let n : ℕ = cond b (w x) 0 in n) h

  mutual
    -- a term at an even index is an add
    cancelled_even : (bs : List Bool) (xs : List Text) (k : ℕ) (d : Text) → length bs ≡ length xs → k < length xs → get_or bs k false ≡ true → k % 2 ≡ 0
        → (added bs xs ≡ added (set bs k false) xs + w (get_or xs k d)) × (removed bs xs ≡ removed (set bs k false) xs)
    cancelled_even [] xs k d size within is even = absurd (omega (arith, size, within))
    cancelled_even (b ∷ bs) [] k d size within is even = absurd (omega (arith, within))
    cancelled_even (b ∷ bs) (x ∷ xs) zero d size within is even =
        (omega (arith, added_cons b bs x xs, added_cons false bs x xs, head_left b x is), refl)
    cancelled_even (b ∷ bs) (x ∷ xs) (suc k) d size within is even =
        let rest = cancelled_odd bs xs k d (omega (arith, size)) (omega (arith, within)) is (omega (arith, even)) in
        (omega (arith, added_cons b bs x xs, added_cons b (set bs k false) x xs, rest.1), rest.0)

    -- and one at an odd index a remove
    cancelled_odd : (bs : List Bool) (xs : List Text) (k : ℕ) (d : Text) → length bs ≡ length xs → k < length xs → get_or bs k false ≡ true → k % 2 ≡ 1
        → (added bs xs ≡ added (set bs k false) xs) × (removed bs xs ≡ removed (set bs k false) xs + w (get_or xs k d))
    cancelled_odd [] xs k d size within is odd = absurd (omega (arith, size, within))
    cancelled_odd (b ∷ bs) [] k d size within is odd = absurd (omega (arith, within))
    cancelled_odd (b ∷ bs) (x ∷ xs) zero d size within is odd = absurd (omega (arith, odd))
    cancelled_odd (b ∷ bs) (x ∷ xs) (suc k) d size within is odd =
        let rest = cancelled_even bs xs k d (omega (arith, size)) (omega (arith, within)) is (omega (arith, odd)) in
        (omega (arith, added_cons b bs x xs, added_cons b (set bs k false) x xs, rest.1), rest.0)

  -- the signed sum of the weights stays the same if an add and a remove of one weight cancel
  pair_sums : (bs : List Bool) (xs : List Text) (i k : ℕ) (d : Text) → length bs ≡ length xs → i < k → k < length xs
      → get_or bs i false ≡ true → get_or bs k false ≡ true → i % 2 ≢ k % 2 → w (get_or xs i d) ≡ w (get_or xs k d)
      → let cs : List Bool = set (set bs i false) k false in added bs xs + removed cs xs ≡ added cs xs + removed bs xs
  pair_sums bs xs i k d size before within is_i is_k opposite equal = by_parity (i % 2) refl
    where
      cs : List Bool
      cs = set bs i false

      size' : length cs ≡ length xs
      size' = length-set bs i false ∙ size

      is_k' : get_or cs k false ≡ true
      is_k' = get_or-set_other bs i k false false (omega (arith, before)) ∙ is_k

      by_parity : (p : ℕ) → i % 2 ≡ p → added bs xs + removed (set cs k false) xs ≡ added (set cs k false) xs + removed bs xs
      by_parity zero even =
          let first = cancelled_even bs xs i d size (omega (arith, before, within)) is_i even in
          let next = cancelled_odd cs xs k d size' within is_k' (omega (arith, even, opposite)) in
          omega (arith, first.0, first.1, next.0, next.1, equal)
      by_parity (suc p) odd =
          let first = cancelled_odd bs xs i d size (omega (arith, before, within)) is_i (omega (arith, odd)) in
          let next = cancelled_even cs xs k d size' within is_k' (omega (arith, odd, opposite)) in
          omega (arith, first.0, first.1, next.0, next.1, equal)

sum_of_ones : (xs : List Text) → sum_by (λ (x : Text). 1) xs ≡ length xs
sum_of_ones [] = refl
sum_of_ones (x ∷ xs) = omega (arith, sum_by-cons (λ (x : Text). 1) x xs, sum_of_ones xs)

-- a pair cancels
pub pair_gone : (xs : List Text) (bs : List Bool) (i k : ℕ) (d : Text) → AreLeftOf xs bs → k < length xs → get_or bs k false ≡ true
    → IsLeftOpposite xs bs k i → AreLeftOf xs (set (set bs i false) k false)
pair_gone xs bs i k d t within is pair =
    let cs : List Bool = set (set bs i false) k false in record {
      size = length-set (set bs i false) k false ∙ length-set bs i false ∙ t.size;
      counts = λ v.
          let equal = ap (λ (b : Bool). let n : ℕ = cond b 1 0 in n) (alike v (get_or xs i d) (get_or xs k d) (pair.2.1 d)) in
          omega (arith, t.counts v, pair_sums (same v) bs xs i k d t.size pair.0 within pair.1 is pair.2.0 equal);
      lengths =
          let sums = pair_sums (λ (x : Text). 1) bs xs i k d t.size pair.0 within pair.1 is pair.2.0 refl in
          omega (arith, t.lengths, sums, sum_of_ones (left_adds bs xs), sum_of_ones (left_removes bs xs), sum_of_ones (left_adds cs xs), sum_of_ones (left_removes cs xs));
    }

mutual
  push_even : (bs : List Bool) (xs : List Text) (b : Bool) (x : Text) → length bs ≡ length xs → length xs % 2 ≡ 0
      → (left_adds (bs ++ b ∷ []) (xs ++ x ∷ []) ≡ cond b (left_adds bs xs ++ x ∷ []) (left_adds bs xs))
      × (left_removes (bs ++ b ∷ []) (xs ++ x ∷ []) ≡ left_removes bs xs)
  push_even [] [] b x size even = (by_flag b, refl)
    where
      by_flag : (b : Bool) → left_adds (b ∷ []) (x ∷ []) ≡ cond b (x ∷ []) []
      by_flag true = refl
      by_flag false = refl
  push_even [] (y ∷ ys) b x size even = absurd (omega (arith, size))
  push_even (c ∷ cs) [] b x size even = absurd (omega (arith, size))
  push_even (c ∷ cs) (y ∷ ys) b x size even =
      let rest = push_odd cs ys b x (omega (arith, size)) (omega (arith, even)) in (by_flags c b (left_removes cs ys) (left_removes (cs ++ b ∷ []) (ys ++ x ∷ [])) rest.1, rest.0)
    where
      by_flags : (c b : Bool) (zs more : List Text) → more ≡ cond b (zs ++ x ∷ []) zs
          → let now : List Text = cond c (y ∷ more) more in let old : List Text = cond c (y ∷ zs) zs in now ≡ cond b (old ++ x ∷ []) old
      by_flags true true zs more h = ap (λ zs. y ∷ zs) h
      by_flags true false zs more h = ap (λ zs. y ∷ zs) h
      by_flags false true zs more h = h
      by_flags false false zs more h = h

  push_odd : (bs : List Bool) (xs : List Text) (b : Bool) (x : Text) → length bs ≡ length xs → length xs % 2 ≡ 1
      → (left_adds (bs ++ b ∷ []) (xs ++ x ∷ []) ≡ left_adds bs xs)
      × (left_removes (bs ++ b ∷ []) (xs ++ x ∷ []) ≡ cond b (left_removes bs xs ++ x ∷ []) (left_removes bs xs))
  push_odd [] [] b x size odd = absurd (omega (arith, odd))
  push_odd [] (y ∷ ys) b x size odd = absurd (omega (arith, size))
  push_odd (c ∷ cs) [] b x size odd = absurd (omega (arith, size))
  push_odd (c ∷ cs) (y ∷ ys) b x size odd =
      let rest = push_even cs ys b x (omega (arith, size)) (omega (arith, odd)) in
      (ap (λ zs. let now : List Text = cond c (y ∷ zs) zs in now) rest.1, rest.0)

module _ (xs : List Text) (bs : List Bool) (i : ℕ) (d : Text) (within : i < length xs) (size : length bs ≡ length xs) where
  abbrev now_adds : List Text
  now_adds = left_adds (take (i + 1) bs) (take (i + 1) xs)

  abbrev now_removes : List Text
  now_removes = left_removes (take (i + 1) bs) (take (i + 1) xs)

  both : (f : List Bool → List Text → List Text)
      → f (take (i + 1) bs) (take (i + 1) xs) ≡ f (take i bs ++ get_or bs i false ∷ []) (take i xs ++ get_or xs i d ∷ [])
  both f = ap (λ bs. f bs (take (i + 1) xs)) (take_more bs i false (omega (arith, within, size))) ∙ ap (f (take i bs ++ get_or bs i false ∷ [])) (take_more xs i d within)

  sizes : length (take i bs) ≡ length (take i xs)
  sizes = omega (arith, length-take-le i bs (omega (arith, within, size)), length-take-le i xs (omega (arith, within)))

  -- the sides after the term at an even index
  pub more_even : i % 2 ≡ 0 → (now_adds ≡ cond (get_or bs i false) (left_adds (take i bs) (take i xs) ++ get_or xs i d ∷ []) (left_adds (take i bs) (take i xs)))
      × (now_removes ≡ left_removes (take i bs) (take i xs))
  more_even even =
      let pushed = push_even (take i bs) (take i xs) (get_or bs i false) (get_or xs i d) sizes (omega (arith, even, length-take-le i xs (omega (arith, within)))) in
      (both left_adds ∙ pushed.0, both left_removes ∙ pushed.1)

  -- and at an odd one
  pub more_odd : i % 2 ≡ 1 → (now_adds ≡ left_adds (take i bs) (take i xs))
      × (now_removes ≡ cond (get_or bs i false) (left_removes (take i bs) (take i xs) ++ get_or xs i d ∷ []) (left_removes (take i bs) (take i xs)))
  more_odd odd =
      let pushed = push_odd (take i bs) (take i xs) (get_or bs i false) (get_or xs i d) sizes (omega (arith, odd, length-take-le i xs (omega (arith, within)))) in
      (both left_adds ∙ pushed.0, both left_removes ∙ pushed.1)

  -- a term that is not left changes no side
  pub sides_kept : get_or bs i false ≡ false → (now_adds ≡ left_adds (take i bs) (take i xs)) × (now_removes ≡ left_removes (take i bs) (take i xs))
  sides_kept gone = by_parity (i % 2) refl
    where
      none : (ys : List Text) → let zs : List Text = cond (get_or bs i false) (ys ++ get_or xs i d ∷ []) ys in zs ≡ ys
      none ys = ap (λ (b : Bool). let zs : List Text = cond b (ys ++ get_or xs i d ∷ []) ys in zs) gone

      by_parity : (p : ℕ) → i % 2 ≡ p → (now_adds ≡ left_adds (take i bs) (take i xs)) × (now_removes ≡ left_removes (take i bs) (take i xs))
      by_parity zero even = let more = more_even even in (more.0 ∙ none (left_adds (take i bs) (take i xs)), more.1)
      by_parity (suc p) odd = let more = more_odd (omega (arith, odd)) in (more.0, more.1 ∙ none (left_removes (take i bs) (take i xs)))
