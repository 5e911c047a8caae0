-- Common starts and ends of byte strings, one more byte at a time, and of inputs, one at a time.
use Rattle.std.proofs.Common.{◌≡◌, ◌≢◌, ℕ, ◌+◌, ◌-◌, ◌<◌, ◌≤◌, List, [], ◌∷◌, length, take, drop, get_or, Bor, refl, ap, sym, ◌∙◌, subst, arith, below_more, inl, inr}
use Rattle.std.proofs.lemmas.Bool.{cases_lt}
use Rattle.std.proofs.lemmas.List.{take_more_same, take-take, get_or-take, get_or-drop, drop_more, drop-drop}
use Rattle.jj_diff.specs.Inputs.{bytes_of}
use Rattle.jj_diff.specs.Tokens.{IsCut, IsTokenizer, TokenEnds}
use Rattle.jj_diff.specs.Ends.{suffix, IsEqualStart, IsEqualStartOf, IsEqualEnd, IsEqualEndOf, IsWithin, AreStartCuts, AreEndCuts, IsCommonStart, IsCommonEnd}
use Rattle.jj_diff.proofs.Rows.{none, none_at, length-bytes_of}

-- one more equal byte
pub start_more : (xs ys : List ℕ) (i : ℕ) → i < length xs → i < length ys → take i xs ≡ take i ys
    → get_or xs i 0 ≡ get_or ys i 0 → take (i + 1) xs ≡ take (i + 1) ys
start_more xs ys i lt mt e f = take_more_same xs ys i 0 lt mt e f

-- no common start goes past a byte that differs
pub start_stops : (xs ys : List ℕ) (i n : ℕ) → get_or xs i 0 ≢ get_or ys i 0 → take n xs ≡ take n ys → n ≤ i
start_stops xs ys i n ne e = elim (cases_lt i n) [
  | inl past ↦ absurd (ne (sym (get_or-take n xs i 0 past) ∙ ap (λ zs. get_or zs i 0) e ∙ get_or-take n ys i 0 past))
  | inr within ↦ within
]

pub ruleset start_steps = (start_more, start_stops)

suffix_more : (xs : List ℕ) (n : ℕ) → n < length xs
    → suffix (n + 1) xs ≡ get_or xs (length xs - 1 - n) 0 ∷ suffix n xs
suffix_more xs n lt =
    let a : length xs - (n + 1) ≡ length xs - 1 - n = omega arith in
    let b : length xs - 1 - n + 1 ≡ length xs - n = omega arith in
    let c : length xs - 1 - n < length xs = omega arith in
    ap (λ k. drop k xs) a ∙ drop_more xs (length xs - 1 - n) 0 c ∙ ap (λ k. get_or xs (length xs - 1 - n) 0 ∷ drop k xs) b

pub end_more : (xs ys : List ℕ) (n : ℕ) → n < length xs → n < length ys → suffix n xs ≡ suffix n ys
    → get_or xs (length xs - 1 - n) 0 ≡ get_or ys (length ys - 1 - n) 0 → suffix (n + 1) xs ≡ suffix (n + 1) ys
end_more xs ys n lt mt e f =
    suffix_more xs n lt ∙ ap (λ b. b ∷ suffix n xs) f ∙ ap (λ zs. get_or ys (length ys - 1 - n) 0 ∷ zs) e ∙ sym (suffix_more ys n mt)

suffix_at : (xs : List ℕ) (n m : ℕ) → m < n → n ≤ length xs
    → get_or (suffix n xs) (n - 1 - m) 0 ≡ get_or xs (length xs - 1 - m) 0
suffix_at xs n m lt le =
    let a : length xs - n + (n - 1 - m) ≡ length xs - 1 - m = omega arith in
    get_or-drop (length xs - n) xs (n - 1 - m) 0 ∙ ap (λ k. get_or xs k 0) a

-- no common end goes past a byte that differs
pub end_stops : (xs ys : List ℕ) (m n : ℕ) → n ≤ length xs → n ≤ length ys
    → get_or xs (length xs - 1 - m) 0 ≢ get_or ys (length ys - 1 - m) 0 → suffix n xs ≡ suffix n ys → n ≤ m
end_stops xs ys m n lx ly ne e = elim (cases_lt m n) [
  | inl past ↦ absurd (ne (sym (suffix_at xs n m past lx) ∙ ap (λ zs. get_or zs (n - 1 - m) 0) e ∙ suffix_at ys n m past ly))
  | inr within ↦ within
]

pub ruleset end_steps = (end_more, end_stops)

at_zero : (P : ℕ → Type 0) → P 0 → (i : ℕ) → i < 1 → P i
at_zero P here i lt = let z : 0 ≡ i = omega arith in subst P z here

take_same : (m n : ℕ) (xs ys : List ℕ) → m ≤ n → take n xs ≡ take n ys → take m xs ≡ take m ys
take_same m n xs ys le e = sym (take-take m n xs le) ∙ ap (take m) e ∙ take-take m n ys le

suffix_same : (m n : ℕ) (xs ys : List ℕ) → m ≤ n → n ≤ length xs → n ≤ length ys → suffix n xs ≡ suffix n ys
    → suffix m xs ≡ suffix m ys
suffix_same m n xs ys le lx ly e =
    let a : length xs - n + (n - m) ≡ length xs - m = omega arith in
    let b : length ys - n + (n - m) ≡ length ys - m = omega arith in
    ap (λ k. drop k xs) (sym a) ∙ sym (drop-drop (n - m) (length xs - n) xs) ∙ ap (drop (n - m)) e
    ∙ drop-drop (n - m) (length ys - n) ys ∙ ap (λ k. drop k ys) b

module _ (refs : List (Bor (List ℕ))) where
  -- only the first input
  pub start_first : IsEqualStartOf (bytes_of refs) 1 (length (get_or refs 0 none).now)
  start_first = record {
    within = at_zero (λ i. length (get_or refs 0 none).now ≤ length (get_or (bytes_of refs) i [])) (rw (none_at refs 0) (omega arith));
    equal = at_zero (λ i. take (length (get_or refs 0 none).now) (get_or (bytes_of refs) i []) ≡ take (length (get_or refs 0 none).now) (get_or (bytes_of refs) 0 [])) refl;
  }

  pub start_first_longest : (n : ℕ) → 0 < length refs → IsEqualStart (bytes_of refs) n → n ≤ length (get_or refs 0 none).now
  start_first_longest n lt same =
      subst (λ xs. n ≤ length xs) (none_at refs 0) (same.within 0 (omega (arith, length-bytes_of refs)))

  -- one more input
  pub start_next : (k len r : ℕ) → IsEqualStartOf (bytes_of refs) k len → r ≤ len
      → r ≤ length (get_or refs k none).now → take r (get_or refs k none).now ≡ take r (get_or refs 0 none).now
      → IsEqualStartOf (bytes_of refs) (k + 1) r
  start_next k len r before le within same = record {
    within = below_more (λ i. r ≤ length (get_or (bytes_of refs) i [])) k (λ i lt. omega (arith, before.within i lt))
        (rw (none_at refs k) within);
    equal = below_more (λ i. take r (get_or (bytes_of refs) i []) ≡ take r (get_or (bytes_of refs) 0 [])) k
        (λ i lt. take_same r len (get_or (bytes_of refs) i []) (get_or (bytes_of refs) 0 []) le (before.equal i lt))
        (ap (take r) (none_at refs k) ∙ same ∙ ap (take r) (sym (none_at refs 0)));
  }

  pub start_next_longest : (k len r n : ℕ) → k < length refs
      → ((m : ℕ) → m ≤ len → m ≤ length (get_or refs k none).now
      → take m (get_or refs k none).now ≡ take m (get_or refs 0 none).now → m ≤ r)
      → IsEqualStart (bytes_of refs) n → n ≤ len → n ≤ r
  start_next_longest k len r n lt longest same le =
      let at : k < length (bytes_of refs) = omega (arith, length-bytes_of refs) in
      longest n le (subst (λ xs. n ≤ length xs) (none_at refs k) (same.within k at))
      (ap (take n) (sym (none_at refs k)) ∙ same.equal k at ∙ ap (take n) (none_at refs 0))

  pub start_all : (n : ℕ) → IsEqualStartOf (bytes_of refs) (length refs) n → IsEqualStart (bytes_of refs) n
  start_all n same = subst (λ k. IsEqualStartOf (bytes_of refs) k n) (sym (length-bytes_of refs)) same

  -- no input is shorter
  pub shortest_first : (i : ℕ) → i < 1 → length (get_or refs 0 none).now ≤ length (get_or (bytes_of refs) i [])
  shortest_first = at_zero (λ i. length (get_or refs 0 none).now ≤ length (get_or (bytes_of refs) i [])) (rw (none_at refs 0) (omega arith))

  pub shortest_next : (k len r : ℕ) → ((i : ℕ) → i < k → len ≤ length (get_or (bytes_of refs) i [])) → r ≤ len
      → r ≤ length (get_or refs k none).now → (i : ℕ) → i < k + 1 → r ≤ length (get_or (bytes_of refs) i [])
  shortest_next k len r before le within = below_more (λ i. r ≤ length (get_or (bytes_of refs) i [])) k
      (λ i lt. omega (arith, before i lt)) (rw (none_at refs k) within)

  pub within_at : (n k : ℕ) → k < length refs → IsWithin (bytes_of refs) n → n ≤ length (get_or refs k none).now
  within_at n k lt within = subst (λ xs. n ≤ length xs) (none_at refs k) (within k (omega (arith, length-bytes_of refs)))

  pub within_all : (n : ℕ) → ((i : ℕ) → i < length refs → n ≤ length (get_or (bytes_of refs) i [])) → IsWithin (bytes_of refs) n
  within_all n within i lt = within i (omega (arith, length-bytes_of refs))

  -- equal ends of only the first input
  pub end_first : (start len most : ℕ) → len ≡ most - start → start ≤ most → IsWithin (bytes_of refs) most
      → IsEqualEndOf (bytes_of refs) start 1 len
  end_first start len most e le within = record {
    within = λ i lt. omega (arith, within i lt);
    equal = at_zero (λ i. suffix len (get_or (bytes_of refs) i []) ≡ suffix len (get_or (bytes_of refs) 0 [])) refl;
  }

  pub end_first_longest : (start n len most : ℕ) → len ≡ most - start
      → ((m : ℕ) → IsWithin (bytes_of refs) m → m ≤ most) → IsEqualEnd (bytes_of refs) start n → n ≤ len
  end_first_longest start n len most e greatest same = omega (arith, greatest (start + n) same.within)

  pub end_next : (start k len r : ℕ) → k < length refs → IsEqualEndOf (bytes_of refs) start k len → r ≤ len
      → suffix r (get_or refs k none).now ≡ suffix r (get_or refs 0 none).now
      → IsEqualEndOf (bytes_of refs) start (k + 1) r
  end_next start k len r lt before le same = record {
    within = λ i mt. omega (arith, before.within i mt);
    equal = below_more (λ i. suffix r (get_or (bytes_of refs) i []) ≡ suffix r (get_or (bytes_of refs) 0 [])) k
        (λ i mt.
        let at : i < length (bytes_of refs) = omega (arith, length-bytes_of refs) in
        let first : 0 < length (bytes_of refs) = omega arith in
        suffix_same r len (get_or (bytes_of refs) i []) (get_or (bytes_of refs) 0 []) le
        (omega (arith, before.within i at)) (omega (arith, before.within 0 first)) (before.equal i mt))
        (ap (suffix r) (none_at refs k) ∙ same ∙ ap (suffix r) (sym (none_at refs 0)));
  }

  pub end_next_longest : (start k len r n : ℕ) → k < length refs
      → ((m : ℕ) → m ≤ len → suffix m (get_or refs k none).now ≡ suffix m (get_or refs 0 none).now → m ≤ r)
      → IsEqualEnd (bytes_of refs) start n → n ≤ len → n ≤ r
  end_next_longest start k len r n lt longest same le =
      longest n le (ap (suffix n) (sym (none_at refs k)) ∙ same.equal k (omega (arith, length-bytes_of refs)) ∙ ap (suffix n) (none_at refs 0))

  pub end_within : (start len k : ℕ) → k < length refs → IsEqualEndOf (bytes_of refs) start k len → len ≤ length (get_or refs k none).now
  end_within start len k lt same = omega (arith, subst (λ xs. start + len ≤ length xs) (none_at refs k) (same.within k (omega (arith, length-bytes_of refs))))

  pub end_within_first : (start len k : ℕ) → 0 < length refs → IsEqualEndOf (bytes_of refs) start k len → len ≤ length (get_or refs 0 none).now
  end_within_first start len k lt same = omega (arith, subst (λ xs. start + len ≤ length xs) (none_at refs 0) (same.within 0 (omega (arith, length-bytes_of refs))))

  pub end_all : (start n : ℕ) → IsEqualEndOf (bytes_of refs) start (length refs) n → IsEqualEnd (bytes_of refs) start n
  end_all start n same = subst (λ k. IsEqualEndOf (bytes_of refs) start k n) (sym (length-bytes_of refs)) same

  -- the cut of one input
  pub start_cut_at : (t : TokenEnds) (n k : ℕ) → k < length refs → AreStartCuts t (bytes_of refs) n → IsCut t (get_or refs k none).now n
  start_cut_at t n k lt are_cuts = subst (λ xs. IsCut t xs n) (none_at refs k) (are_cuts k (omega (arith, length-bytes_of refs)))

  pub end_cut_at : (t : TokenEnds) (n k : ℕ) → k < length refs → AreEndCuts t (bytes_of refs) n
      → IsCut t (get_or refs k none).now (length (get_or refs k none).now - n)
  end_cut_at t n k lt are_cuts = subst (λ xs. IsCut t xs (length xs - n)) (none_at refs k) (are_cuts k (omega (arith, length-bytes_of refs)))

  pub start_cut_more : (t : TokenEnds) (n k : ℕ) → ((i : ℕ) → i < k → IsCut t (get_or (bytes_of refs) i []) n)
      → IsCut t (get_or refs k none).now n → (i : ℕ) → i < k + 1 → IsCut t (get_or (bytes_of refs) i []) n
  start_cut_more t n k before here = below_more (λ i. IsCut t (get_or (bytes_of refs) i []) n) k before
      (subst (λ xs. IsCut t xs n) (sym (none_at refs k)) here)

  pub end_cut_more : (t : TokenEnds) (n k : ℕ)
      → ((i : ℕ) → i < k → IsCut t (get_or (bytes_of refs) i []) (length (get_or (bytes_of refs) i []) - n))
      → IsCut t (get_or refs k none).now (length (get_or refs k none).now - n)
      → (i : ℕ) → i < k + 1 → IsCut t (get_or (bytes_of refs) i []) (length (get_or (bytes_of refs) i []) - n)
  end_cut_more t n k before here = below_more (λ i. IsCut t (get_or (bytes_of refs) i []) (length (get_or (bytes_of refs) i []) - n)) k before
      (subst (λ xs. IsCut t xs (length xs - n)) (sym (none_at refs k)) here)

pub ruleset equal_start_steps = (start_first, start_first_longest, start_next, start_next_longest, start_all)

pub ruleset shortest_steps = (shortest_first, shortest_next, within_at, within_all)

pub ruleset equal_end_steps = (end_first, end_first_longest, end_within, end_within_first, end_all)

-- a cut that is no longer than `most` is shorter, if there is none of that length
pub cut_before : (P : ℕ → Type 0) (most back n : ℕ) → back < most → ¬ (P (most - back))
    → n + back ≤ most → P n → n + (back + 1) ≤ most
cut_before P most back n lt none le cut = elim (cases_lt (n + back) most) [
  | inl below ↦ omega arith
  | inr above ↦ let e : n ≡ most - back = omega arith in absurd (none (subst P e cut))
]

pub start_cut_before : (t : TokenEnds) (inputs : List (List ℕ)) (most back n : ℕ) → back < most
    → ¬ (AreStartCuts t inputs (most - back)) → n + back ≤ most → AreStartCuts t inputs n → n + (back + 1) ≤ most
start_cut_before t inputs = cut_before (AreStartCuts t inputs)

pub end_cut_before : (t : TokenEnds) (inputs : List (List ℕ)) (most back n : ℕ) → back < most
    → ¬ (AreEndCuts t inputs (most - back)) → n + back ≤ most → AreEndCuts t inputs n → n + (back + 1) ≤ most
end_cut_before t inputs = cut_before (AreEndCuts t inputs)

-- there is a cut before the first byte, and after the last
pub start_cut_none : (t : TokenEnds) (inputs : List (List ℕ)) → AreStartCuts t inputs 0
start_cut_none t inputs i lt = inl refl

pub end_cut_none : (t : TokenEnds) (law : IsTokenizer t) (inputs : List (List ℕ)) → AreEndCuts t inputs 0
end_cut_none t law inputs i lt =
    let e : length (get_or inputs i []) ≡ length (get_or inputs i []) - 0 = omega arith in
    subst (IsCut t (get_or inputs i [])) e (law.whole (get_or inputs i []))

pub ruleset cut_steps = (start_cut_before, end_cut_before, start_cut_none, end_cut_none)

-- equal starts that are whole tokens
pub common_start_of : (t : TokenEnds) (inputs : List (List ℕ)) (most n : ℕ) → 0 < length inputs
    → IsEqualStart inputs most → n ≤ most → AreStartCuts t inputs n → IsCommonStart t inputs n
common_start_of t inputs most n some same le are_cuts = record {
  some = some;
  within = λ i lt. omega (arith, same.within i lt);
  equal = λ i lt. take_same n most (get_or inputs i []) (get_or inputs 0 []) le (same.equal i lt);
  cuts = are_cuts;
}

pub equal_start_of : (t : TokenEnds) (inputs : List (List ℕ)) (n : ℕ) → IsCommonStart t inputs n → IsEqualStart inputs n
equal_start_of t inputs n common = record { within = common.within; equal = common.equal }

pub common_end_of : (t : TokenEnds) (inputs : List (List ℕ)) (start most n : ℕ) → 0 < length inputs
    → IsEqualEnd inputs start most → n ≤ most → AreEndCuts t inputs n → IsCommonEnd t inputs start n
common_end_of t inputs start most n some same le are_cuts = record {
  some = some;
  within = λ i lt. omega (arith, same.within i lt);
  equal = λ i lt. suffix_same n most (get_or inputs i []) (get_or inputs 0 []) le
      (omega (arith, same.within i lt)) (omega (arith, same.within 0 some)) (same.equal i lt);
  cuts = are_cuts;
}

pub equal_end_of : (t : TokenEnds) (inputs : List (List ℕ)) (start n : ℕ) → IsCommonEnd t inputs start n → IsEqualEnd inputs start n
equal_end_of t inputs start n common = record { within = common.within; equal = common.equal }

pub ruleset common_steps = (common_start_of, equal_start_of, common_end_of, equal_end_of)
