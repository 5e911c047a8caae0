-- Ranges of tokens, one after the other: lines, words, and bytes between words.
use Rattle.std.proofs.Common.{◌≡◌, ◌⊎◌, ℕ, suc, zero, ◌+◌, ◌-◌, ◌<◌, ◌≤◌, ◌==◌, ◌||◌, Bool, true, false, not, cond, List, [], ◌∷◌, ◌++◌, length, map, filter, get_or, refl, ap, sym, ◌∙◌, subst, arith, inl, inr, eqb-true}
use Rattle.std.proofs.lemmas.Bool.{both_ways, cases_Bool, cases_lt, eq-eqb, eqb-false, not-false, not-true, or_cases, or_left, or_parts, or_right}
use Rattle.std.proofs.lemmas.List.Elements.{All-cons, All-nil}
use Rattle.std.specs.Prelude.{All, Any}
use Rattle.std.specs.List.{range_with_len}
use Rattle.std.specs.declared.ops.Range.{Range}
use Rattle.jj_diff.specs.Ranges.{ranges_between, starts_with_word}
use Rattle.jj_diff.specs.Tokens.{is_line_end, is_word_byte, is_word_end}
use Rattle.contracts_diffs.specs.Ranges.{Ascends, Covers, HasIndex, IsLineAt, IsWordAt, byte_range}

-- ---- tokens

module _ (is_end : ℕ → Bool) (len : ℕ) where
  -- no token ends between
  abbrev NoneBetween : ℕ → ℕ → Type 0
  NoneBetween start end = (k : ℕ) → start < k → k < end → is_end k ≡ false

  -- Each range starts where the one before it ends. Its own end is the only end of a token.
  abbrev AreTokens : ℕ → List (Range ℕ) → Type 0
  AreTokens start [] = start ≡ len
  AreTokens start (r ∷ rs) = (r.start ≡ start) × (start < r.end) × (r.end ≤ len) × NoneBetween start r.end
      × (is_end r.end ≡ true) × AreTokens r.end rs

  none_more : (start a : ℕ) → NoneBetween start a → is_end a ≡ false → NoneBetween start (a + 1)
  none_more start a none fails k above below = elim (cases_lt k a) [
    | inl lt ↦ none k above lt
    | inr le ↦ let e : a ≡ k = omega arith in subst (λ j. is_end j ≡ false) e fails
  ]

  pub tokens_from : (a n start : ℕ) → a + n ≡ len + 1 → start < a → NoneBetween start a → (0 < len → is_end len ≡ true)
      → AreTokens start (ranges_between start (filter is_end (range_with_len a n)))
  tokens_from a zero start e lt none whole = elim (cases_lt start len) [
    | inl below ↦ absurd (both_ways (is_end len) (none len below (omega arith)) (whole (omega arith)))
    | inr le ↦ omega arith
  ]
  tokens_from a (suc n) start e lt none whole =
      let rest : List ℕ = filter is_end (range_with_len (a + 1) n) in
      elim (cases_Bool (is_end a)) [
        | inl holds ↦ subst (λ b. AreTokens start (ranges_between start (cond b (a ∷ rest) rest))) (sym holds)
            (refl, lt, omega arith, none, holds, tokens_from (a + 1) n a (omega arith) (omega arith) (λ k above below. absurd (omega arith)) whole)
        | inr fails ↦ subst (λ b. AreTokens start (ranges_between start (cond b (a ∷ rest) rest))) (sym fails)
            (tokens_from (a + 1) n start (omega arith) (omega arith) (none_more start a none fails) whole)
      ]

  pub tokens : (0 < len → is_end len ≡ true) → AreTokens 0 (ranges_between 0 (filter is_end (range_with_len 1 len)))
  tokens whole = tokens_from 1 len 0 (omega arith) (omega arith) (λ k above below. absurd (omega arith)) whole

  pub covers : (rs : List (Range ℕ)) (start : ℕ) → AreTokens start rs → Covers start len rs
  covers [] start t = t
  covers (r ∷ rs) start t = (t.0, t.1, covers rs r.end t.5)

-- ---- lines

module _ (text : List ℕ) where
  abbrev AreLines : ℕ → List (Range ℕ) → Type 0
  AreLines = AreTokens (is_line_end text) (length text)

  line_here : (r : Range ℕ) (rs : List (Range ℕ)) (start : ℕ) → AreLines start (r ∷ rs) → IsLineAt text r
  line_here r rs start t = record {
    inner = λ k above below e.
        let fails : is_line_end text (k + 1) ≡ false = t.3 (k + 1) (omega (arith, t.0)) below in
        let i : k + 1 - 1 ≡ k = omega arith in
        eqb-false (get_or text (k + 1 - 1) 0) 10 (or_parts (get_or text (k + 1 - 1) 0 == 10) (k + 1 == length text) fails).0
        (ap (λ j. get_or text j 0) i ∙ e);
    last = elim (or_cases (get_or text (r.end - 1) 0 == 10) (r.end == length text) t.4) [
      | inl e ↦ inl (eqb-true (get_or text (r.end - 1) 0) 10 e)
      | inr e ↦ inr (eqb-true r.end (length text) e)
    ];
  }

  all_lines : (rs : List (Range ℕ)) (start : ℕ) → AreLines start rs → All (IsLineAt text) rs
  all_lines [] start t = All-nil (IsLineAt text)
  all_lines (r ∷ rs) start t = All-cons (IsLineAt text) r rs (line_here r rs start t) (all_lines rs r.end t.5)

  abbrev line_ranges : List (Range ℕ)
  line_ranges = ranges_between 0 (filter (is_line_end text) (range_with_len 1 (length text)))

  are_lines : AreLines 0 line_ranges
  are_lines = tokens (is_line_end text) (length text) (λ some. or_right (get_or text (length text - 1) 0 == 10) (length text == length text) (eq-eqb (length text) (length text) refl))

  pub lines_cover : Covers 0 (length text) line_ranges
  lines_cover = covers (is_line_end text) (length text) line_ranges 0 are_lines

  pub lines_are : All (IsLineAt text) line_ranges
  lines_are = all_lines line_ranges 0 are_lines

pub ruleset line_steps = (lines_cover, lines_are)

-- ---- words, and bytes between words

module _ (text : List ℕ) where
  abbrev is_word : ℕ → Bool
  is_word k = is_word_byte (get_or text k 0)

  abbrev starts : Range ℕ → Bool
  starts = starts_with_word text

  abbrev AreWordTokens : ℕ → List (Range ℕ) → Type 0
  AreWordTokens = AreTokens (is_word_end text) (length text)

  abbrev IsStart : ℕ → Type 0
  IsStart start = (start ≡ 0) ⊎ (is_word_end text start ≡ true)

  -- between the ends of tokens
  inner : (k : ℕ) → is_word_end text k ≡ false → (is_word (k - 1) ≡ true) × (is_word k ≡ true)
  inner k fails =
      let parts = or_parts ((k == length text) || not (is_word (k - 1))) (not (is_word k)) fails in
      let first = or_parts (k == length text) (not (is_word (k - 1))) parts.0 in
      (not-false (is_word (k - 1)) first.1, not-false (is_word k) parts.1)

  end_cases : (k : ℕ) → is_word_end text k ≡ true → (k ≡ length text) ⊎ ((is_word (k - 1) ≡ false) ⊎ (is_word k ≡ false))
  end_cases k holds = elim (or_cases ((k == length text) || not (is_word (k - 1))) (not (is_word k)) holds) [
    | inl first ↦ elim (or_cases (k == length text) (not (is_word (k - 1))) first) [
      | inl e ↦ inl (eqb-true k (length text) e)
      | inr e ↦ inr (inl (not-true (is_word (k - 1)) e))
    ]
    | inr e ↦ inr (inr (not-true (is_word k) e))
  ]

  module _ (r : Range ℕ) (rs : List (Range ℕ)) (start : ℕ) (t : AreWordTokens start (r ∷ rs)) where
    word_bytes : is_word start ≡ true → (k : ℕ) → start ≤ k → k < r.end → is_word k ≡ true
    word_bytes first k above below = elim (cases_lt start k) [
      | inl lt ↦ (inner k (t.3 k lt below)).1
      | inr le ↦ let e : start ≡ k = omega arith in subst (λ j. is_word j ≡ true) e first
    ]

    word_before : IsStart start → is_word start ≡ true → (start ≡ 0) ⊎ (is_word (start - 1) ≡ false)
    word_before begins first = elim begins [
      | inl none ↦ inl none
      | inr end ↦ elim (end_cases start end) [
        | inl e ↦ absurd (omega (arith, t.1, t.2, e))
        | inr not_word ↦ elim not_word [
          | inl e ↦ inr e
          | inr e ↦ absurd (both_ways (is_word start) e first)
        ]
      ]
    ]

    word_after : is_word start ≡ true → (r.end ≡ length text) ⊎ (is_word r.end ≡ false)
    word_after first = elim (end_cases r.end t.4) [
      | inl e ↦ inl e
      | inr not_word ↦ elim not_word [
        | inl e ↦ absurd (both_ways (is_word (r.end - 1)) e (word_bytes first (r.end - 1) (omega (arith, t.1)) (omega (arith, t.1))))
        | inr e ↦ inr e
      ]
    ]

    word_here : IsStart start → starts r ≡ true → IsWordAt text r
    word_here begins word =
        let first : is_word start ≡ true = subst (λ j. is_word j ≡ true) t.0 word in
        record {
          some = omega (arith, t.0, t.1);
          within = t.2;
          bytes = λ k above below. word_bytes first k (omega (arith, t.0)) below;
          before = subst (λ j. (j ≡ 0) ⊎ (is_word (j - 1) ≡ false)) (sym t.0) (word_before begins first);
          after = word_after first;
        }

    -- a byte that is in no word is a token
    other_here : starts r ≡ false → r.end ≡ start + 1
    other_here other = elim (cases_lt (start + 1) r.end) [
      | inr le ↦ omega (arith, t.1)
      | inl lt ↦
          let none : is_word start ≡ false = subst (λ j. is_word j ≡ false) t.0 other in
          let same : start + 1 - 1 ≡ start = omega arith in
          absurd (both_ways (is_word start) none (subst (λ j. is_word j ≡ true) same (inner (start + 1) (t.3 (start + 1) (omega arith) lt)).0))
    ]

    other_is : starts r ≡ false → r ≡ byte_range start
    other_is other =
        let first : r ≡ record { start = start; end = r.end } = ap (λ (j : ℕ). let x : Range ℕ = record { start = j; end = r.end } in x) t.0 in
        first ∙ ap (λ (j : ℕ). let x : Range ℕ = record { start = start; end = j } in x) (other_here other)

  -- ---- the ranges of words

  each_word : (rs : List (Range ℕ)) (start : ℕ) → IsStart start → AreWordTokens start rs → All (IsWordAt text) (filter starts rs)
  each_word [] start begins t = All-nil (IsWordAt text)
  each_word (r ∷ rs) start begins t =
      let rest : All (IsWordAt text) (filter starts rs) = each_word rs r.end (inr t.4) t.5 in
      elim (cases_Bool (starts r)) [
        | inl holds ↦ subst (λ b. All (IsWordAt text) (cond b (r ∷ filter starts rs) (filter starts rs))) (sym holds)
            (All-cons (IsWordAt text) r (filter starts rs) (word_here r rs start t begins holds) rest)
        | inr fails ↦ subst (λ b. All (IsWordAt text) (cond b (r ∷ filter starts rs) (filter starts rs))) (sym fails) rest
      ]

  ascends : (rs : List (Range ℕ)) (start low : ℕ) → low ≤ start → AreWordTokens start rs → Ascends low (filter starts rs)
  ascends [] start low le t = tt
  ascends (r ∷ rs) start low le t = elim (cases_Bool (starts r)) [
    | inl holds ↦ subst (λ b. Ascends low (cond b (r ∷ filter starts rs) (filter starts rs))) (sym holds)
        (omega (arith, t.0), ascends rs r.end r.end (omega arith) t.5)
    | inr fails ↦ subst (λ b. Ascends low (cond b (r ∷ filter starts rs) (filter starts rs))) (sym fails)
        (ascends rs r.end low (omega (arith, t.1)) t.5)
  ]

  any_later : (k : ℕ) (r : Range ℕ) (rs : List (Range ℕ)) → Any (HasIndex k) rs → Any (HasIndex k) (r ∷ rs)
  any_later k r rs any = (suc any.0, any.1, omega (arith, any.2), any.3, any.4)

  any_first : (k : ℕ) (r : Range ℕ) (rs : List (Range ℕ)) → HasIndex k r → Any (HasIndex k) (r ∷ rs)
  any_first k r rs has = (zero, r, omega arith, refl, has)

  any_if : (k : ℕ) (r : Range ℕ) (rs : List (Range ℕ)) (b : Bool) → Any (HasIndex k) rs → Any (HasIndex k) (cond b (r ∷ rs) rs)
  any_if k r rs true any = any_later k r rs any
  any_if k r rs false any = any

  complete : (rs : List (Range ℕ)) (start : ℕ) → AreWordTokens start rs → (k : ℕ) → start ≤ k → k < length text → is_word k ≡ true
      → Any (HasIndex k) (filter starts rs)
  complete [] start t k above below word = absurd (omega (arith, t))
  complete (r ∷ rs) start t k above below word = elim (cases_lt k r.end) [
    | inr le ↦ any_if k r (filter starts rs) (starts r) (complete rs r.end t.5 k le below word)
    | inl lt ↦ elim (cases_Bool (starts r)) [
      | inl holds ↦ subst (λ b. Any (HasIndex k) (cond b (r ∷ filter starts rs) (filter starts rs))) (sym holds)
          (any_first k r (filter starts rs) (omega (arith, t.0), lt))
      | inr fails ↦
          let same : k ≡ r.start = omega (arith, t.0, other_here r rs start t fails) in
          absurd (both_ways (is_word k) (subst (λ j. is_word j ≡ false) (sym same) fails) word)
    ]
  ]

  abbrev all_tokens : List (Range ℕ)
  all_tokens = ranges_between 0 (filter (is_word_end text) (range_with_len 1 (length text)))

  are_tokens : AreWordTokens 0 all_tokens
  are_tokens = tokens (is_word_end text) (length text) (λ some.
      or_left ((length text == length text) || not (is_word (length text - 1))) (not (is_word (length text)))
      (or_left (length text == length text) (not (is_word (length text - 1))) (eq-eqb (length text) (length text) refl)))

  pub words_are : All (IsWordAt text) (filter starts all_tokens)
  words_are = each_word all_tokens 0 (inl refl) are_tokens

  pub words_ascend : Ascends 0 (filter starts all_tokens)
  words_ascend = ascends all_tokens 0 0 (omega arith) are_tokens

  pub words_complete : (k : ℕ) → k < length text → is_word k ≡ true → Any (HasIndex k) (filter starts all_tokens)
  words_complete k lt word = complete all_tokens 0 are_tokens k (omega arith) lt word

  -- ---- the ranges of other bytes

  abbrev is_other : ℕ → Bool
  is_other k = not (is_word k)

  abbrev others : List (Range ℕ) → List (Range ℕ)
  others = filter (λ r. not (starts r))

  abbrev other_bytes : ℕ → ℕ → List (Range ℕ)
  other_bytes start n = map byte_range (filter is_other (range_with_len start n))

  -- the bytes of a word
  skip : (start m n : ℕ) → ((k : ℕ) → start ≤ k → k < start + m → is_word k ≡ true) → other_bytes start (m + n) ≡ other_bytes (start + m) n
  skip start zero n words =
      let e : zero + n ≡ n = omega arith in
      let f : start ≡ start + zero = omega arith in
      ap (other_bytes start) e ∙ ap (λ j. other_bytes j n) f
  skip start (suc m) n words =
      let e : suc m + n ≡ suc (m + n) = omega arith in
      let f : start + 1 + m ≡ start + suc m = omega arith in
      let rest : List ℕ = filter is_other (range_with_len (start + 1) (m + n)) in
      ap (other_bytes start) e
      ∙ ap (λ b. map byte_range (cond (not b) (start ∷ rest) rest)) (words start (omega arith) (omega arith))
      ∙ skip (start + 1) m n (λ k above below. words k (omega arith) (omega arith))
      ∙ ap (λ j. other_bytes j n) f

  other_ranges : (rs : List (Range ℕ)) (start n : ℕ) → start + n ≡ length text → AreWordTokens start rs → others rs ≡ other_bytes start n
  other_ranges [] start n e t =
      let none : zero ≡ n = omega (arith, t) in
      ap (other_bytes start) none
  other_ranges (r ∷ rs) start n e t = elim (cases_Bool (starts r)) [
    | inl holds ↦
        let m : ℕ = r.end - start in
        let first : is_word start ≡ true = subst (λ j. is_word j ≡ true) t.0 holds in
        let split : n ≡ m + (n - m) = omega (arith, t.1, t.2) in
        let next : start + m ≡ r.end = omega (arith, t.1) in
        ap (λ b. cond (not b) (r ∷ others rs) (others rs)) holds
        ∙ other_ranges rs r.end (n - m) (omega (arith, t.1, t.2)) t.5
        ∙ ap (λ j. other_bytes j (n - m)) (sym next)
        ∙ sym (skip start m (n - m) (λ k above below. word_bytes r rs start t first k above (omega (arith, t.1))))
        ∙ ap (other_bytes start) (sym split)
    | inr fails ↦
        let none : is_word start ≡ false = subst (λ j. is_word j ≡ false) t.0 fails in
        let next : r.end ≡ start + 1 = other_here r rs start t fails in
        let rest : List ℕ = filter is_other (range_with_len (start + 1) (n - 1)) in
        let some : suc (n - 1) ≡ n = omega (arith, t.1, t.2) in
        ap (λ b. cond (not b) (r ∷ others rs) (others rs)) fails
        ∙ ap (λ xs. r ∷ xs) (other_ranges rs r.end (n - 1) (omega (arith, t.1, t.2)) t.5 ∙ ap (λ j. other_bytes j (n - 1)) next)
        ∙ ap (λ x. x ∷ other_bytes (start + 1) (n - 1)) (other_is r rs start t fails)
        ∙ ap (λ b. map byte_range (cond (not b) (start ∷ rest) rest)) (sym none)
        ∙ ap (other_bytes start) some
  ]

  pub others_are : others all_tokens ≡ other_bytes 0 (length text)
  others_are = other_ranges all_tokens 0 (length text) (omega arith) are_tokens

pub ruleset word_steps = (words_are, words_ascend, words_complete)

pub ruleset other_steps = (others_are)
