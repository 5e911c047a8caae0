-- Laws of tokenizers: those that look at the bytes before and after, lines, and words.
-- Cited by implementations of the trait of tokenizers: splitting_tokens.
use Rattle.std.proofs.Common.{◌≡◌, ℕ, suc, zero, ◌+◌, ◌-◌, ◌<◌, ◌≤◌, List, length, drop, get_or, refl, ap, sym, ◌∙◌, subst, arith, inl, inr, length-drop, Bool, true, false, not, ◌==◌, ◌||◌}
use Rattle.std.proofs.lemmas.Bool.{cases_lt, eq-eqb}
use Rattle.std.proofs.lemmas.Bool.Decides.{Decides-eqb}
use Rattle.std.proofs.lemmas.List.{length-take-le, get_or-take, get_or-drop}
use Rattle.std.specs.List.{slice_range}
use Rattle.jj_diff.specs.Tokens.{AreEndsToo, TokenEnds, IsCut, IsTokenizer, ends_where, is_line_end, is_word_byte, is_word_end}

-- the byte at an index of a range
range_at : (xs : List ℕ) (a b i : ℕ) → a + i < b
    → get_or (slice_range xs a b) i 0 ≡ get_or xs (a + i) 0
range_at xs a b i lt =
    get_or-take (b - a) (drop a xs) i 0 (omega arith) ∙ get_or-drop a xs i 0

pub length_range : (xs : List ℕ) (a b : ℕ) → b ≤ length xs → length (slice_range xs a b) ≡ b - a
length_range xs a b le = length-take-le (b - a) (drop a xs) (omega (arith, length-drop a xs))

not_eq : (a b : ℕ) → a < b → (a == b) ≡ false
not_eq a b lt = elim (a == b) as (λ t. (a == b) ≡ t → (a == b) ≡ false) [
  | true ↦ λ e. absurd (omega (arith, (Decides-eqb a b).0 e))
  | false ↦ λ e. e
] refl

module _ (splits : ℕ → ℕ → Bool) where
  -- a part has the same bytes before and after as the whole
  same_end : (xs : List ℕ) (a b n : ℕ) → b ≤ length xs → a + suc n < b
      → ends_where splits (slice_range xs a b) (suc n) ≡ ends_where splits xs (a + suc n)
  same_end xs a b n within lt =
      let part : List ℕ = slice_range xs a b in
      let k : a + n ≡ a + suc n - 1 = omega arith in
      let m : suc n - 1 ≡ n = omega arith in
      let before : get_or part (suc n - 1) 0 ≡ get_or xs (a + suc n - 1) 0 =
      ap (λ j. get_or part j 0) m ∙ range_at xs a b n (omega arith) ∙ ap (λ j. get_or xs j 0) k in
      let after : get_or part (suc n) 0 ≡ get_or xs (a + suc n) 0 = range_at xs a b (suc n) lt in
      let in_part : (suc n == length part) ≡ false =
      not_eq (suc n) (length part) (omega (arith, length_range xs a b within)) in
      let in_whole : (a + suc n == length xs) ≡ false =
      not_eq (a + suc n) (length xs) (omega arith) in
      ap (λ c. c || splits (get_or part (suc n - 1) 0) (get_or part (suc n) 0))
      (in_part ∙ sym in_whole)
      ∙ ap (λ x. (a + suc n == length xs) || splits x (get_or part (suc n) 0)) before
      ∙ ap (λ y. (a + suc n == length xs) || splits (get_or xs (a + suc n - 1) 0) y) after

  inner : (xs : List ℕ) (a b n : ℕ) → b ≤ length xs → a + n ≤ b
      → IsCut (ends_where splits) xs a → IsCut (ends_where splits) xs b
      → IsCut (ends_where splits) (slice_range xs a b) n → IsCut (ends_where splits) xs (a + n)
  inner xs a b zero within le first last cut =
      let e : a ≡ a + 0 = omega arith in subst (IsCut (ends_where splits) xs) e first
  inner xs a b (suc n) within le first last cut = elim (cases_lt (a + suc n) b) [
    | inr ge ↦
        let e : b ≡ a + suc n = omega arith in subst (IsCut (ends_where splits) xs) e last
    | inl lt ↦ elim cut [
      | inl none ↦ absurd (omega arith)
      | inr token ↦ inr (sym (same_end xs a b n within lt) ∙ token)
    ]
  ]

  -- a tokenizer that looks at the bytes before and after
  pub splitting_tokens : IsTokenizer (ends_where splits)
  splitting_tokens = record {
    whole = λ text.
        let n : ℕ = length text in
        inr (ap (λ c. c || splits (get_or text (n - 1) 0) (get_or text n 0)) (eq-eqb n n refl));
    inner = inner;
  }

-- a tokenizer with the ends of another one
module _ (e f : TokenEnds) (same : (text : List ℕ) (n : ℕ) → e text n ≡ f text n) where
  cut_here : (text : List ℕ) (n : ℕ) → IsCut e text n → IsCut f text n
  cut_here text n cut = elim cut [
    | inl none ↦ inl none
    | inr token ↦ inr (sym (same text n) ∙ token)
  ]

  cut_there : (text : List ℕ) (n : ℕ) → IsCut f text n → IsCut e text n
  cut_there text n cut = elim cut [
    | inl none ↦ inl none
    | inr token ↦ inr (same text n ∙ token)
  ]

  same_tokens : IsTokenizer e → IsTokenizer f
  same_tokens law = record {
    whole = λ text. cut_here text (length text) (law.whole text);
    inner = λ text a b n within le first last cut.
        cut_here text (a + n) (
        law.inner text a b n within le (cut_there text a first) (cut_there text b last)
        (cut_there (slice_range text a b) n cut));
  }

or_swap : (a b : Bool) → (a || b) ≡ (b || a)
or_swap true true = refl
or_swap true false = refl
or_swap false true = refl
or_swap false false = refl

or_assoc : (a b c : Bool) → (a || (b || c)) ≡ ((a || b) || c)
or_assoc true b c = refl
or_assoc false b c = refl

or_first : (a b c : Bool) → a ≡ true → ((a || b) || c) ≡ true
or_first a b c e = ap (λ d. (d || b) || c) e

or_second : (a b c : Bool) → b ≡ true → ((a || b) || c) ≡ true
or_second true b c e = refl
or_second false b c e = ap (λ d. d || c) e

abbrev is_lf : ℕ → ℕ → Bool
is_lf before after = before == 10

pub line_tokens : IsTokenizer is_line_end
line_tokens = same_tokens (ends_where is_lf) is_line_end
    (λ text n. or_swap (n == length text) (get_or text (n - 1) 0 == 10)) (splitting_tokens is_lf)

-- the byte at this index is in no word
abbrev is_other : List ℕ → ℕ → Bool
is_other text i = not (is_word_byte (get_or text i 0))

abbrev splits_words : ℕ → ℕ → Bool
splits_words before after = not (is_word_byte before) || not (is_word_byte after)

pub word_tokens : IsTokenizer is_word_end
word_tokens = same_tokens (ends_where splits_words) is_word_end
    (λ text n. or_assoc (n == length text) (is_other text (n - 1)) (is_other text n))
    (splitting_tokens splits_words)

line_end_is_word_end : (text : List ℕ) (n : ℕ) (b : Bool) → b ≡ (get_or text (n - 1) 0 == 10)
    → (b || (n == length text)) ≡ true → is_word_end text n ≡ true
line_end_is_word_end text n true e c =
    let byte : get_or text (n - 1) 0 ≡ 10 = (Decides-eqb (get_or text (n - 1) 0) 10).0 (sym e) in
    or_second (n == length text) (is_other text (n - 1)) (is_other text n)
    (ap (λ x. not (is_word_byte x)) byte)
line_end_is_word_end text n false e c =
    or_first (n == length text) (is_other text (n - 1)) (is_other text n) c

-- a line ends where a word or another byte does
pub lines_end_words : AreEndsToo is_line_end is_word_end
lines_end_words text n e = line_end_is_word_end text n (get_or text (n - 1) 0 == 10) refl e
