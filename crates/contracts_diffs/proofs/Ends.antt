-- Common lines of two byte strings as common starts and ends of the inputs of a comparison.
use Rattle.std.proofs.Common.{◌≡◌, ℕ, suc, zero, ◌+◌, ◌-◌, ◌<◌, ◌≤◌, List, [], ◌∷◌, ◌++◌, length, take, drop, get_or, refl, ap, sym, ◌∙◌, subst, arith, lit<, inl, inr, length-append, Bool, true, ◌||◌, eq-eqb, All}
use Rattle.std.proofs.lemmas.Bool.{cases_lt}
use Rattle.std.proofs.lemmas.Grind.{common_steps, elements}
use Rattle.jj_diff.specs.declared.diff.hunks.DiffHunk.{DiffHunk}
use Rattle.jj_diff.specs.Tokens.{is_line_end, IsCut, TokenEnds}
use Rattle.jj_diff.specs.Ends.{IsCommonStart, IsCommonEnd, suffix}
use Rattle.jj_diff.specs.Hunks.{matched_start, matched_end, MatchesEnds, AreTrimmed, AreTrimmedBy}
use Rattle.jj_diff.specs.Anchors.{token_offsets, StandsOnceBy, HasFewTokens, IsCommonTokenBy}
use Rattle.contracts_diffs.specs.Lines.{EndsInLine, StartsApart, EndsApart, HasFewLines, SharesNoLine, SharesNoLineBy}

last_of : (xs ys : List ℕ) (n : ℕ) → n ≡ length xs → 0 < n → get_or xs (length xs - 1) 0 ≡ 10 → get_or (xs ++ ys) (n - 1) 0 ≡ 10
last_of xs ys n e lt last = grind (arith, common_steps, elements)

or_true : (a b : Bool) → a ≡ true → (a || b) ≡ true
or_true a b e = ap (λ c. c || b) e

end_of_line : (text : List ℕ) (n : ℕ) → get_or text (n - 1) 0 ≡ 10 → is_line_end text n ≡ true
end_of_line text n last = or_true _ _ (eq-eqb (get_or text (n - 1) 0) 10 last)

-- the end of whole lines is a cut
cut_after : (xs ys : List ℕ) → EndsInLine xs → IsCut is_line_end (xs ++ ys) (length xs)
cut_after xs ys ends = elim ends [
  | inl none ↦ inl (ap length none)
  | inr last ↦ elim (cases_lt 0 (length xs)) [
    | inl lt ↦ inr (end_of_line (xs ++ ys) (length xs) (last_of xs ys (length xs) refl lt last))
    | inr le ↦ inl (omega arith)
  ]
]

-- a fact on each of two inputs
pub both : (P : ℕ → Type 0) → P 0 → P 1 → (i : ℕ) → i < 2 → P i
both P p q zero lt = p
both P p q (suc zero) lt = q
both P p q (suc (suc i)) lt = absurd (omega arith)

take-whole : (xs ys : List ℕ) → take (length xs) (xs ++ ys) ≡ xs
take-whole xs ys = grind (arith, common_steps)

drop-whole : (xs ys : List ℕ) (n : ℕ) → n ≡ length xs → drop n (xs ++ ys) ≡ ys
drop-whole xs ys n e = grind (arith, common_steps)

-- equal tokens at the start of both
pub common_tokens : (is_end : TokenEnds) (l r tokens xs ys : List ℕ) → ((zs : List ℕ) → IsCut is_end (tokens ++ zs) (length tokens))
    → l ≡ tokens ++ xs → r ≡ tokens ++ ys → IsCommonStart is_end (l ∷ r ∷ []) (length tokens)
common_tokens is_end l r tokens xs ys cut el er = record {
  some = lit< tt;
  within = both (λ i. length tokens ≤ length (get_or (l ∷ r ∷ []) i [])) (omega (arith, ap length el, length-append tokens xs)) (omega (arith, ap length er, length-append tokens ys));
  equal = both (λ i. take (length tokens) (get_or (l ∷ r ∷ []) i []) ≡ take (length tokens) l) refl
      (ap (take (length tokens)) er ∙ take-whole tokens ys ∙ sym (ap (take (length tokens)) el ∙ take-whole tokens xs));
  cuts = both (λ i. IsCut is_end (get_or (l ∷ r ∷ []) i []) (length tokens))
      (subst (λ zs. IsCut is_end zs (length tokens)) (sym el) (cut xs))
      (subst (λ zs. IsCut is_end zs (length tokens)) (sym er) (cut ys));
}

-- equal lines at the start of both
common_start : (l r lines xs ys : List ℕ) → EndsInLine lines → l ≡ lines ++ xs → r ≡ lines ++ ys
    → IsCommonStart is_line_end (l ∷ r ∷ []) (length lines)
common_start l r lines xs ys ends = common_tokens is_line_end l r lines xs ys (λ zs. cut_after lines zs ends)

pub start_matches : (l r : List ℕ) (hs : List DiffHunk) → MatchesEnds is_line_end (l ∷ r ∷ []) hs
    → (lines xs ys : List ℕ) → EndsInLine lines → l ≡ lines ++ xs → r ≡ lines ++ ys → length lines ≤ matched_start hs
start_matches l r hs matched lines xs ys ends el er = matched.start (length lines) (common_start l r lines xs ys ends el er)

suffix-whole : (l xs lines : List ℕ) → l ≡ xs ++ lines → suffix (length lines) l ≡ lines
suffix-whole l xs lines e =
    let n : length l - length lines ≡ length xs = omega (arith, ap length e, length-append xs lines) in
    ap (λ k. drop k l) n ∙ ap (drop (length xs)) e ∙ drop-whole xs lines (length xs) refl

cut_before : (l xs lines : List ℕ) → EndsInLine xs → l ≡ xs ++ lines → IsCut is_line_end l (length l - length lines)
cut_before l xs lines ends e =
    let n : length xs ≡ length l - length lines = omega (arith, ap length e, length-append xs lines) in
    subst (IsCut is_line_end l) n (subst (λ zs. IsCut is_line_end zs (length xs)) (sym e) (cut_after xs lines ends))

-- equal lines at the end of both, after the first `start` bytes
common_end : (l r : List ℕ) (start : ℕ) (xs ys lines : List ℕ) → EndsInLine xs → EndsInLine ys → l ≡ xs ++ lines → r ≡ ys ++ lines
    → start ≤ length xs → start ≤ length ys → IsCommonEnd is_line_end (l ∷ r ∷ []) start (length lines)
common_end l r start xs ys lines ends_xs ends_ys el er lx ly = record {
  some = lit< tt;
  within = both (λ i. start + length lines ≤ length (get_or (l ∷ r ∷ []) i []))
      (omega (arith, ap length el, length-append xs lines)) (omega (arith, ap length er, length-append ys lines));
  equal = both (λ i. suffix (length lines) (get_or (l ∷ r ∷ []) i []) ≡ suffix (length lines) l) refl
      (suffix-whole r ys lines er ∙ sym (suffix-whole l xs lines el));
  cuts = both (λ i. IsCut is_line_end (get_or (l ∷ r ∷ []) i []) (length (get_or (l ∷ r ∷ []) i []) - length lines))
      (cut_before l xs lines ends_xs el) (cut_before r ys lines ends_ys er);
}

pub end_matches : (l r : List ℕ) (hs : List DiffHunk) → MatchesEnds is_line_end (l ∷ r ∷ []) hs
    → (xs ys lines : List ℕ) → EndsInLine xs → EndsInLine ys → l ≡ xs ++ lines → r ≡ ys ++ lines
    → matched_start hs ≤ length xs → matched_start hs ≤ length ys → length lines ≤ matched_end hs
end_matches l r hs matched xs ys lines ends_xs ends_ys el er lx ly =
    matched.end (length lines) (common_end l r (matched_start hs) xs ys lines ends_xs ends_ys el er lx ly)

no_line : (line : List ℕ) → length line ≡ 0 → line ≡ []
no_line [] e = refl
no_line (b ∷ bs) e = absurd (omega arith)

pub starts_apart : (hs : List DiffHunk) → AreTrimmed is_line_end hs → All StartsApart hs
starts_apart hs trimmed k d lt = λ kind line xs ys ends e. no_line line (
    (trimmed k d lt kind).start (length line)
    (subst (λ row. IsCommonStart is_line_end row (length line)) (sym e) (common_start (line ++ xs) (line ++ ys) line xs ys ends refl refl)))

pub ends_apart : (hs : List DiffHunk) → AreTrimmed is_line_end hs → All EndsApart hs
ends_apart hs trimmed k d lt = λ kind xs ys line ends_xs ends_ys e. no_line line (
    (trimmed k d lt kind).end (length line)
    (subst (λ row. IsCommonEnd is_line_end row 0 (length line)) (sym e)
    (common_end (xs ++ line) (ys ++ line) 0 xs ys line ends_xs ends_ys refl refl (omega arith) (omega arith))))

-- a line that both of two versions have once under a comparison
common_line : (form : List ℕ → List ℕ) (left right line : List ℕ) → StandsOnceBy form is_line_end left line
    → StandsOnceBy form is_line_end right line → IsCommonTokenBy form is_line_end (left ∷ right ∷ []) line
common_line form left right line once again = record {
  some = lit< tt;
  once = both (λ i. StandsOnceBy form is_line_end (get_or (left ∷ right ∷ []) i []) line) once again;
}

few_lines : (left right : List ℕ) → HasFewLines left → HasFewLines right → HasFewTokens is_line_end (left ∷ right ∷ [])
few_lines left right few more =
    both (λ i. length (token_offsets is_line_end (get_or (left ∷ right ∷ []) i [])) ≤ 65) (omega (arith, few)) (omega (arith, more))

pub shares_no_line_by : (form : List ℕ → List ℕ) (hs : List DiffHunk) → AreTrimmedBy form is_line_end hs
    → All (SharesNoLineBy form) hs
shares_no_line_by form hs trimmed k d lt = λ kind left right line e few more once again.
    (trimmed k d lt kind).once
    (subst (HasFewTokens is_line_end) (sym e) (few_lines left right few more)) line
    (subst (λ row. IsCommonTokenBy form is_line_end row line) (sym e) (common_line form left right line once again))

pub shares_no_line : (hs : List DiffHunk) → AreTrimmed is_line_end hs → All SharesNoLine hs
shares_no_line = shares_no_line_by (λ text. text)

pub ruleset apart_steps = (starts_apart, ends_apart, shares_no_line)

pub ruleset ends_steps = (start_matches, end_matches)
