-- Fields of two tables, and the hunks of their comparison.
use Rattle.std.proofs.Common.{◌≡◌, ◌⊎◌, ℕ, ◌-◌, ◌≤◌, ◌==◌, ◌||◌, List, [], ◌∷◌, ◌++◌, length, get_or, refl, ap, sym, ◌∙◌, arith, lit<, inl, inr, length-append, eqb-true, Bool, true, false}
use Rattle.std.proofs.lemmas.Bool.{cases_lt, or_cases, eq-eqb}
use Rattle.std.proofs.lemmas.List.{get_or_append_left, nil_from_length}
use Rattle.jj_diff.specs.declared.diff.hunks.DiffHunk.{DiffHunk}
use Rattle.jj_diff.specs.Tokens.{IsCut, TokenEnds, ends_where}
use Rattle.jj_diff.specs.Hunks.{IsDiff, MatchesEnds, matched_start}
use Rattle.contracts_diffs.specs.Fields.{AreWholeFields, EndsInField, ends_field}
use Rattle.contracts_diffs.proofs.Ends.{common_tokens}
use Rattle.contracts_diffs.proofs.Lines.{end_whole, equal_parts, matches_equal}

or_right : (a b : Bool) → b ≡ true → (a || b) ≡ true
or_right true b e = refl
or_right false b e = e

or_left : (a b : Bool) → a ≡ true → (a || b) ≡ true
or_left a b e = ap (λ c. c || b) e

module _ (separator : ℕ) where
  abbrev is_field_end : TokenEnds
  is_field_end = ends_where (ends_field separator)

  -- a cut between two byte strings
  field_before : (p q : List ℕ) → IsCut is_field_end (p ++ q) (length p) → EndsInField separator p ⊎ (q ≡ [])
  field_before p q cut = elim (cases_lt 0 (length p)) [
    | inr none ↦ inl (inl (nil_from_length p (omega arith)))
    | inl some ↦
        let last : get_or (p ++ q) (length p - 1) 0 ≡ get_or p (length p - 1) 0 = get_or_append_left p q 0 (length p - 1) (omega arith) in
        elim cut [
          | inl none ↦ absurd (omega (arith, none))
          | inr end ↦ elim (or_cases (length p == length (p ++ q)) ((get_or (p ++ q) (length p - 1) 0 == separator) || (get_or (p ++ q) (length p - 1) 0 == 10)) end) [
            | inl e ↦ inr (nil_from_length q (omega (arith, length-append p q, eqb-true (length p) (length (p ++ q)) e)))
            | inr e ↦ elim (or_cases (get_or (p ++ q) (length p - 1) 0 == separator) (get_or (p ++ q) (length p - 1) 0 == 10) e) [
              | inl f ↦ inl (inr (inl (sym last ∙ eqb-true (get_or (p ++ q) (length p - 1) 0) separator f)))
              | inr f ↦ inl (inr (inr (sym last ∙ eqb-true (get_or (p ++ q) (length p - 1) 0) 10 f)))
            ]
          ]
        ]
  ]

  -- whole fields end at a cut
  field_after : (p : List ℕ) → EndsInField separator p → (q : List ℕ) → IsCut is_field_end (p ++ q) (length p)
  field_after p ends q = elim (cases_lt 0 (length p)) [
    | inr none ↦ inl (omega arith)
    | inl some ↦
        let last : get_or (p ++ q) (length p - 1) 0 ≡ get_or p (length p - 1) 0 = get_or_append_left p q 0 (length p - 1) (omega arith) in
        let whole : Bool = length p == length (p ++ q) in
        elim ends [
          | inl none ↦ absurd (omega (arith, ap length none))
          | inr byte ↦ elim byte [
            | inl e ↦ inr (or_right whole _ (or_left (get_or (p ++ q) (length p - 1) 0 == separator) (get_or (p ++ q) (length p - 1) 0 == 10) (eq-eqb (get_or (p ++ q) (length p - 1) 0) separator (last ∙ e))))
            | inr e ↦ inr (or_right whole _ (or_right (get_or (p ++ q) (length p - 1) 0 == separator) (get_or (p ++ q) (length p - 1) 0 == 10) (eq-eqb (get_or (p ++ q) (length p - 1) 0) 10 (last ∙ e))))
          ]
        ]
  ]

  pub whole_fields : (l r : List ℕ) (hs : List DiffHunk) → IsDiff is_field_end (l ∷ r ∷ []) hs → AreWholeFields separator l r hs
  whole_fields l r hs diff = record {
    left_fields = end_whole is_field_end (EndsInField separator) field_before l r hs diff 0 l (lit< tt) refl;
    right_fields = end_whole is_field_end (EndsInField separator) field_before l r hs diff 1 r (lit< tt) refl;
  }

  pub fields_match : (l r : List ℕ) (hs : List DiffHunk) → MatchesEnds is_field_end (l ∷ r ∷ []) hs
      → (fields xs ys : List ℕ) → EndsInField separator fields → l ≡ fields ++ xs → r ≡ fields ++ ys → length fields ≤ matched_start hs
  fields_match l r hs matched fields xs ys ends el er =
      matched.start (length fields) (common_tokens is_field_end l r fields xs ys (field_after fields ends) el er)

pub ruleset field_steps = (whole_fields, fields_match, equal_parts, matches_equal)
