-- The parts of hunks of a comparison of two versions, and where hunks end.
use Rattle.std.proofs.Common.{◌≡◌, ◌⊎◌, ℕ, suc, ◌-◌, ◌<◌, ◌==◌, List, [], ◌∷◌, ◌++◌, length, map, take, get_or, refl, ap, sym, ◌∙◌, subst, arith, lit<, inl, inr, length-append, append_assoc, append-nil, eqb-true, All}
use Rattle.std.proofs.lemmas.Bool.{cases_lt, or_cases}
use Rattle.std.proofs.lemmas.List.{get_or_append_left, nil_from_length, take_at}
use Rattle.jj_diff.specs.declared.diff.hunks.DiffHunk.{DiffHunk}
use Rattle.jj_diff.specs.Inputs.{side, AreEqualBy}
use Rattle.jj_diff.specs.Tokens.{is_line_end, IsCut, TokenEnds}
use Rattle.jj_diff.specs.Hunks.{row_of, AllMatch, IsDiff, IsDiffBy}
use Rattle.contracts_diffs.specs.Lines.{AreWholeLines, EndsInLine, HasBytes, HasEqualParts, part_of}
use Rattle.contracts_diffs.proofs.Ends.{both}

side-append : (i : ℕ) (hs gs : List DiffHunk)
    → side i (map row_of (hs ++ gs)) ≡ side i (map row_of hs) ++ side i (map row_of gs)
side-append i [] gs = refl
side-append i (h ∷ hs) gs =
    ap (λ xs. part_of i h ++ xs) (side-append i hs gs)
    ∙ sym (append_assoc (part_of i h) (side i (map row_of hs)) (side i (map row_of gs)))

-- a cut between two byte strings
line_before : (p q : List ℕ) → IsCut is_line_end (p ++ q) (length p) → EndsInLine p ⊎ (q ≡ [])
line_before p q cut = elim (cases_lt 0 (length p)) [
  | inr none ↦ inl (inl (nil_from_length p (omega arith)))
  | inl some ↦ elim cut [
    | inl none ↦ absurd (omega (arith, none))
    | inr end ↦ elim (or_cases (get_or (p ++ q) (length p - 1) 0 == 10) (length p == length (p ++ q)) end) [
      | inl e ↦ inl (inr (sym (get_or_append_left p q 0 (length p - 1) (omega arith))
          ∙ eqb-true (get_or (p ++ q) (length p - 1) 0) 10 e))
      | inr e ↦ inr (nil_from_length q (omega (arith, length-append p q, eqb-true (length p) (length (p ++ q)) e)))
    ]
  ]
]

pub has_bytes : (l r : List ℕ) (hs : List DiffHunk) → IsDiff is_line_end (l ∷ r ∷ []) hs → All HasBytes hs
has_bytes l r hs diff k d lt =
    let some : (i : ℕ) × (i < length (row_of (get_or hs k d))) × (0 < length (part_of i (get_or hs k d))) = (diff.hunks k d lt).nonempty in
    both (λ i. 0 < length (part_of i (get_or hs k d)) → HasBytes (get_or hs k d)) inl inr some.0 (omega (arith, some.1, (diff.hunks k d lt).len)) some.2

pub equal_parts : (form : List ℕ → List ℕ) (is_end : TokenEnds) (l r : List ℕ) (hs : List DiffHunk) → IsDiffBy form is_end (l ∷ r ∷ []) hs
    → All (HasEqualParts form) hs
equal_parts form is_end l r hs diff k d lt = λ m. sym ((diff.hunks k d lt).equal m 1 (omega (arith, (diff.hunks k d lt).len)))

-- Hunks whose tokens end in one way. Each ends so, or with the version.
module _ (is_end : TokenEnds) (Ends : List ℕ → Type 0)
    (before : (p q : List ℕ) → IsCut is_end (p ++ q) (length p) → Ends p ⊎ (q ≡ []))
    (l r : List ℕ) (hs : List DiffHunk) (diff : IsDiff is_end (l ∷ r ∷ []) hs) where
  pub end_whole : (i : ℕ) (version : List ℕ) → i < 2 → get_or (l ∷ r ∷ []) i [] ≡ version
      → (earlier later : List DiffHunk) → hs ≡ earlier ++ later
      → Ends (side i (map row_of earlier)) ⊎ (side i (map row_of earlier) ≡ version)
  end_whole i version lt is earlier later e =
      let p : List ℕ = side i (map row_of earlier) in
      let q : List ℕ = side i (map row_of later) in
      let text : get_or (l ∷ r ∷ []) i [] ≡ p ++ q =
      sym (diff.sides i lt) ∙ ap (λ gs. side i (map row_of gs)) e ∙ side-append i earlier later in
      let first : take (length earlier) hs ≡ earlier = ap (take (length earlier)) e ∙ take_at earlier later (length earlier) refl in
      let within : length earlier < suc (length hs) = omega (arith, ap length e, length-append earlier later) in
      elim (before p q (
      subst (λ xs. IsCut is_end xs (length p)) text (
      subst (λ gs. IsCut is_end (get_or (l ∷ r ∷ []) i []) (length (side i (map row_of gs)))) first (
      diff.cuts (length earlier) i (omega arith) lt)))) [
        | inl ends ↦ inl ends
        | inr none ↦ inr (sym (append-nil p) ∙ ap (λ xs. p ++ xs) (sym none) ∙ sym text ∙ is)
      ]

pub whole_lines : (l r : List ℕ) (hs : List DiffHunk) → IsDiff is_line_end (l ∷ r ∷ []) hs → AreWholeLines l r hs
whole_lines l r hs diff = record {
  left_lines = end_whole is_line_end EndsInLine line_before l r hs diff 0 l (lit< tt) refl;
  right_lines = end_whole is_line_end EndsInLine line_before l r hs diff 1 r (lit< tt) refl;
}

-- two inputs with one canonical form
pub equal_by : (form : List ℕ → List ℕ) (l r : List ℕ) → form l ≡ form r → AreEqualBy form (l ∷ r ∷ [])
equal_by form l r e = both (λ i. form (get_or (l ∷ r ∷ []) i []) ≡ form l) refl (sym e)

pub matches_equal : (form : List ℕ → List ℕ) (l r : List ℕ) (hs : List DiffHunk) → (AreEqualBy form (l ∷ r ∷ []) → AllMatch hs)
    → form l ≡ form r → AllMatch hs
matches_equal form l r hs identity e = identity (equal_by form l r e)

pub ruleset hunk_steps = (has_bytes, equal_parts, whole_lines, matches_equal)
