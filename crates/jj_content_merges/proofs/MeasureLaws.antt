-- An additive measure of a three-way merge: that of the sides less that of the base.
use Rattle.std.proofs.Common.{◌≡◌, ℕ, ◌+◌, cond, List, [], ◌∷◌, length, get_or, ap, sym, ◌∙◌, subst, arith, All, inl, inr}
use Rattle.std.specs.List.{AllZip}
use Rattle.std.specs.Str.{bytes_eq}
use Rattle.std.proofs.lemmas.Bool.{cases_Bool}
use Rattle.std.proofs.lemmas.Cmp.{nat_list_eq_equiv}
use Rattle.std.proofs.lemmas.Slice.Eq.{bytes_eq-Decides}
use Rattle.std.proofs.lemmas.List.Elements.{All-head, All-tail}
use Rattle.jj_diff.specs.Tokens.{TokenEnds}
use Rattle.jj_diff.specs.Inputs.{side}
use Rattle.jj_merges.specs.declared.merge.SameChange.TheVariants.{Keep}
use Rattle.jj_merges.specs.Resolution.{ResolvesTo}
use Rattle.jj_merges.proofs.ThreeWay.{kept}
use Rattle.jj_content_merges.specs.declared.files.FileMergeHunkLevel.{FileMergeHunkLevel}
use Rattle.jj_content_merges.specs.declared.files.FileMergeHunkLevel.TheVariants.{Line, Word}
use Rattle.jj_content_merges.specs.Hunks.{all_resolved, part, merged_side}
use Rattle.jj_content_merges.specs.Files.{IsOutcome, IsTokenMerge, IsWordMerge, IsHunk, IsContentMerge}
use Rattle.jj_content_merges.specs.Measures.{IsAdditive}
use Rattle.jj_content_merges.proofs.SideLaws.{resolved_sides}

-- the measure of the terms' sides less that of their base is that of the row's
abbrev pub Balances : (List ℕ → ℕ) → List (List ℕ) → List (List ℕ) → Type 0
Balances f row terms = f (part 0 terms) + f (part 2 terms) + f (get_or row 1 [])
    ≡ f (get_or row 0 []) + f (get_or row 2 []) + f (part 1 terms)

resolved_measure : (f : List ℕ → ℕ) (l b r v : List ℕ) → ResolvesTo bytes_eq Keep (l ∷ b ∷ r ∷ []) v
    → f v + f v + f b ≡ f l + f r + f v
resolved_measure f l b r v d = elim (kept bytes_eq nat_list_eq_equiv l b r v d) [
  | inl k ↦ omega (arith, ap f ((bytes_eq-Decides b l).0 k.0), ap f ((bytes_eq-Decides v r).0 k.1))
  | inr k ↦ omega (arith, ap f ((bytes_eq-Decides b r).0 k.0), ap f ((bytes_eq-Decides v l).0 k.1))
]

-- a relation of rows of three with their terms that keeps the measure
abbrev pub Keeps : (List ℕ → ℕ) → (List (List ℕ) → List (List ℕ) → Type 0) → Type 0
Keeps f R = (l b r : List ℕ) (terms : List (List ℕ)) → R (l ∷ b ∷ r ∷ []) terms
    → Balances f (l ∷ b ∷ r ∷ []) terms

kept_row : (f : List ℕ → ℕ) (l b r : List ℕ) (terms : List (List ℕ)) → terms ≡ l ∷ b ∷ r ∷ []
    → Balances f (l ∷ b ∷ r ∷ []) terms
kept_row f l b r terms e =
    subst (λ ts. Balances f (l ∷ b ∷ r ∷ []) ts) (sym e) (omega arith)

kept_value : (f : List ℕ → ℕ) (l b r : List ℕ) (terms : List (List ℕ)) (v : List ℕ) → terms ≡ v ∷ []
    → f v + f v + f b ≡ f l + f r + f v → Balances f (l ∷ b ∷ r ∷ []) terms
kept_value f l b r terms v e h = subst (λ ts. Balances f (l ∷ b ∷ r ∷ []) ts) (sym e) h

outcome_measure : (f : List ℕ → ℕ) → Keeps f (IsOutcome Keep)
outcome_measure f l b r terms outcome = elim outcome [
  | inl o ↦ kept_value f l b r terms o.0 o.1 (resolved_measure f l b r o.0 o.2)
  | inr o ↦ kept_row f l b r terms o.0
]

row_measure : (f : List ℕ → ℕ) (R : List (List ℕ) → List (List ℕ) → Type 0) → Keeps f R
    → (row terms : List (List ℕ)) → length row ≡ 3 → R row terms → Balances f row terms
row_measure f R keeps [] terms e r = absurd (omega arith)
row_measure f R keeps (l ∷ []) terms e r = absurd (omega arith)
row_measure f R keeps (l ∷ b ∷ []) terms e r = absurd (omega arith)
row_measure f R keeps (l ∷ b ∷ x ∷ []) terms e r = keeps l b x terms r
row_measure f R keeps (l ∷ b ∷ x ∷ y ∷ row) terms e r = absurd (omega arith)

rows_measure : (f : List ℕ → ℕ) → IsAdditive f → (R : List (List ℕ) → List (List ℕ) → Type 0) → Keeps f R
    → (rows hunks : List (List (List ℕ))) → All (λ row. length row ≡ 3) rows → AllZip R rows hunks
    → f (merged_side 0 hunks) + f (merged_side 2 hunks) + f (side 1 rows)
    ≡ f (side 0 rows) + f (side 2 rows) + f (merged_side 1 hunks)
rows_measure f additive R keeps [] [] width outcomes = omega arith
rows_measure f additive R keeps [] (t ∷ hunks) width outcomes = absurd outcomes
rows_measure f additive R keeps (row ∷ rows) [] width outcomes = absurd outcomes
rows_measure f additive R keeps (row ∷ rows) (t ∷ hunks) width outcomes =
    let w : length row ≡ 3 = All-head (λ row. length row ≡ 3) row rows width in
    let here : f (part 0 t) + f (part 2 t) + f (get_or row 1 []) ≡ f (get_or row 0 []) + f (get_or row 2 []) + f (part 1 t) = row_measure f R keeps row t w outcomes.0 in
    let there : f (merged_side 0 hunks) + f (merged_side 2 hunks) + f (side 1 rows) ≡ f (side 0 rows) + f (side 2 rows) + f (merged_side 1 hunks) = rows_measure f additive R keeps rows hunks (All-tail (λ row. length row ≡ 3) row rows width) outcomes.1 in
    omega (
      arith,
      here,
      there,
      additive.append (part 0 t) (merged_side 0 hunks),
      additive.append (part 1 t) (merged_side 1 hunks),
      additive.append (part 2 t) (merged_side 2 hunks),
      additive.append (get_or row 0 []) (side 0 rows),
      additive.append (get_or row 1 []) (side 1 rows),
      additive.append (get_or row 2 []) (side 2 rows),
    )

token_measure : (f : List ℕ → ℕ) → IsAdditive f → (is_end : TokenEnds) (l b r : List ℕ)
    (hunks : List (List (List ℕ))) → IsTokenMerge is_end Keep (l ∷ b ∷ r ∷ []) hunks
    → f (merged_side 0 hunks) + f (merged_side 2 hunks) + f b ≡ f l + f r + f (merged_side 1 hunks)
token_measure f additive is_end l b r hunks m =
    omega (
      arith,
      rows_measure f additive (IsOutcome Keep) (outcome_measure f) m.rows hunks m.split.width m.outcomes,
      ap f (m.split.sides 0 (omega arith)),
      ap f (m.split.sides 1 (omega arith)),
      ap f (m.split.sides 2 (omega arith)),
    )

word_measure : (f : List ℕ → ℕ) → IsAdditive f → Keeps f (IsWordMerge Keep)
word_measure f additive l b r terms m =
    let v : List ℕ = merged_side 0 m.words in
    elim (cases_Bool (all_resolved m.words)) [
      | inl e ↦ kept_value f l b r terms v (m.outcome ∙ ap (λ x. cond x (v ∷ []) (l ∷ b ∷ r ∷ [])) e)
          (omega (
            arith,
            token_measure f additive _ l b r m.words m.merge,
            ap f (resolved_sides 1 m.words e),
            ap f (resolved_sides 2 m.words e),
          ))
      | inr e ↦ kept_row f l b r terms (m.outcome ∙ ap (λ x. cond x (v ∷ []) (l ∷ b ∷ r ∷ [])) e)
    ]

hunk_measure : (f : List ℕ → ℕ) → IsAdditive f → (level : FileMergeHunkLevel) → Keeps f (IsHunk level Keep)
hunk_measure f additive Line l b r terms outcome = elim outcome [
  | inl o ↦ kept_value f l b r terms o.0 o.1 (resolved_measure f l b r o.0 o.2)
  | inr o ↦ kept_row f l b r terms o.0
]
hunk_measure f additive Word l b r terms outcome = elim outcome [
  | inl o ↦ kept_value f l b r terms o.0 o.1 (resolved_measure f l b r o.0 o.2)
  | inr o ↦ word_measure f additive l b r terms o.0
]

-- the law of a three-way merge
pub merge_measure : (f : List ℕ → ℕ) → IsAdditive f → (level : FileMergeHunkLevel) (left base right : List ℕ)
    (hunks : List (List (List ℕ))) → IsContentMerge level Keep (left ∷ base ∷ right ∷ []) hunks
    → f (merged_side 0 hunks) + f (merged_side 2 hunks) + f base ≡ f left + f right + f (merged_side 1 hunks)
merge_measure f additive level left base right hunks m =
    omega (
      arith,
      rows_measure f additive (IsHunk level Keep) (hunk_measure f additive level) m.rows hunks m.split.width m.outcomes,
      ap f (m.split.sides 0 (omega arith)),
      ap f (m.split.sides 1 (omega arith)),
      ap f (m.split.sides 2 (omega arith)),
    )
