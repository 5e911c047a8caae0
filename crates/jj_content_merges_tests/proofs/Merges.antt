-- Merges of three versions: an additive measure, and hunks of which none is resolved.
use Rattle.std.proofs.Common.{◌≡◌, ℕ, ◌+◌, ◌<◌, true, false, cond, not, List, [], ◌∷◌, length, map, get_or, ap, ◌∙◌, arith, lit<}
use Rattle.std.specs.List.{range_with_len}
use Rattle.std.proofs.lemmas.Bool.{and_left, and_parts, not-true}
use Rattle.jj_merges.specs.declared.merge.SameChange.TheVariants.{Keep}
use Rattle.jj_content_merges.specs.declared.files.FileMergeHunkLevel.{FileMergeHunkLevel}
use Rattle.jj_content_merges.specs.declared.files.MergeResult.{MergeResult}
use Rattle.jj_content_merges.specs.declared.files.MergeResult.TheVariants.{Resolved, Conflict}
use Rattle.jj_content_merges.specs.Hunks.{is_resolved, all_resolved, merged_side, merged_terms, none_resolved}
use Rattle.jj_content_merges.specs.Files.{IsContentMerge, IsMergeResult}
use Rattle.jj_content_merges.proofs.SideLaws.{resolved_sides}
use Rattle.jj_content_merges_tests.specs.Merges.{AddsUp}

-- the law of additive measures for f and three versions
abbrev pub Balanced : (List ℕ → ℕ) → FileMergeHunkLevel → List ℕ → List ℕ → List ℕ → Type 0
Balanced f level left base right = (hunks : List (List (List ℕ)))
    → IsContentMerge level Keep (left ∷ base ∷ right ∷ []) hunks
    → f (merged_side 0 hunks) + f (merged_side 2 hunks) + f base ≡ f left + f right + f (merged_side 1 hunks)

pub adds_up : (f : List ℕ → ℕ) (level : FileMergeHunkLevel) (left base right : List ℕ) → Balanced f level left base right
    → (result : MergeResult) → IsMergeResult level Keep (left ∷ base ∷ right ∷ []) result → AddsUp f left base right result
adds_up f level left base right law (Resolved text) m = omega (
  arith,
  law m.hunks m.merge,
  ap f m.outcome.1,
  ap f (resolved_sides 1 m.hunks m.outcome.0),
  ap f (resolved_sides 2 m.hunks m.outcome.0),
)
adds_up f level left base right law (Conflict hunks) m = tt

not_all : (hunks : List (List (List ℕ))) → 0 < length hunks → none_resolved hunks ≡ true → all_resolved hunks ≡ false
not_all [] lt none = absurd (omega arith)
not_all (terms ∷ hunks) lt none =
    and_left (is_resolved terms) (all_resolved hunks)
    (not-true (is_resolved terms) (and_parts (not (is_resolved terms)) (none_resolved hunks) none).0)

-- the sides of three inputs, if each of them is its input
sides : (f : ℕ → List ℕ) (left base right : List ℕ) → f 0 ≡ left → f 1 ≡ base → f 2 ≡ right
    → map f (range_with_len 0 3) ≡ left ∷ base ∷ right ∷ []
sides f left base right a b c =
    ap (λ x. x ∷ f 1 ∷ f 2 ∷ []) a ∙ ap (λ x. left ∷ x ∷ f 2 ∷ []) b ∙ ap (λ x. left ∷ base ∷ x ∷ []) c

pub three_sides : (n : ℕ) (left base right : List ℕ) (hunks : List (List (List ℕ))) → n ≡ 3
    → ((i : ℕ) → i < 3 → merged_side i hunks ≡ get_or (left ∷ base ∷ right ∷ []) i [])
    → 0 < length hunks → none_resolved hunks ≡ true → merged_terms n hunks ≡ left ∷ base ∷ right ∷ []
three_sides n left base right hunks e input some none =
    ap (λ k. merged_terms k hunks) e
    ∙ ap (λ b. cond b (merged_side 0 hunks ∷ []) (map (λ i. merged_side i hunks) (range_with_len 0 3))) (not_all hunks some none)
    ∙ sides (λ i. merged_side i hunks) left base right (input 0 (lit< tt)) (input 1 (lit< tt)) (input 2 (lit< tt))
