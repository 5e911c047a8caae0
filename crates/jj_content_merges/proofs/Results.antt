-- The results of merged hunks.
use Rattle.std.proofs.Common.{◌≡◌, ℕ, true, false, cond, List, [], ◌∷◌, length, map, refl, ap, sym, ◌∙◌, subst, All, inl, inr, append-nil, true≢false, Some, None}
use Rattle.std.specs.List.{AllZip, range_with_len}
use Rattle.std.proofs.lemmas.Bool.{cases_Bool}
use Rattle.std.proofs.lemmas.List.Elements.{All-head, All-tail, All-nil, All-cons}
use Rattle.jj_merges.specs.Merge.{IsOdd}
use Rattle.jj_merges.specs.declared.merge.SameChange.{SameChange}
use Rattle.jj_content_merges.specs.declared.files.FileMergeHunkLevel.{FileMergeHunkLevel}
use Rattle.jj_content_merges.specs.declared.files.FileMergeHunkLevel.TheVariants.{Line, Word}
use Rattle.jj_content_merges.specs.declared.files.hunks.MergeHunk.{MergeHunk}
use Rattle.jj_content_merges.specs.Hunks.{all_resolved, merged_side, merged_terms}
use Rattle.jj_content_merges.specs.Files.{terms_of, IsHunk, IsContentMerge, tried_outcome}

-- an outcome has one term, or as many as the row
odd_terms : (level : FileMergeHunkLevel) (same : SameChange) (row terms : List (List ℕ))
    → IsHunk level same row terms → IsOdd (length row) → IsOdd (length terms)
odd_terms Line same row terms outcome odd = elim outcome [
  | inl o ↦ subst (λ ts. IsOdd (length ts)) (sym o.1) refl
  | inr o ↦ subst (λ ts. IsOdd (length ts)) (sym o.0) odd
]
odd_terms Word same row terms outcome odd = elim outcome [
  | inl o ↦ subst (λ ts. IsOdd (length ts)) (sym o.1) refl
  | inr o ↦ elim (cases_Bool (all_resolved o.0.words)) [
    | inl e ↦ subst (λ ts. IsOdd (length ts))
        (sym (o.0.outcome ∙ ap (λ x. cond x (merged_side 0 o.0.words ∷ []) row) e)) refl
    | inr e ↦ subst (λ ts. IsOdd (length ts))
        (sym (o.0.outcome ∙ ap (λ x. cond x (merged_side 0 o.0.words ∷ []) row) e)) odd
  ]
]

odd_zip : (level : FileMergeHunkLevel) (same : SameChange) (n : ℕ) → IsOdd n
    → (rows : List (List (List ℕ))) (hs : List MergeHunk)
    → All (λ row. length row ≡ n) rows → AllZip (IsHunk level same) rows (map terms_of hs)
    → All (λ h. IsOdd (length (terms_of h))) hs
odd_zip level same n odd rows [] width outcomes = All-nil (λ h. IsOdd (length (terms_of h)))
odd_zip level same n odd [] (h ∷ hs) width outcomes = absurd outcomes
odd_zip level same n odd (row ∷ rows) (h ∷ hs) width outcomes =
    All-cons (λ h. IsOdd (length (terms_of h))) h hs
    (odd_terms level same row (terms_of h) outcomes.0
    (subst IsOdd (sym (All-head (λ row. length row ≡ n) row rows width)) odd))
    (odd_zip level same n odd rows hs (All-tail (λ row. length row ≡ n) row rows width) outcomes.1)

pub odd_hunks : (level : FileMergeHunkLevel) (same : SameChange) (inputs : List (List ℕ)) (hs : List MergeHunk)
    → IsContentMerge level same inputs (map terms_of hs) → IsOdd (length inputs)
    → All (λ h. IsOdd (length (terms_of h))) hs
odd_hunks level same inputs hs m odd =
    odd_zip level same (length inputs) odd m.rows hs m.split.width m.outcomes

-- ---- terms that resolve as a whole

pub whole_text : (hunks : List (List (List ℕ))) (text v : List ℕ) → hunks ≡ (v ∷ []) ∷ []
    → text ≡ merged_side 0 hunks → text ≡ v
whole_text hunks text v e f = f ∙ ap (merged_side 0) e ∙ append-nil v

pub whole_conflict : (hunks : List (List (List ℕ))) (v : List ℕ) → hunks ≡ (v ∷ []) ∷ []
    → all_resolved hunks ≡ false → ⊥
whole_conflict hunks v e f = true≢false (sym (ap all_resolved e) ∙ f)

-- ---- outcomes

pub one_term : (n : ℕ) (hunks : List (List (List ℕ))) (text : List ℕ) → all_resolved hunks ≡ true
    → text ≡ merged_side 0 hunks → text ∷ [] ≡ merged_terms n hunks
one_term n hunks text e f =
    ap (λ x. x ∷ []) f ∙ sym (ap (λ b. cond b (merged_side 0 hunks ∷ [])
    (map (λ i. merged_side i hunks) (range_with_len 0 n))) e)

pub more_terms : (n : ℕ) (hunks : List (List (List ℕ))) (sides : List (List ℕ))
    → all_resolved hunks ≡ false → sides ≡ map (λ i. merged_side i hunks) (range_with_len 0 n)
    → sides ≡ merged_terms n hunks
more_terms n hunks sides e f =
    f ∙ sym (ap (λ b. cond b (merged_side 0 hunks ∷ [])
    (map (λ i. merged_side i hunks) (range_with_len 0 n))) e)

pub tried_some : (hunks : List (List (List ℕ))) (text : List ℕ) → all_resolved hunks ≡ true
    → text ≡ merged_side 0 hunks → Some text ≡ tried_outcome hunks
tried_some hunks text e f =
    ap Some f ∙ sym (ap (λ b. cond b (Some (merged_side 0 hunks)) None) e)

pub tried_none : (hunks : List (List (List ℕ))) → all_resolved hunks ≡ false
    → None ≡ tried_outcome hunks
tried_none hunks e = sym (ap (λ b. cond b (Some (merged_side 0 hunks)) None) e)

pub ruleset result_steps = (odd_hunks, whole_text, whole_conflict)
