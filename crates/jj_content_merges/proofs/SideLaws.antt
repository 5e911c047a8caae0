-- Sides of merged hunks: of joined ones, of resolved ones, and of those of which none is resolved.
use Rattle.std.proofs.Common.{◌≡◌, ℕ, ◌<◌, true, cond, not, List, [], ◌∷◌, ◌++◌, length, get_or, refl, ap, sym, ◌∙◌, inl, inr, append_assoc, append-nil, true≢false}
use Rattle.std.specs.List.{AllZip}
use Rattle.std.proofs.lemmas.Bool.{cases_Bool, and_parts}
use Rattle.jj_diff.specs.Inputs.{side}
use Rattle.jj_merges.specs.declared.merge.SameChange.{SameChange}
use Rattle.jj_content_merges.specs.declared.files.FileMergeHunkLevel.{FileMergeHunkLevel}
use Rattle.jj_content_merges.specs.declared.files.FileMergeHunkLevel.TheVariants.{Line, Word}
use Rattle.jj_content_merges.specs.Hunks.{is_resolved, all_resolved, none_resolved, part, merged_side, resolved_hunk, joined_after, joined}
use Rattle.jj_content_merges.specs.Files.{IsHunk, IsContentMerge}

-- ---- resolved hunks

resolved_part : (i : ℕ) (terms : List (List ℕ)) → is_resolved terms ≡ true → part i terms ≡ part 0 terms
resolved_part i [] h = refl
resolved_part i (v ∷ []) h = refl
resolved_part i (v ∷ w ∷ terms) h = absurd (true≢false (sym h))

pub resolved_sides : (i : ℕ) (hunks : List (List (List ℕ))) → all_resolved hunks ≡ true
    → merged_side i hunks ≡ merged_side 0 hunks
resolved_sides i [] h = refl
resolved_sides i (terms ∷ hunks) h =
    let p : (is_resolved terms ≡ true) × (all_resolved hunks ≡ true)
    = and_parts (is_resolved terms) (all_resolved hunks) h in
    ap (λ x. x ++ merged_side i hunks) (resolved_part i terms p.0)
    ∙ ap (λ x. part 0 terms ++ x) (resolved_sides i hunks p.1)

-- ---- joined hunks

side-append : (i : ℕ) (xs ys : List (List (List ℕ)))
    → merged_side i (xs ++ ys) ≡ merged_side i xs ++ merged_side i ys
side-append i [] ys = refl
side-append i (x ∷ xs) ys =
    ap (λ z. part i x ++ z) (side-append i xs ys)
    ∙ sym (append_assoc (part i x) (merged_side i xs) (merged_side i ys))

side-resolved : (i : ℕ) (text : List ℕ) → merged_side i (resolved_hunk text) ≡ text
side-resolved i [] = refl
side-resolved i (b ∷ bs) = append-nil (b ∷ bs)

after_conflict : (i : ℕ) (text : List ℕ) (terms : List (List ℕ)) (hunks rest : List (List (List ℕ)))
    → merged_side i rest ≡ merged_side i hunks
    → merged_side i (resolved_hunk text ++ terms ∷ rest) ≡ text ++ merged_side i (terms ∷ hunks)
after_conflict i text terms hunks rest e =
    side-append i (resolved_hunk text) (terms ∷ rest)
    ∙ ap (λ x. x ++ (part i terms ++ merged_side i rest)) (side-resolved i text)
    ∙ ap (λ x. text ++ (part i terms ++ x)) e

joined_after_side : (i : ℕ) (text : List ℕ) (hunks : List (List (List ℕ)))
    → merged_side i (joined_after text hunks) ≡ text ++ merged_side i hunks
joined_after_side i text [] = side-resolved i text ∙ sym (append-nil text)
joined_after_side i text ([] ∷ hunks) =
    after_conflict i text [] hunks (joined_after [] hunks) (joined_after_side i [] hunks)
joined_after_side i text ((v ∷ []) ∷ hunks) =
    joined_after_side i (text ++ v) hunks ∙ append_assoc text v (merged_side i hunks)
joined_after_side i text ((v ∷ w ∷ terms) ∷ hunks) =
    after_conflict i text (v ∷ w ∷ terms) hunks (joined_after [] hunks) (joined_after_side i [] hunks)

pub joined_side : (i : ℕ) (hunks : List (List (List ℕ))) → merged_side i (joined hunks) ≡ merged_side i hunks
joined_side i hunks = joined_after_side i [] hunks

-- ---- conflicts only

conflict_part : (i : ℕ) (row : List (List ℕ)) → not (is_resolved row) ≡ true → part i row ≡ get_or row i []
conflict_part i [] h = refl
conflict_part i (v ∷ []) h = absurd (true≢false (sym h))
conflict_part i (v ∷ w ∷ row) h = refl

-- a hunk that is a conflict is its row
conflict_row : (level : FileMergeHunkLevel) (same : SameChange) (row terms : List (List ℕ))
    → IsHunk level same row terms → not (is_resolved terms) ≡ true → terms ≡ row
conflict_row Line same row terms outcome h = elim outcome [
  | inl o ↦ absurd (true≢false (sym (sym (ap (λ ts. not (is_resolved ts)) o.1) ∙ h)))
  | inr o ↦ o.0
]
conflict_row Word same row terms outcome h = elim outcome [
  | inl o ↦ absurd (true≢false (sym (sym (ap (λ ts. not (is_resolved ts)) o.1) ∙ h)))
  | inr o ↦ elim (cases_Bool (all_resolved o.0.words)) [
    | inl e ↦ absurd (true≢false (sym (sym (ap (λ ts. not (is_resolved ts))
        (o.0.outcome ∙ ap (λ x. cond x (merged_side 0 o.0.words ∷ []) row) e)) ∙ h)))
    | inr e ↦ o.0.outcome ∙ ap (λ x. cond x (merged_side 0 o.0.words ∷ []) row) e
  ]
]

conflict_sides : (level : FileMergeHunkLevel) (same : SameChange) (i : ℕ) (rows hunks : List (List (List ℕ)))
    → AllZip (IsHunk level same) rows hunks → none_resolved hunks ≡ true → merged_side i hunks ≡ side i rows
conflict_sides level same i [] [] outcomes h = refl
conflict_sides level same i [] (t ∷ hunks) outcomes h = absurd outcomes
conflict_sides level same i (row ∷ rows) [] outcomes h = absurd outcomes
conflict_sides level same i (row ∷ rows) (t ∷ hunks) outcomes h =
    let p : (not (is_resolved t) ≡ true) × (none_resolved hunks ≡ true)
    = and_parts (not (is_resolved t)) (none_resolved hunks) h in
    let e : t ≡ row = conflict_row level same row t outcomes.0 p.0 in
    ap (λ x. x ++ merged_side i hunks) (conflict_part i t p.0 ∙ ap (λ ts. get_or ts i []) e)
    ∙ ap (λ x. get_or row i [] ++ x) (conflict_sides level same i rows hunks outcomes.1 p.1)

pub unresolved_side : (level : FileMergeHunkLevel) (same : SameChange) (inputs : List (List ℕ))
    (hunks : List (List (List ℕ))) → IsContentMerge level same inputs hunks → none_resolved hunks ≡ true
    → (i : ℕ) → i < length inputs → merged_side i hunks ≡ get_or inputs i []
unresolved_side level same inputs hunks m h i lt =
    conflict_sides level same i m.rows hunks m.outcomes h ∙ m.split.sides i lt
