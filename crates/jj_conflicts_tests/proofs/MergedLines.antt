-- Hunks of a merge of whole lines can be rendered and parsed.
use Rattle.std.proofs.Common.{◌≡◌, ◌⊎◌, ℕ, suc, ◌+◌, ◌-◌, ◌<◌, ◌≤◌, Bool, true, false, ◌==◌, ◌||◌, List, [], ◌∷◌, ◌++◌, length, take, get_or, refl, ap, sym, ◌∙◌, subst, arith, inl, inr, append_assoc, append-nil, length-append, eqb-true, All}
use Rattle.std.specs.List.{AllZip}
use Rattle.std.specs.Str.{bytes_eq}
use Rattle.std.proofs.lemmas.Cmp.{nat_list_eq_equiv}
use Rattle.std.proofs.lemmas.Slice.Eq.{bytes_eq-Decides}
use Rattle.std.proofs.lemmas.List.Elements.{All-head, All-tail}
use Rattle.std.proofs.lemmas.Grind.{common_steps, elements}
use Rattle.jj_diff.specs.Inputs.{side}
use Rattle.jj_diff.specs.Tokens.{is_line_end, IsCut}
use Rattle.jj_merges.specs.declared.merge.SameChange.{SameChange}
use Rattle.jj_merges.specs.declared.merge.SameChange.TheVariants.{Keep, Accept}
use Rattle.jj_merges.specs.Resolution.{ResolvesTo}
use Rattle.jj_merges.proofs.ThreeWay.{kept, accepted}
use Rattle.jj_content_merges.specs.declared.files.FileMergeHunkLevel.TheVariants.{Line}
use Rattle.jj_content_merges.specs.Hunks.{resolved_hunk, joined_after, joined}
use Rattle.jj_content_merges.specs.Files.{IsHunk, IsContentMerge}
use Rattle.jj_conflicts.specs.Lines.{is_terminated}
use Rattle.jj_conflicts.specs.Conditions.{IsMergeOfLines}
use Rattle.jj_conflicts.specs.Conditions.{joined as joined_again}
use Rattle.jj_conflicts.proofs.LineLaws.{terminated_at_end, terminated-append}

abbrev pub IsLines : List ℕ → Type 0
IsLines text = is_terminated text ≡ true

-- ---- parts of inputs between ends of lines

last_of : (before part after : List ℕ) → 0 < length part
    → get_or (before ++ (part ++ after)) (length (before ++ part) - 1) 0
    ≡ get_or part (length part - 1) 0
last_of before part after lt = grind (arith, common_steps, elements)

or_cases : (a b : Bool) → (a || b) ≡ true → (a ≡ true) ⊎ (b ≡ true)
or_cases true b e = inl refl
or_cases false b e = inr e

part_lines : (before part after : List ℕ) → IsLines (before ++ (part ++ after))
    → IsCut is_line_end (before ++ (part ++ after)) (length (before ++ part)) → IsLines part
part_lines before [] after whole cut = refl
part_lines before (b ∷ bs) after whole cut =
    let part : List ℕ = b ∷ bs in
    let some : 0 < length part = omega arith in
    let text : List ℕ = before ++ (part ++ after) in
    let n : ℕ = length (before ++ part) in
    let long : length text ≡ length before + (length part + length after)
    = length-append before (part ++ after) ∙ ap (λ k. length before + k) (length-append part after) in
    let m : n ≡ length before + length part = length-append before part in
    let from : (get_or text (n - 1) 0 == 10) ≡ true → IsLines part
    = λ e. terminated_at_end part some ∙ ap (λ d. d == 10) (sym (last_of before part after some)) ∙ e in
    elim cut [
      | inl none ↦ absurd (omega (arith, none, m))
      | inr end ↦ elim (or_cases (get_or text (n - 1) 0 == 10) (n == length text) end) [
        | inl e ↦ from e
        | inr e ↦
            let same : n ≡ length text = eqb-true n (length text) e in
            from (ap (λ k. get_or text (k - 1) 0 == 10) same
            ∙ sym (terminated_at_end text (omega (arith, same, m))) ∙ whole)
      ]
    ]

-- each part i of the rows, which follow `before` in an input of whole lines that they do not cut
module _ (i : ℕ) where
  abbrev Cuts : List ℕ → List (List (List ℕ)) → Type 0
  Cuts before rows = (k : ℕ) → k ≤ length rows
      → IsCut is_line_end (before ++ side i rows) (length (before ++ side i (take k rows)))

  abbrev pub HasLines : List (List (List ℕ)) → Type 0
  HasLines [] = Unit {0}
  HasLines (row ∷ rows) = IsLines (get_or row i []) × HasLines rows

  rows_lines : (before : List ℕ) (rows : List (List (List ℕ))) → IsLines (before ++ side i rows)
      → Cuts before rows → HasLines rows
  rows_lines before [] whole cuts = tt
  rows_lines before (row ∷ rows) whole cuts =
      let part : List ℕ = get_or row i [] in
      let again : (before ++ part) ++ side i rows ≡ before ++ (part ++ side i rows)
      = append_assoc before part (side i rows) in (
        part_lines before part (side i rows) whole
            (subst (λ p. IsCut is_line_end (before ++ (part ++ side i rows)) (length (before ++ p)))
            (append-nil part) (cuts 1 (omega arith))),
        rows_lines (before ++ part) rows (subst IsLines (sym again) whole)
            (λ k le. subst (λ text. IsCut is_line_end text (length ((before ++ part) ++ side i (take k rows))))
            (sym again)
            (subst (λ p. IsCut is_line_end (before ++ (part ++ side i rows)) (length p))
            (sym (append_assoc before part (side i (take k rows))))
            (cuts (suc k) (omega arith)))),
      )

  pub input_lines : (text : List ℕ) (rows : List (List (List ℕ))) → side i rows ≡ text
      → IsLines text
      → ((k : ℕ) → k ≤ length rows → IsCut is_line_end text (length (side i (take k rows))))
      → HasLines rows
  input_lines text rows e lines cuts =
      rows_lines [] rows (subst IsLines (sym e) lines)
      (λ k le. subst (λ x. IsCut is_line_end x (length (side i (take k rows)))) (sym e) (cuts k le))

-- ---- hunks of whole lines

-- a resolved hunk of whole lines, or a conflict of two sides
abbrev pub IsLineHunk : List (List ℕ) → Type 0
IsLineHunk terms = ((v : List ℕ) × (terms ≡ v ∷ []) × IsLines v)
    ⊎ ((l : List ℕ) × (b : List ℕ) × (r : List ℕ) × (terms ≡ l ∷ b ∷ r ∷ []))

abbrev pub AreLineHunks : List (List (List ℕ)) → Type 0
AreLineHunks [] = Unit {0}
AreLineHunks (terms ∷ hunks) = IsLineHunk terms × AreLineHunks hunks

same_lines : (v w : List ℕ) → bytes_eq v w ≡ true → IsLines w → IsLines v
same_lines v w e lines = subst IsLines (sym ((bytes_eq-Decides v w).0 e)) lines

resolved_lines : (same : SameChange) (l b r v : List ℕ)
    → ResolvesTo bytes_eq same (l ∷ b ∷ r ∷ []) v → IsLines l → IsLines r → IsLines v
resolved_lines Keep l b r v d left right = elim (kept bytes_eq nat_list_eq_equiv l b r v d) [
  | inl k ↦ same_lines v r k.1 right
  | inr k ↦ same_lines v l k.1 left
]
resolved_lines Accept l b r v d left right = elim (accepted bytes_eq nat_list_eq_equiv l b r v d) [
  | inl k ↦ same_lines v r k.1 right
  | inr k ↦ elim k [
    | inl k ↦ same_lines v l k.1 left
    | inr k ↦ same_lines v l k.1 left
  ]
]

row_hunk : (same : SameChange) (row terms : List (List ℕ)) → length row ≡ 3
    → IsLines (get_or row 0 []) → IsLines (get_or row 2 []) → IsHunk Line same row terms
    → IsLineHunk terms
row_hunk same [] terms e left right hunk = absurd (omega arith)
row_hunk same (l ∷ []) terms e left right hunk = absurd (omega arith)
row_hunk same (l ∷ b ∷ []) terms e left right hunk = absurd (omega arith)
row_hunk same (l ∷ b ∷ r ∷ []) terms e left right hunk = elim hunk [
  | inl o ↦ inl (o.0, o.1, resolved_lines same l b r o.0 o.2 left right)
  | inr o ↦ inr (l, b, r, o.0)
]
row_hunk same (l ∷ b ∷ r ∷ x ∷ row) terms e left right hunk = absurd (omega arith)

line_hunks : (same : SameChange) (rows hunks : List (List (List ℕ)))
    → All (λ row. length row ≡ 3) rows → HasLines 0 rows → HasLines 2 rows
    → AllZip (IsHunk Line same) rows hunks → AreLineHunks hunks
line_hunks same [] [] width left right outcomes = tt
line_hunks same [] (t ∷ hunks) width left right outcomes = absurd outcomes
line_hunks same (row ∷ rows) [] width left right outcomes = absurd outcomes
line_hunks same (row ∷ rows) (t ∷ hunks) width left right outcomes = (
  row_hunk same row t (All-head (λ row. length row ≡ 3) row rows width) left.0 right.0 outcomes.0,
  line_hunks same rows hunks (All-tail (λ row. length row ≡ 3) row rows width) left.1 right.1 outcomes.1,
)

pub merged_lines : (same : SameChange) (l b r : List ℕ) (hunks : List (List (List ℕ)))
    → IsContentMerge Line same (l ∷ b ∷ r ∷ []) hunks → IsLines l → IsLines r
    → AreLineHunks hunks
merged_lines same l b r hunks m left right =
    let lt : 0 < 3 = omega arith in
    let lt2 : 2 < 3 = omega arith in
    line_hunks same m.rows hunks m.split.width
    (input_lines 0 l m.rows (m.split.sides 0 lt) left (λ k le. m.split.cuts k 0 le lt))
    (input_lines 2 r m.rows (m.split.sides 2 lt2) right (λ k le. m.split.cuts k 2 le lt2))
    m.outcomes

-- ---- joined hunks

after_lines : (text : List ℕ) (hunks : List (List (List ℕ))) → IsLines text
    → IsMergeOfLines 2 hunks → IsMergeOfLines 2 (resolved_hunk text ++ hunks)
after_lines [] hunks lines merge = merge
after_lines (b ∷ bs) hunks lines merge = (inl lines, merge)

alone : (text : List ℕ) → IsLines text → IsMergeOfLines 2 (resolved_hunk text)
alone [] lines = tt
alone (b ∷ bs) lines = (inl lines, tt)

joined_lines : (text : List ℕ) (hunks : List (List (List ℕ))) → IsLines text → AreLineHunks hunks
    → IsMergeOfLines 2 (joined_after text hunks)
joined_lines text [] lines each = alone text lines
joined_lines text (terms ∷ hunks) lines each = elim each.0 [
  | inl h ↦ subst (λ ts. IsMergeOfLines 2 (joined_after text (ts ∷ hunks))) (sym h.1)
      (joined_lines (text ++ h.0) hunks (terminated-append text h.0 lines h.2) each.1)
  | inr h ↦ subst (λ ts. IsMergeOfLines 2 (joined_after text (ts ∷ hunks))) (sym h.3)
      (after_lines text ((h.0 ∷ h.1 ∷ h.2 ∷ []) ∷ joined_after [] hunks) lines
      (refl, joined_lines [] hunks refl each.1))
]

pub merge_of_lines : (hunks : List (List (List ℕ))) → AreLineHunks hunks
    → IsMergeOfLines 2 (joined hunks)
merge_of_lines hunks each = joined_lines [] hunks refl each

alone_again : (text : List ℕ) → joined_again (resolved_hunk text) ≡ resolved_hunk text
alone_again [] = refl
alone_again (b ∷ bs) = refl

after_again : (text : List ℕ) (l b r : List ℕ) (rest : List (List (List ℕ)))
    → joined_again rest ≡ rest
    → joined_again (resolved_hunk text ++ (l ∷ b ∷ r ∷ []) ∷ rest)
    ≡ resolved_hunk text ++ (l ∷ b ∷ r ∷ []) ∷ rest
after_again [] l b r rest e = ap (λ hs. (l ∷ b ∷ r ∷ []) ∷ hs) e
after_again (c ∷ cs) l b r rest e = ap (λ hs. ((c ∷ cs) ∷ []) ∷ (l ∷ b ∷ r ∷ []) ∷ hs) e

joined_twice : (text : List ℕ) (hunks : List (List (List ℕ))) → AreLineHunks hunks
    → joined_again (joined_after text hunks) ≡ joined_after text hunks
joined_twice text [] each = alone_again text
joined_twice text (terms ∷ hunks) each = elim each.0 [
  | inl h ↦ subst
      (λ ts. joined_again (joined_after text (ts ∷ hunks)) ≡ joined_after text (ts ∷ hunks))
      (sym h.1) (joined_twice (text ++ h.0) hunks each.1)
  | inr h ↦ subst
      (λ ts. joined_again (joined_after text (ts ∷ hunks)) ≡ joined_after text (ts ∷ hunks))
      (sym h.3)
      (after_again text h.0 h.1 h.2 (joined_after [] hunks) (joined_twice [] hunks each.1))
]

pub comes_back : (hunks : List (List (List ℕ))) → AreLineHunks hunks
    → joined_again (joined hunks) ≡ joined hunks
comes_back hunks each = joined_twice [] hunks each

-- the joined hunks of such a merge can be parsed, and joining them again changes nothing
pub joined_merge : (same : SameChange) (l b r : List ℕ) (hunks merged : List (List (List ℕ)))
    → IsContentMerge Line same (l ∷ b ∷ r ∷ []) hunks → IsLines l → IsLines r
    → merged ≡ joined hunks → IsMergeOfLines 2 merged × (joined_again merged ≡ merged)
joined_merge same l b r hunks merged merge left right e =
    let each : AreLineHunks hunks = merged_lines same l b r hunks merge left right in (
      subst (IsMergeOfLines 2) (sym e) (merge_of_lines hunks each),
      ap joined_again e ∙ comes_back hunks each ∙ sym e,
    )
