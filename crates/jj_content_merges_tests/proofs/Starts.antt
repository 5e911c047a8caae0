-- Lines that all versions start with are in no conflict.
use Rattle.std.proofs.Common.{◌≡◌, ℕ, suc, zero, ◌+◌, ◌<◌, ◌≤◌, List, [], ◌∷◌, ◌++◌, length, map, take, get_or, refl, ap, sym, ◌∙◌, subst, arith, inl, inr, append-nil}
use Rattle.std.specs.List.{AllZip}
use Rattle.std.specs.Str.{bytes_eq}
use Rattle.jj_diff.specs.declared.diff.hunks.DiffHunk.{DiffHunk}
use Rattle.jj_diff.specs.declared.diff.hunks.DiffHunkKind.{DiffHunkKind}
use Rattle.jj_diff.specs.declared.diff.hunks.DiffHunkKind.TheVariants.{Matching, Different}
use Rattle.jj_diff.specs.Inputs.{side}
use Rattle.jj_diff.specs.Tokens.{is_line_end, IsCut}
use Rattle.jj_diff.specs.Ends.{IsCommonStart}
use Rattle.jj_diff.specs.Hunks.{row_of, kind_len}
use Rattle.jj_merges.specs.declared.merge.SameChange.{SameChange}
use Rattle.jj_merges.specs.Resolution.{ResolvesTo}
use Rattle.jj_content_merges.specs.declared.files.FileMergeHunkLevel.{FileMergeHunkLevel}
use Rattle.jj_content_merges.specs.Comparisons.{IsComparison, IsMatching, IsTight, MatchesAt, hunk_start}
use Rattle.jj_content_merges.specs.Files.{IsContentMerge, IsHunk}
use Rattle.jj_content_merges_tests.specs.Merges.{KeepsStart}

-- the start of both is before the end of the first hunk, which matches
first_matches : (kind : DiffHunkKind) (n len k : ℕ) → n ≤ kind_len kind len → k < n → (kind ≡ Matching) × (k < len)
first_matches Matching n len k le lt = (refl, omega (arith, le, lt))
first_matches Different n len k le lt = absurd (omega (arith, le, lt))

start_matches : (base other : List ℕ) (hunks : List DiffHunk) (n k : ℕ) → IsComparison base other hunks
    → IsCommonStart is_line_end (base ∷ other ∷ []) n → k < n → MatchesAt hunks k
start_matches base other [] n k compared common lt = absurd (omega (arith, compared.start n common, lt))
start_matches base other (h ∷ hunks) n k compared common lt =
    let first : (h.kind ≡ Matching) × (k < length (get_or (row_of h) 0 [])) =
    first_matches h.kind n (length (get_or (row_of h) 0 [])) k (compared.start n common) lt in record {
      index = 0;
      within = omega arith;
      matching = λ hunk e. subst (λ g. g.kind ≡ Matching) e first.0;
      start = omega arith;
      end = omega (arith, first.1, ap length (append-nil (get_or (row_of h) 0 [])));
    }

module _ (l b r : List ℕ) (n : ℕ) (common : IsCommonStart is_line_end (l ∷ b ∷ r ∷ []) n) where
  two_within : (i j : ℕ) → i < 3 → j < 3 → (m : ℕ) → m < 2
      → n ≤ length (get_or (get_or (l ∷ b ∷ r ∷ []) i [] ∷ get_or (l ∷ b ∷ r ∷ []) j [] ∷ []) m [])
  two_within i j i3 j3 zero lt = common.within i i3
  two_within i j i3 j3 (suc zero) lt = common.within j j3
  two_within i j i3 j3 (suc (suc m)) lt = absurd (omega (arith, lt))

  two_equal : (i j : ℕ) → i < 3 → j < 3 → (m : ℕ) → m < 2
      → take n (get_or (get_or (l ∷ b ∷ r ∷ []) i [] ∷ get_or (l ∷ b ∷ r ∷ []) j [] ∷ []) m []) ≡ take n (get_or (l ∷ b ∷ r ∷ []) i [])
  two_equal i j i3 j3 zero lt = refl
  two_equal i j i3 j3 (suc zero) lt = common.equal j j3 ∙ sym (common.equal i i3)
  two_equal i j i3 j3 (suc (suc m)) lt = absurd (omega (arith, lt))

  two_cuts : (i j : ℕ) → i < 3 → j < 3 → (m : ℕ) → m < 2
      → IsCut is_line_end (get_or (get_or (l ∷ b ∷ r ∷ []) i [] ∷ get_or (l ∷ b ∷ r ∷ []) j [] ∷ []) m []) n
  two_cuts i j i3 j3 zero lt = common.cuts i i3
  two_cuts i j i3 j3 (suc zero) lt = common.cuts j j3
  two_cuts i j i3 j3 (suc (suc m)) lt = absurd (omega (arith, lt))

  pick : (i j : ℕ) → i < 3 → j < 3 → IsCommonStart is_line_end (get_or (l ∷ b ∷ r ∷ []) i [] ∷ get_or (l ∷ b ∷ r ∷ []) j [] ∷ []) n
  pick i j i3 j3 = record {
    some = omega arith;
    within = two_within i j i3 j3;
    equal = two_equal i j i3 j3;
    cuts = two_cuts i j i3 j3;
  }

  -- a row with a byte of the start resolves
  resolves : (same : SameChange) (row : List (List ℕ)) (start end k : ℕ) → IsTight same l b r row start end
      → start ≤ k → k < end → k < n → (v : List ℕ) × ResolvesTo bytes_eq same row v
  resolves same row start end k (inl found) after before lt = found
  resolves same row start end k (inr none) after before lt =
      absurd (none.none k after before
      (start_matches b l none.lefts n k none.left_compared (pick 1 0 (omega arith) (omega arith)) lt)
      (start_matches b r none.rights n k none.right_compared (pick 1 2 (omega arith) (omega arith)) lt))

one_term : (level : FileMergeHunkLevel) (same : SameChange) (row terms : List (List ℕ)) → IsHunk level same row terms
    → (v : List ℕ) × ResolvesTo bytes_eq same row v → length terms ≡ 1
one_term level same row terms (inl o) found = ap length o.1
one_term level same row terms (inr o) found = absurd (o.1 found.0 found.1)

hunk_of : (R : List (List ℕ) → List (List ℕ) → Type 0) (rows hunks : List (List (List ℕ))) (m : ℕ) → AllZip R rows hunks
    → m < length rows → R (get_or rows m []) (get_or hunks m [])
hunk_of R [] hunks m zip lt = absurd (omega (arith, lt))
hunk_of R (row ∷ rows) [] m zip lt = absurd zip
hunk_of R (row ∷ rows) (h ∷ hunks) zero zip lt = zip.0
hunk_of R (row ∷ rows) (h ∷ hunks) (suc m) zip lt = hunk_of R rows hunks m zip.1 (omega (arith, lt))

pub keeps_start : (level : FileMergeHunkLevel) (same : SameChange) (l b r : List ℕ) (hunks : List (List (List ℕ))) (n : ℕ)
    → IsContentMerge level same (l ∷ b ∷ r ∷ []) hunks → IsCommonStart is_line_end (l ∷ b ∷ r ∷ []) n
    → KeepsStart n (l ∷ b ∷ r ∷ []) hunks
keeps_start level same l b r hunks n merge common = record {
  rows = merge.rows;
  split = merge.split;
  kept = λ m k lt after before first.
      one_term level same (get_or merge.rows m []) (get_or hunks m []) (hunk_of (IsHunk level same) merge.rows hunks m merge.outcomes lt)
      (resolves l b r n common same (get_or merge.rows m []) _ _ k (merge.tight m lt) after before first);
}
