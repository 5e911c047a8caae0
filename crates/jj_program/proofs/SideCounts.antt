-- Counts of a value among the adds and among the removes of the first terms of a merge.
use Rattle.std.proofs.Common.{◌≡◌, ◌∙◌, ℕ, ◌+◌, ◌%◌, ◌<◌, List, [], ◌∷◌, ◌++◌, length, take, ap, arith, get_or}
use Rattle.std.specs.Prelude.{count_by}
use Rattle.std.proofs.lemmas.List.{length-take-le, take_more}
use Rattle.std.proofs.lemmas.List.Sums.{sum_by_push}
use Rattle.jj_merges.specs.Merge.{adds, removes}
use Rattle.jj_merges.proofs.SideAppend.{adds-push_even, adds-push_odd, removes-push_even, removes-push_odd}
use Rattle.jj_program.specs.Lines.{Text}
use Rattle.jj_program.specs.MergeViews.{text_eq}
use Rattle.jj_program.proofs.SortedSides.{same}

module _ (v : Text) (xs : List Text) (i : ℕ) (d : Text) (within : i < length xs) where
  count_pushed : (side : List Text → List Text) → side (take i xs ++ get_or xs i d ∷ []) ≡ side (take i xs) ++ get_or xs i d ∷ []
      → count_by (text_eq v) (side (take (i + 1) xs)) ≡ count_by (text_eq v) (side (take i xs)) + same v (get_or xs i d)
  count_pushed side pushed =
      ap (λ ys. count_by (text_eq v) (side ys)) (take_more xs i d within) ∙ ap (count_by (text_eq v)) pushed ∙ sum_by_push (same v) (side (take i xs)) (get_or xs i d)

  count_kept : (side : List Text → List Text) → side (take i xs ++ get_or xs i d ∷ []) ≡ side (take i xs)
      → count_by (text_eq v) (side (take (i + 1) xs)) ≡ count_by (text_eq v) (side (take i xs))
  count_kept side kept = ap (λ ys. count_by (text_eq v) (side ys)) (take_more xs i d within) ∙ ap (count_by (text_eq v)) kept

  size : length (take i xs) ≡ i
  size = length-take-le i xs (omega arith)

  -- the term at an even index is an add
  pub adds_even : i % 2 ≡ 0 → count_by (text_eq v) (adds (take (i + 1) xs)) ≡ count_by (text_eq v) (adds (take i xs)) + same v (get_or xs i d)
  adds_even even = count_pushed adds (adds-push_even (take i xs) (get_or xs i d) (omega (arith, size, even)))

  pub removes_even : i % 2 ≡ 0 → count_by (text_eq v) (removes (take (i + 1) xs)) ≡ count_by (text_eq v) (removes (take i xs))
  removes_even even = count_kept removes (removes-push_even (take i xs) (get_or xs i d) (omega (arith, size, even)))

  -- and the one at an odd index a remove
  pub adds_odd : i % 2 ≡ 1 → count_by (text_eq v) (adds (take (i + 1) xs)) ≡ count_by (text_eq v) (adds (take i xs))
  adds_odd odd = count_kept adds (adds-push_odd (take i xs) (get_or xs i d) (omega (arith, size, odd)))

  pub removes_odd : i % 2 ≡ 1 → count_by (text_eq v) (removes (take (i + 1) xs)) ≡ count_by (text_eq v) (removes (take i xs)) + same v (get_or xs i d)
  removes_odd odd = count_pushed removes (removes-push_odd (take i xs) (get_or xs i d) (omega (arith, size, odd)))
