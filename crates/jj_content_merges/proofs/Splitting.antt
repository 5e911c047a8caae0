-- Rows as they are cut from the inputs.
use Rattle.std.proofs.Common.{◌≡◌, ℕ, suc, zero, ◌+◌, ◌<◌, ◌≤◌, List, [], ◌∷◌, ◌++◌, length, map, take, get_or, Bor, refl, ap, sym, ◌∙◌, subst, arith, All, inl, inr, replicate, length-append, append-nil, Vec, Global}
use Rattle.std.proofs.lemmas.Bool.{cases_lt}
use Rattle.std.proofs.lemmas.List.{take_all, length-take-le, take-append-le, map_push}
use Rattle.std.proofs.lemmas.List.Elements.{All-push, All-nil}
use Rattle.std.proofs.lemmas.Grind.{common_steps, elements}
use Rattle.std.specs.List.{slice_range}
use Rattle.jj_diff.specs.Inputs.{bytes_of, side, AreRanges, AreParts}
use Rattle.jj_diff.specs.Tokens.{IsCut, IsTokenizer, TokenEnds}
use Rattle.jj_diff.specs.Hunks.{AreCuts, AreLimits, AreStarts}
use Rattle.jj_diff.proofs.HunkEnds.{starts_of}
use Rattle.jj_diff.proofs.Rows.{take-slice_range, side-push, length-bytes_of}
use Rattle.jj_content_merges.specs.Rows.{parts_of, rows_of, IsNextRow, IsPrefixSplit}
use Rattle.jj_content_merges.specs.Files.{IsSplit}

no_rows : (i k : ℕ) → side i (take k []) ≡ []
no_rows i zero = refl
no_rows i (suc k) = refl

module _ (t : TokenEnds) (inputs : List (List ℕ)) where
  -- no row up to the start
  pub split_start : (at : List ℕ) → AreStarts inputs 0 at → IsPrefixSplit t inputs [] at
  split_start at starts = record {
    len = starts.len;
    within = λ i lt. omega (arith, starts.starts i lt);
    width = All-nil (λ row. length row ≡ length inputs);
    sides = λ i lt. rw (starts.starts i lt) refl;
    cuts = λ k i le lt. inl (ap length (no_rows i k));
  }

  module _ (rows : List (List (List ℕ))) (row : List (List ℕ)) (at ends : List ℕ) where
    pushed_side : IsPrefixSplit t inputs rows at → AreRanges inputs at ends → AreParts inputs at ends row
        → (i : ℕ) → i < length inputs → side i (rows ++ row ∷ []) ≡ take (get_or ends i 0) (get_or inputs i [])
    pushed_side before ranges is_row i lt =
        side-push i rows row
        ∙ ap (λ xs. xs ++ get_or row i []) (before.sides i lt)
        ∙ ap (λ xs. take (get_or at i 0) (get_or inputs i []) ++ xs) (is_row.parts i lt)
        ∙ take-slice_range (get_or inputs i []) (get_or at i 0) (get_or ends i 0) (ranges.ordered i lt)

    -- one more row
    split_more : IsPrefixSplit t inputs rows at → AreRanges inputs at ends → AreCuts t inputs ends
        → AreParts inputs at ends row → IsPrefixSplit t inputs (rows ++ row ∷ []) ends
    split_more before ranges are_cuts is_row = record {
      len = ranges.ends_len;
      within = ranges.within;
      width = All-push (λ r. length r ≡ length inputs) rows row before.width is_row.len;
      sides = pushed_side before ranges is_row;
      cuts = λ k i le lt. elim (cases_lt (length rows) k) [
        | inl past ↦
            let whole : take k (rows ++ row ∷ []) ≡ rows ++ row ∷ [] = take_all k (rows ++ row ∷ []) (omega (arith, length-append rows (row ∷ []))) in
            let len : length (side i (take k (rows ++ row ∷ []))) ≡ get_or ends i 0 =
            ap (λ rs. length (side i rs)) whole ∙ ap length (pushed_side before ranges is_row i lt)
            ∙ length-take-le (get_or ends i 0) (get_or inputs i []) (ranges.within i lt) in
            subst (λ n. IsCut t (get_or inputs i []) n) (sym len) (are_cuts i lt)
        | inr below ↦
            subst (λ rs. IsCut t (get_or inputs i []) (length (side i rs))) (sym (take-append-le k rows (row ∷ []) below)) (before.cuts k i below lt)
      ];
    }

  pub split_push : (rows : List (Vec (Bor (List ℕ)) Global)) (row : Vec (Bor (List ℕ)) Global) (at ends : List ℕ)
      → IsPrefixSplit t inputs (rows_of rows) at → AreRanges inputs at ends → AreCuts t inputs ends
      → AreParts inputs at ends (bytes_of row.items) → IsPrefixSplit t inputs (rows_of (rows ++ row ∷ [])) ends
  split_push rows row at ends before ranges are_cuts is_row =
      subst (λ rs. IsPrefixSplit t inputs rs ends) (sym (map_push parts_of rows row))
      (split_more (rows_of rows) (bytes_of row.items) at ends before ranges are_cuts is_row)

  pub next_row : (rows : List (Vec (Bor (List ℕ)) Global)) (row : Vec (Bor (List ℕ)) Global) (at ends : List ℕ)
      → AreParts inputs at ends (bytes_of row.items)
      → IsNextRow inputs (rows_of rows) at ends (rows_of (rows ++ row ∷ []))
  next_row rows row at ends is_row = inr (bytes_of row.items, is_row, map_push parts_of rows row)

  pub no_row : (rows : List (List (List ℕ))) (at ends : List ℕ) → at ≡ ends → IsNextRow inputs rows at ends rows
  no_row rows at ends e = inl (e, refl)

  -- from any offsets to the ends
  pub ranges_to_ends : (rows : List (List (List ℕ))) (at ends : List ℕ) → IsPrefixSplit t inputs rows at
      → AreLimits inputs 0 ends → AreRanges inputs at ends
  ranges_to_ends rows at ends before limits = record {
    starts_len = before.len;
    ends_len = limits.len;
    ordered = λ i lt. omega (arith, before.within i lt, limits.limits i lt);
    within = λ i lt. omega (arith, limits.limits i lt);
  }

  -- the rows reach the ends
  pub split_whole : (rows : List (List (List ℕ))) (ends : List ℕ) → IsPrefixSplit t inputs rows ends
      → AreLimits inputs 0 ends → IsSplit t inputs rows
  split_whole rows ends before limits = record {
    width = before.width;
    sides = λ i lt. before.sides i lt ∙ take_all (get_or ends i 0) (get_or inputs i []) (omega (arith, limits.limits i lt));
    cuts = before.cuts;
  }

pub cuts_at_ends : (t : TokenEnds) → IsTokenizer t → (inputs : List (List ℕ)) (ends : List ℕ)
    → AreLimits inputs 0 ends → AreCuts t inputs ends
cuts_at_ends t law inputs ends limits i lt =
    let e : length (get_or inputs i []) ≡ get_or ends i 0 = omega (arith, limits.limits i lt) in
    subst (IsCut t (get_or inputs i [])) e (law.whole (get_or inputs i []))

pub ruleset start_steps = (starts_of)

pub ruleset split_steps = (split_push, next_row, no_row, split_start, ranges_to_ends, split_whole, length-bytes_of)
