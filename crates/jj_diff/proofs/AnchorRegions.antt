-- An anchor of a row as a region of the inputs.
use Rattle.std.proofs.Common.{◌≡◌, ℕ, ◌+◌, ◌<◌, ◌≤◌, List, [], length, get_or, ap, sym, ◌∙◌, subst, arith}
use Rattle.std.specs.List.{slice_range}
use Rattle.jj_diff.specs.Tokens.{IsCut, IsTokenizer, TokenEnds}
use Rattle.jj_diff.specs.Inputs.{AreRanges, AreParts}
use Rattle.jj_diff.specs.Hunks.{AreCuts, HasGap, IsMatch, IsTrimmedGap, AreSums}
use Rattle.jj_diff.specs.Anchors.{IsAnchor}
use Rattle.jj_diff.specs.Tokenizers.{length_range}
use Rattle.jj_diff.proofs.Slices.{range_of_range}

-- A gap between `at` and `starts`, its row, and an anchor in the row.
module _ (form : List ℕ → List ℕ) (t : TokenEnds) (inputs row : List (List ℕ)) (at starts gap_starts gap_ends from to : List ℕ)
    (gap : IsTrimmedGap t inputs at starts gap_starts gap_ends) (is_row : AreParts inputs gap_starts gap_ends row)
    (anchor : IsAnchor form t row from to) where
  part_len : (i : ℕ) → i < length inputs → length (get_or row i []) + get_or gap_starts i 0 ≡ get_or gap_ends i 0
  part_len i lt = omega (
    arith,
    ap length (is_row.parts i lt),
    gap.ranges.ordered i lt,
    length_range (get_or inputs i []) (get_or gap_starts i 0) (get_or gap_ends i 0) (gap.ranges.within i lt),
  )

  pub anchor_first_within : (i : ℕ) → i < length inputs → get_or gap_starts i 0 + get_or from i 0 ≤ length (get_or inputs i [])
  anchor_first_within i lt =
      let mt : i < length row = omega (arith, is_row.len) in
      omega (arith, part_len i lt, gap.ranges.within i lt, anchor.ranges.ordered i mt, anchor.ranges.within i mt)

  pub anchor_last_within : (i : ℕ) → i < length inputs → get_or gap_starts i 0 + get_or to i 0 ≤ length (get_or inputs i [])
  anchor_last_within i lt =
      let mt : i < length row = omega (arith, is_row.len) in
      omega (arith, part_len i lt, gap.ranges.within i lt, anchor.ranges.within i mt)

  cut_at : IsTokenizer t → (n i : ℕ) → i < length inputs → n ≤ length (get_or row i []) → IsCut t (get_or row i []) n
      → IsCut t (get_or inputs i []) (get_or gap_starts i 0 + n)
  cut_at law n i lt le cut =
      law.inner (get_or inputs i []) (get_or gap_starts i 0) (get_or gap_ends i 0) n (gap.ranges.within i lt)
      (omega (arith, part_len i lt)) (gap.before.cuts i lt) (gap.cuts i lt)
      (subst (λ xs. IsCut t xs n) (is_row.parts i lt) cut)

  -- The anchor in the inputs.
  module _ (first last : List ℕ) (first_sums : AreSums inputs gap_starts from first) (last_sums : AreSums inputs gap_starts to last) where
    part_at : (i : ℕ) → i < length inputs → slice_range (get_or inputs i []) (get_or first i 0) (get_or last i 0)
        ≡ slice_range (get_or row i []) (get_or from i 0) (get_or to i 0)
    part_at i lt =
        let mt : i < length row = omega (arith, is_row.len) in
        ap (λ a. slice_range (get_or inputs i []) a (get_or last i 0)) (first_sums.sums_of i lt)
        ∙ ap (λ b. slice_range (get_or inputs i []) (get_or gap_starts i 0 + get_or from i 0) b) (last_sums.sums_of i lt)
        ∙ sym (range_of_range (get_or inputs i []) (get_or gap_starts i 0) (get_or gap_ends i 0) (get_or from i 0) (get_or to i 0)
        (anchor.ranges.ordered i mt) (omega (arith, part_len i lt, anchor.ranges.within i mt)))
        ∙ ap (λ xs. slice_range xs (get_or from i 0) (get_or to i 0)) (sym (is_row.parts i lt))

    pub anchor_before : AreRanges inputs at first
    anchor_before = record {
      starts_len = gap.before.ranges.starts_len;
      ends_len = first_sums.len;
      ordered = λ i lt. omega (arith, first_sums.sums_of i lt, gap.before.ranges.ordered i lt);
      within = λ i lt. omega (arith, first_sums.sums_of i lt, anchor_first_within i lt);
    }

    pub anchor_cuts : IsTokenizer t → AreCuts t inputs first
    anchor_cuts law i lt =
        let mt : i < length row = omega (arith, is_row.len) in
        subst (IsCut t (get_or inputs i [])) (sym (first_sums.sums_of i lt))
        (cut_at law (get_or from i 0) i lt (omega (arith, anchor.ranges.ordered i mt, anchor.ranges.within i mt)) (anchor.start_cuts i mt))

    pub anchor_match : IsTokenizer t → IsMatch form t inputs first last
    anchor_match law = record {
      ranges = record {
        starts_len = first_sums.len;
        ends_len = last_sums.len;
        ordered = λ i lt. omega (arith, first_sums.sums_of i lt, last_sums.sums_of i lt, anchor.ranges.ordered i (omega (arith, is_row.len)));
        within = λ i lt. omega (arith, last_sums.sums_of i lt, anchor_last_within i lt);
      };
      cuts = λ i lt.
          let mt : i < length row = omega (arith, is_row.len) in
          subst (IsCut t (get_or inputs i [])) (sym (last_sums.sums_of i lt)) (cut_at law (get_or to i 0) i lt (anchor.ranges.within i mt) (anchor.end_cuts i mt));
      equal = λ i lt.
          let some : 0 < length inputs = omega arith in
          ap form (part_at i lt) ∙ anchor.equal i (omega (arith, is_row.len)) ∙ ap form (sym (part_at 0 some));
    }

    pub anchor_longer : 0 < length inputs → get_or first 0 0 < get_or last 0 0
    anchor_longer some =
        omega (arith, first_sums.sums_of 0 some, last_sums.sums_of 0 some, anchor.nonempty 0 (omega (arith, is_row.len)))

    pub anchor_gap : 0 < length inputs → HasGap inputs first last
    anchor_gap some = (0, some, anchor_longer some)

    pub anchor_after : AreRanges inputs last starts
    anchor_after = record {
      starts_len = last_sums.len;
      ends_len = gap.after.ranges.ends_len;
      ordered = λ i lt.
          omega (arith, last_sums.sums_of i lt, part_len i lt, anchor.ranges.within i (omega (arith, is_row.len)), gap.after.ranges.ordered i lt);
      within = gap.after.ranges.within;
    }

    -- the gap before the anchor is shorter
    pub anchor_shorter : 0 < length inputs → get_or first 0 0 < get_or starts 0 0
    anchor_shorter some = omega (arith, anchor_longer some, anchor_after.ordered 0 some)
