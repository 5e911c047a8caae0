-- Gaps between what matches, without common starts and ends.
use Rattle.std.proofs.Common.{◌≡◌, ℕ, ◌+◌, ◌-◌, ◌<◌, ◌≤◌, List, [], ◌++◌, length, take, drop, get_or, refl, ap, sym, ◌∙◌, subst, arith}
use Rattle.std.proofs.lemmas.List.{take-take, take_all}
use Rattle.std.proofs.Math.Seq.{take-add}
use Rattle.std.specs.List.{slice_range}
use Rattle.jj_diff.specs.Tokens.{IsCut, IsTokenizer, TokenEnds}
use Rattle.jj_diff.specs.Inputs.{AreRanges, AreParts}
use Rattle.jj_diff.specs.Ends.{suffix, IsCommonStart, IsCommonEnd}
use Rattle.jj_diff.specs.Hunks.{AreCuts, HasTrimmedEnds, IsTrimmedGap, AreMoved, AreMovedBack}
use Rattle.jj_diff.specs.Tokenizers.{length_range}
use Rattle.jj_diff.proofs.Slices.{range_of_range, range_join, range_start, range_end}

-- One part xs of a gap, its range from p to d, and what is equal at the ends of that range.
module _ (xs : List ℕ) (p d : ℕ) where
  -- the start of the part and n bytes more
  start_of : (n : ℕ) → p + n ≤ d → take (p + n) xs ≡ take p xs ++ take n (slice_range xs p d)
  start_of n le = take-add p n xs ∙ ap (λ ys. take p xs ++ ys) (sym (take-take n (d - p) (drop p xs) (omega arith)))

  whole_range : (a b : ℕ) → a ≡ 0 → b ≡ length xs → slice_range xs a b ≡ xs
  whole_range a b e f =
      ap (λ k. slice_range xs k b) e ∙ ap (λ k. slice_range xs 0 k) f ∙ take_all (length xs - 0) xs (omega arith)

  suffix_range : (n : ℕ) → n ≤ length xs → suffix n xs ≡ slice_range xs (length xs - n) (length xs)
  suffix_range n le =
      ap (suffix n) (sym (whole_range 0 (length xs) refl refl)) ∙ range_end xs 0 (length xs) n (omega arith) (omega arith)

  -- the end of the part and n bytes more
  end_of : (e n : ℕ) → d + e ≡ length xs → p + n ≤ d → suffix (e + n) xs ≡ suffix n (slice_range xs p d) ++ suffix e xs
  end_of e n f le =
      let a : length xs - (e + n) ≡ d - n = omega arith in
      let b : length xs - e ≡ d = omega arith in
      suffix_range (e + n) (omega arith) ∙ ap (λ k. slice_range xs k (length xs)) a
      ∙ sym (range_join xs (d - n) d (length xs) (omega arith) (omega arith))
      ∙ ap (λ ys. ys ++ slice_range xs d (length xs)) (sym (range_end xs p d n le (omega arith)))
      ∙ ap (λ k. suffix n (slice_range xs p d) ++ slice_range xs k (length xs)) (sym b)
      ∙ ap (λ ys. suffix n (slice_range xs p d) ++ ys) (sym (suffix_range e (omega arith)))

-- A row of parts of which p bytes at the start and e at the end are equal, and no more.
module _ (t : TokenEnds) (law : IsTokenizer t) (row middle : List (List ℕ)) (p e : ℕ) (start : IsCommonStart t row p) (end : IsCommonEnd t row p e)
    (len : length middle ≡ length row)
    (parts : (i : ℕ) → i < length row → get_or middle i [] ≡ slice_range (get_or row i []) p (length (get_or row i []) - e)) where
  middle_len : (i : ℕ) → i < length row → length (get_or middle i []) + p + e ≡ length (get_or row i [])
  middle_len i lt = omega (arith, ap length (parts i lt), end.within i lt, length_range (get_or row i []) p (length (get_or row i []) - e) (omega arith))

  longer_start : (n : ℕ) → IsCommonStart t middle n → IsCommonStart t row (p + n)
  longer_start n common = record {
    some = start.some;
    within = λ i lt. omega (arith, middle_len i lt, common.within i (omega arith));
    equal = λ i lt.
        let mt : i < length middle = omega arith in
        let le : p + n ≤ length (get_or row i []) - e = omega (arith, middle_len i lt, common.within i mt) in
        let le0 : p + n ≤ length (get_or row 0 []) - e = omega (arith, middle_len 0 start.some, common.within 0 common.some) in
        start_of (get_or row i []) p (length (get_or row i []) - e) n le
        ∙ ap (λ xs. xs ++ take n (slice_range (get_or row i []) p (length (get_or row i []) - e))) (start.equal i lt)
        ∙ ap (λ xs. take p (get_or row 0 []) ++ take n xs) (sym (parts i lt))
        ∙ ap (λ xs. take p (get_or row 0 []) ++ xs) (common.equal i mt)
        ∙ ap (λ xs. take p (get_or row 0 []) ++ take n xs) (parts 0 start.some)
        ∙ sym (start_of (get_or row 0 []) p (length (get_or row 0 []) - e) n le0);
    cuts = λ i lt.
        let mt : i < length middle = omega arith in
        law.inner (get_or row i []) p (length (get_or row i []) - e) n (omega arith)
        (omega (arith, middle_len i lt, common.within i mt)) (start.cuts i lt) (end.cuts i lt)
        (subst (λ xs. IsCut t xs n) (parts i lt) (common.cuts i mt));
  }

  longer_end : (n : ℕ) → IsCommonEnd t middle 0 n → IsCommonEnd t row p (e + n)
  longer_end n common = record {
    some = start.some;
    within = λ i lt. omega (arith, middle_len i lt, common.within i (omega arith));
    equal = λ i lt.
        let mt : i < length middle = omega arith in
        let at : length (get_or row i []) - e + e ≡ length (get_or row i []) = omega (arith, end.within i lt) in
        let at0 : length (get_or row 0 []) - e + e ≡ length (get_or row 0 []) = omega (arith, end.within 0 start.some) in
        let le : p + n ≤ length (get_or row i []) - e = omega (arith, middle_len i lt, common.within i mt) in
        let le0 : p + n ≤ length (get_or row 0 []) - e = omega (arith, middle_len 0 start.some, common.within 0 common.some) in
        end_of (get_or row i []) p (length (get_or row i []) - e) e n at le
        ∙ ap (λ xs. suffix n (slice_range (get_or row i []) p (length (get_or row i []) - e)) ++ xs) (end.equal i lt)
        ∙ ap (λ xs. suffix n xs ++ suffix e (get_or row 0 [])) (sym (parts i lt))
        ∙ ap (λ xs. xs ++ suffix e (get_or row 0 [])) (common.equal i mt)
        ∙ ap (λ xs. suffix n xs ++ suffix e (get_or row 0 [])) (parts 0 start.some)
        ∙ sym (end_of (get_or row 0 []) p (length (get_or row 0 []) - e) e n at0 le0);
    cuts = λ i lt.
        let mt : i < length middle = omega arith in
        let k : p + (length (get_or middle i []) - n) ≡ length (get_or row i []) - (e + n) = omega (arith, middle_len i lt, common.within i mt) in
        subst (IsCut t (get_or row i [])) k (
        law.inner (get_or row i []) p (length (get_or row i []) - e) (length (get_or middle i []) - n) (omega arith)
        (omega (arith, middle_len i lt)) (start.cuts i lt) (end.cuts i lt)
        (subst (λ xs. IsCut t xs (length (get_or middle i []) - n)) (parts i lt) (common.cuts i mt)));
  }

  pub trimmed_middle : ((n : ℕ) → IsCommonStart t row n → n ≤ p) → ((n : ℕ) → IsCommonEnd t row p n → n ≤ e) → HasTrimmedEnds t middle
  trimmed_middle longest_start longest_end = record {
    start = λ n common. omega (arith, longest_start (p + n) (longer_start n common));
    end = λ n common. omega (arith, longest_end (e + n) (longer_end n common));
  }

-- The gap of which `row` is the part of each input.
module _ (t : TokenEnds) (inputs row : List (List ℕ)) (starts ends first last : List ℕ) (p e : ℕ) where
  pub gap_some : 0 < length inputs → AreParts inputs starts ends row → 0 < length row
  gap_some some is_row = omega (arith, is_row.len)

  part_len : AreRanges inputs starts ends → AreParts inputs starts ends row → (i : ℕ) → i < length inputs
      → length (get_or row i []) + get_or starts i 0 ≡ get_or ends i 0
  part_len ranges is_row i lt = omega (
    arith,
    ap length (is_row.parts i lt),
    ranges.ordered i lt,
    length_range (get_or inputs i []) (get_or starts i 0) (get_or ends i 0) (ranges.within i lt),
  )

  pub first_within : AreRanges inputs starts ends → AreParts inputs starts ends row → IsCommonStart t row p
      → (i : ℕ) → i < length inputs → get_or starts i 0 + p ≤ length (get_or inputs i [])
  first_within ranges is_row start i lt =
      omega (arith, part_len ranges is_row i lt, ranges.within i lt, start.within i (omega (arith, is_row.len)))

  pub last_within : AreRanges inputs starts ends → AreParts inputs starts ends row → IsCommonEnd t row p e
      → (i : ℕ) → i < length inputs → e ≤ get_or ends i 0
  last_within ranges is_row end i lt =
      omega (arith, part_len ranges is_row i lt, end.within i (omega (arith, is_row.len)))

  start_part : (i : ℕ) → i < length inputs → AreRanges inputs starts ends → AreParts inputs starts ends row → IsCommonStart t row p
      → AreMoved inputs starts p first → slice_range (get_or inputs i []) (get_or starts i 0) (get_or first i 0) ≡ take p (get_or row i [])
  start_part i lt ranges is_row start to =
      ap (λ b. slice_range (get_or inputs i []) (get_or starts i 0) b) (to.moved i lt)
      ∙ sym (range_start (get_or inputs i []) (get_or starts i 0) (get_or ends i 0) p
      (omega (arith, part_len ranges is_row i lt, start.within i (omega (arith, is_row.len)))))
      ∙ ap (take p) (sym (is_row.parts i lt))

  end_part : (i : ℕ) → i < length inputs → AreRanges inputs starts ends → AreParts inputs starts ends row → IsCommonEnd t row p e
      → AreMovedBack inputs ends e last → slice_range (get_or inputs i []) (get_or last i 0) (get_or ends i 0) ≡ suffix e (get_or row i [])
  end_part i lt ranges is_row end back =
      let a : get_or last i 0 ≡ get_or ends i 0 - e = omega (arith, back.moved i lt) in
      ap (λ k. slice_range (get_or inputs i []) k (get_or ends i 0)) a
      ∙ sym (range_end (get_or inputs i []) (get_or starts i 0) (get_or ends i 0) e
      (omega (arith, part_len ranges is_row i lt, end.within i (omega (arith, is_row.len)))) (ranges.within i lt))
      ∙ ap (suffix e) (sym (is_row.parts i lt))

  last_cut : IsTokenizer t → (i : ℕ) → i < length inputs → AreRanges inputs starts ends → AreCuts t inputs starts → AreCuts t inputs ends
      → AreParts inputs starts ends row → IsCommonEnd t row p e → AreMovedBack inputs ends e last
      → IsCut t (get_or inputs i []) (get_or last i 0)
  last_cut law i lt ranges cut_starts cut_ends is_row end back =
      let mt : i < length row = omega (arith, is_row.len) in
      let n : ℕ = length (get_or row i []) - e in
      let a : get_or starts i 0 + n ≡ get_or last i 0 = omega (arith, back.moved i lt, part_len ranges is_row i lt, end.within i mt) in
      subst (IsCut t (get_or inputs i [])) a (
      law.inner (get_or inputs i []) (get_or starts i 0) (get_or ends i 0) n (ranges.within i lt)
      (omega (arith, part_len ranges is_row i lt)) (cut_starts i lt) (cut_ends i lt)
      (subst (λ xs. IsCut t xs n) (is_row.parts i lt) (end.cuts i mt)))

  pub gap_trimmed : IsTokenizer t → AreRanges inputs starts ends → AreCuts t inputs starts → AreCuts t inputs ends → AreParts inputs starts ends row
      → IsCommonStart t row p → ((n : ℕ) → IsCommonStart t row n → n ≤ p)
      → IsCommonEnd t row p e → ((n : ℕ) → IsCommonEnd t row p n → n ≤ e)
      → AreMoved inputs starts p first → AreMovedBack inputs ends e last → IsTrimmedGap t inputs starts ends first last
  gap_trimmed law ranges cut_starts cut_ends is_row start longest_start end longest_end to back =
      let row_lt : (i : ℕ) → i < length inputs → i < length row = λ i lt. omega (arith, is_row.len) in
      let len : (i : ℕ) → i < length inputs → length (get_or row i []) + get_or starts i 0 ≡ get_or ends i 0 = part_len ranges is_row in
      let at_last : (i : ℕ) → i < length inputs → get_or last i 0 ≡ get_or starts i 0 + (length (get_or row i []) - e) =
      λ i lt. omega (arith, back.moved i lt, len i lt, end.within i (row_lt i lt)) in
      record {
        before = record {
          ranges = record {
            starts_len = ranges.starts_len;
            ends_len = to.len;
            ordered = λ i lt. omega (arith, to.moved i lt);
            within = λ i lt. omega (arith, to.moved i lt, first_within ranges is_row start i lt);
          };
          cuts = λ i lt. subst (IsCut t (get_or inputs i [])) (sym (to.moved i lt)) (
              law.inner (get_or inputs i []) (get_or starts i 0) (get_or ends i 0) p (ranges.within i lt)
              (omega (arith, len i lt, start.within i (row_lt i lt))) (cut_starts i lt) (cut_ends i lt)
              (subst (λ xs. IsCut t xs p) (is_row.parts i lt) (start.cuts i (row_lt i lt))));
          equal = λ i lt.
              let some : 0 < length inputs = omega arith in
              start_part i lt ranges is_row start to ∙ start.equal i (row_lt i lt) ∙ sym (start_part 0 some ranges is_row start to);
        };
        ranges = record {
          starts_len = to.len;
          ends_len = back.len;
          ordered = λ i lt. omega (arith, to.moved i lt, at_last i lt, end.within i (row_lt i lt));
          within = λ i lt. omega (arith, back.moved i lt, ranges.within i lt);
        };
        cuts = λ i lt. last_cut law i lt ranges cut_starts cut_ends is_row end back;
        after = record {
          ranges = record {
            starts_len = back.len;
            ends_len = ranges.ends_len;
            ordered = λ i lt. omega (arith, back.moved i lt);
            within = ranges.within;
          };
          cuts = cut_ends;
          equal = λ i lt.
              let some : 0 < length inputs = omega arith in
              end_part i lt ranges is_row end back ∙ end.equal i (row_lt i lt) ∙ sym (end_part 0 some ranges is_row end back);
        };
        trimmed = λ middle is_middle.
            trimmed_middle t law row middle p e start end (is_middle.len ∙ sym is_row.len)
            (λ i lt.
            let mt : i < length inputs = omega (arith, is_row.len) in
            is_middle.parts i mt
            ∙ ap (λ a. slice_range (get_or inputs i []) a (get_or last i 0)) (to.moved i mt)
            ∙ ap (λ b. slice_range (get_or inputs i []) (get_or starts i 0 + p) b) (at_last i mt)
            ∙ sym (range_of_range (get_or inputs i []) (get_or starts i 0) (get_or ends i 0) p (length (get_or row i []) - e)
            (omega (arith, end.within i lt)) (omega (arith, len i mt, end.within i lt)))
            ∙ ap (λ xs. slice_range xs p (length (get_or row i []) - e)) (sym (is_row.parts i mt)))
            longest_start longest_end;
      }

pub ruleset gap_steps = (gap_some, first_within, last_within, gap_trimmed)
