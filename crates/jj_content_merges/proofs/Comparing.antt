-- Walks along the hunks that compare the base of a three-way merge with a side.
use Rattle.std.proofs.Common.{◌≡◌, ◌⊎◌, ◌==◌, ◌||◌, Bool, true, false, true≢false, ℕ, suc, zero, ◌+◌, ◌-◌, ◌<◌, ◌≤◌, List, [], ◌∷◌, ◌++◌, length, map, take, drop, get_or, Bor, refl, ap, sym, ◌∙◌, subst, arith, inl, inr, All, append_assoc, append-nil}
use Rattle.std.proofs.lemmas.Bool.{cases_lt}
use Rattle.std.proofs.lemmas.Bool.Decides.{eqb_tells}
use Rattle.std.proofs.lemmas.List.{take_at, drop_at, get_or-take, get_or-drop, get_or_append_left, get_or_push, length-append, length-take-le, take-append-le, take_all}
use Rattle.std.specs.List.{slice_range}
use Rattle.std.specs.Str.{bytes_eq}
use Rattle.jj_diff.specs.declared.diff.hunks.DiffHunk.{DiffHunk}
use Rattle.jj_diff.specs.declared.diff.hunks.DiffHunkKind.TheVariants.{Matching}
use Rattle.jj_diff.specs.Inputs.{bytes_of, side, AreParts, AreRanges}
use Rattle.jj_diff.specs.Hunks.{row_of, AreCuts, AreLimits, AreStarts, IsDiff}
use Rattle.jj_diff.specs.Tokens.{is_line_end, IsCut}
use Rattle.jj_diff.proofs.HunkRanges.{len_more, within_more}
use Rattle.jj_diff.proofs.Rows.{length-bytes_of, bytes_at}
use Rattle.jj_diff.proofs.Slices.{range_of_range}
use Rattle.jj_merges.specs.declared.merge.SameChange.{SameChange}
use Rattle.jj_merges.specs.Resolution.{ResolvesTo}
use Rattle.jj_content_merges.proofs.Changes.{right_changed}
use Rattle.jj_content_merges.proofs.Splitting.{split_start}
use Rattle.jj_content_merges.specs.Rows.{IsNextRow, IsPrefixSplit}
use Rattle.jj_content_merges.specs.Comparisons.{AreTight, IsTight, IsAt, IsBefore, IsBeforeEnds, IsSwept, IsBehind, IsInside, matched_offset, IsComparison, IsMatching, MatchesAt, NoneCommon, hunk_start}

pub starts : (base other : List ℕ) (hunks : List DiffHunk) → IsComparison base other hunks → IsAt base other hunks 0 0 0
starts base other hunks compared = record {
  compared = compared;
  within = omega arith;
  base_start = refl;
  other_start = refl;
}

-- the hunk at an index, and its part of input i, as reads return them
module _ (base other : List ℕ) (hunks : List DiffHunk) (n at_base at_other : ℕ) (at : IsAt base other hunks n at_base at_other)
    (lt : n < length hunks) (h : DiffHunk) (e : h ≡ get_or hunks n h) where
  width : length (row_of h) ≡ 2
  width = subst (λ g. length (row_of g) ≡ 2) (sym e) (at.compared.diff.hunks n h lt).len

  module _ (i : ℕ) (i2 : i < 2) (r : Bor (List ℕ)) (f : r ≡ get_or h.contents.items i r) where
    part : get_or (row_of h) i [] ≡ r.now
    part = bytes_at h.contents.items i r (omega (arith, i2, width, length-bytes_of h.contents.items)) f

    pub part_end : hunk_start i hunks n + length r.now ≡ hunk_start i hunks (n + 1)
    part_end = ap (λ xs. hunk_start i hunks n + length xs) (sym part) ∙ sym (len_more i n hunks h lt e)

    pub part_within : hunk_start i hunks n + length r.now ≤ length (get_or (base ∷ other ∷ []) i [])
    part_within = omega (arith, ap length part, within_more i n hunks h lt e, ap length (at.compared.diff.sides i i2))

unequal : (a b : ℕ) → a < b → (a == b) ≡ false
unequal a b lt = elim (eqb_tells a b) [
  | inl e ↦ absurd (omega (arith, lt, e.1))
  | inr e ↦ e.0
]

first_of : (x y : Bool) → y ≡ false → (x || y) ≡ true → x ≡ true
first_of true y e t = refl
first_of false y e t = absurd (true≢false (sym t ∙ e))

or_true : (x y : Bool) → x ≡ true → (x || y) ≡ true
or_true true y e = refl
or_true false y e = absurd (true≢false (sym e))

hunk_at : (hunks : List DiffHunk) (n : ℕ) → n < length hunks → (h : DiffHunk) × (h ≡ get_or hunks n h)
hunk_at [] n lt = absurd (omega (arith, lt))
hunk_at (h ∷ hunks) zero lt = (h, refl)
hunk_at (g ∷ hunks) (suc n) lt =
    let found : (h : DiffHunk) × (h ≡ get_or hunks n h) = hunk_at hunks n (omega (arith, lt)) in found

-- the parts of all hunks around one
whole_side : (i : ℕ) (hunks : List DiffHunk) (n : ℕ) (h : DiffHunk) → n < length hunks → h ≡ get_or hunks n h
    → side i (map row_of hunks) ≡ side i (map row_of (take n hunks)) ++ (get_or (row_of h) i [] ++ side i (map row_of (drop (suc n) hunks)))
whole_side i [] n h lt e = absurd (omega (arith, lt))
whole_side i (g ∷ hunks) zero h lt e = ap (λ x. get_or (row_of x) i [] ++ side i (map row_of hunks)) (sym e)
whole_side i (g ∷ hunks) (suc n) h lt e =
    ap (λ xs. get_or (row_of g) i [] ++ xs) (whole_side i hunks n h (omega (arith, lt)) e)
    ∙ sym (append_assoc (get_or (row_of g) i []) (side i (map row_of (take n hunks)))
    (get_or (row_of h) i [] ++ side i (map row_of (drop (suc n) hunks))))

-- the part between two others
between : (xs ys zs : List ℕ) (end : ℕ) → end ≡ length xs + length ys
    → slice_range (xs ++ (ys ++ zs)) (length xs) end ≡ ys
between xs ys zs end e =
    let len : length ys ≡ end - length xs = omega (arith, e) in
    ap (take (end - length xs)) (drop_at xs (ys ++ zs) (length xs) refl) ∙ take_at ys zs (end - length xs) len

-- a hunk that matches
module _ (base other : List ℕ) (hunks : List DiffHunk) (n at_base at_other : ℕ) (at : IsAt base other hunks n at_base at_other)
    (lt : n < length hunks) (matching : IsMatching hunks n) where
  abbrev h : DiffHunk
  h = (hunk_at hunks n lt).0

  abbrev here : h ≡ get_or hunks n h
  here = (hunk_at hunks n lt).1

  abbrev part_of : ℕ → List ℕ
  part_of i = get_or (row_of h) i []

  row_width : length (row_of h) ≡ 2
  row_width = subst (λ g. length (row_of g) ≡ 2) (sym here) (at.compared.diff.hunks n h lt).len

  same_parts : part_of 1 ≡ part_of 0
  same_parts =
      subst (λ g. g.kind ≡ Matching → (i : ℕ) → i < length (row_of g) → get_or (row_of g) i [] ≡ get_or (row_of g) 0 [])
      (sym here) (at.compared.diff.hunks n h lt).equal (matching h (sym here)) 1 (omega (arith, row_width))

  end_of : (i : ℕ) → hunk_start i hunks (n + 1) ≡ hunk_start i hunks n + length (part_of i)
  end_of i = len_more i n hunks h lt here

  part_slice : (i : ℕ) → i < 2
      → slice_range (get_or (base ∷ other ∷ []) i []) (hunk_start i hunks n) (hunk_start i hunks (n + 1)) ≡ part_of i
  part_slice i i2 =
      ap (λ xs. slice_range xs (hunk_start i hunks n) (hunk_start i hunks (n + 1))) (sym (at.compared.diff.sides i i2) ∙ whole_side i hunks n h lt here)
      ∙ between (side i (map row_of (take n hunks))) (part_of i) (side i (map row_of (drop (suc n) hunks))) (hunk_start i hunks (n + 1)) (end_of i)

  pub same_len : hunk_start 1 hunks (n + 1) + hunk_start 0 hunks n ≡ hunk_start 0 hunks (n + 1) + hunk_start 1 hunks n
  same_len = omega (arith, end_of 0, end_of 1, ap length same_parts)

  pub end_within : (i : ℕ) → i < 2 → hunk_start i hunks (n + 1) ≤ length (get_or (base ∷ other ∷ []) i [])
  end_within i i2 = omega (arith, end_of i, within_more i n hunks h lt here, ap length (at.compared.diff.sides i i2))

  -- matching parts are equal
  module _ (u v : ℕ) (start : hunk_start 0 hunks n ≤ u) (le : u ≤ v) (end : v ≤ hunk_start 0 hunks (n + 1)) where
    abbrev from : ℕ
    from = u - hunk_start 0 hunks n

    abbrev to : ℕ
    to = v - hunk_start 0 hunks n

    to_within : (i : ℕ) → length (part_of i) ≡ length (part_of 0) → hunk_start i hunks n + to ≤ hunk_start i hunks (n + 1)
    to_within i e = omega (arith, e, end, end_of 0, end_of i)

    slice_in : (i : ℕ) → i < 2 → length (part_of i) ≡ length (part_of 0) → slice_range (part_of i) from to
        ≡ slice_range (get_or (base ∷ other ∷ []) i []) (hunk_start i hunks n + from) (hunk_start i hunks n + to)
    slice_in i i2 e =
        ap (λ xs. slice_range xs from to) (sym (part_slice i i2))
        ∙ range_of_range (get_or (base ∷ other ∷ []) i []) (hunk_start i hunks n) (hunk_start i hunks (n + 1)) from to
        (omega (arith, le)) (to_within i e)

    pub same_slice : slice_range other (matched_offset hunks n u) (matched_offset hunks n v) ≡ slice_range base u v
    same_slice =
        let one : hunk_start 0 hunks n + from ≡ u = omega (arith, start) in
        let two : hunk_start 0 hunks n + to ≡ v = omega (arith, start, le) in
        sym (slice_in 1 (omega arith) (ap length same_parts)) ∙ ap (λ xs. slice_range xs from to) same_parts
        ∙ slice_in 0 (omega arith) refl ∙ ap (λ k. slice_range base k (hunk_start 0 hunks n + to)) one
        ∙ ap (slice_range base u) two

  same_byte : (u : ℕ) → hunk_start 0 hunks n ≤ u → u < hunk_start 0 hunks (n + 1)
      → get_or other (matched_offset hunks n u) 0 ≡ get_or base u 0
  same_byte u start lt =
      let next : matched_offset hunks n (u + 1) ≡ matched_offset hunks n u + 1 = omega (arith, start) in
      let first : (xs : List ℕ) (a : ℕ) → get_or (slice_range xs a (a + 1)) 0 0 ≡ get_or xs a 0 =
      λ xs a. let here : a + 0 ≡ a = omega arith in
      get_or-take (a + 1 - a) (drop a xs) 0 0 (omega arith) ∙ get_or-drop a xs 0 0 ∙ ap (λ k. get_or xs k 0) here in
      sym (first other (matched_offset hunks n u))
      ∙ ap (λ k. get_or (slice_range other (matched_offset hunks n u) k) 0 0) (sym next)
      ∙ ap (λ xs. get_or xs 0 0) (same_slice u (u + 1) start (omega arith) (omega (arith, lt)))
      ∙ first base u

  inner_cut : (offset : ℕ) → hunk_start 0 hunks n < offset → offset < hunk_start 0 hunks (n + 1)
      → IsCut is_line_end base offset → IsCut is_line_end other (matched_offset hunks n offset)
  inner_cut offset after before (inl none) = absurd (omega (arith, after, none))
  inner_cut offset after before (inr token) =
      let inner : (offset == length base) ≡ false = unequal offset (length base) (omega (arith, before, end_within 0 (omega arith))) in
      let lf : (get_or base (offset - 1) 0 == 10) ≡ true =
      first_of (get_or base (offset - 1) 0 == 10) (offset == length base) inner token in
      let back : matched_offset hunks n offset - 1 ≡ matched_offset hunks n (offset - 1) = omega (arith, after) in
      let byte : get_or other (matched_offset hunks n offset - 1) 0 ≡ get_or base (offset - 1) 0 =
      ap (λ k. get_or other k 0) back ∙ same_byte (offset - 1) (omega (arith, after)) (omega (arith, after, before)) in
      inr (or_true (get_or other (matched_offset hunks n offset - 1) 0 == 10) (matched_offset hunks n offset == length other)
      (ap (λ x. x == 10) byte ∙ lf))

  -- a line that ends in the base ends where the side matches
  pub same_cut : (offset : ℕ) → hunk_start 0 hunks n ≤ offset → offset ≤ hunk_start 0 hunks (n + 1)
      → IsCut is_line_end base offset → IsCut is_line_end other (matched_offset hunks n offset)
  same_cut offset start end cut = elim (cases_lt (hunk_start 0 hunks n) offset) [
    | inr first ↦
        let here : hunk_start 1 hunks n ≡ matched_offset hunks n offset = omega (arith, start, first) in
        subst (IsCut is_line_end other) here (at.compared.diff.cuts n 1 at.within (omega arith))
    | inl after ↦ elim (cases_lt offset (hunk_start 0 hunks (n + 1))) [
      | inl before ↦ inner_cut offset after before cut
      | inr last ↦
          let here : hunk_start 1 hunks (n + 1) ≡ matched_offset hunks n offset = omega (arith, end, last, start, same_len) in
          subst (IsCut is_line_end other) here (at.compared.diff.cuts (n + 1) 1 (omega (arith, lt)) (omega arith))
    ]
  ]

  pub matched_within : (offset : ℕ) → hunk_start 0 hunks n ≤ offset → offset ≤ hunk_start 0 hunks (n + 1)
      → matched_offset hunks n offset ≤ length other
  matched_within offset start end = omega (arith, start, end, same_len, end_within 1 (omega arith))

-- an offset that is behind is before a later one
pub behind_le : (hunks : List DiffHunk) (n x k offset : ℕ) → IsBehind hunks n x k → k ≤ offset → hunk_start 0 hunks n ≤ offset
    → x ≤ matched_offset hunks n offset
behind_le hunks n x k offset (inl b) le start = omega (arith, b.0)
behind_le hunks n x k offset (inr b) le start = omega (arith, b.3, b.4, le, b.2)

module _ (l b r at : List ℕ) (x y z : ℕ) (ax : get_or at 0 0 ≤ x) (ay : get_or at 1 0 ≤ y) (az : get_or at 2 0 ≤ z)
    (xl : x ≤ length l) (yb : y ≤ length b) (zr : z ≤ length r) where
  ordered_three : (i : ℕ) → i < 3 → get_or at i 0 ≤ get_or (x ∷ y ∷ z ∷ []) i 0
  ordered_three zero lt = ax
  ordered_three (suc zero) lt = ay
  ordered_three (suc (suc zero)) lt = az
  ordered_three (suc (suc (suc i))) lt = absurd (omega (arith, lt))

  within_three : (i : ℕ) → i < 3 → get_or (x ∷ y ∷ z ∷ []) i 0 ≤ length (get_or (l ∷ b ∷ r ∷ []) i [])
  within_three zero lt = xl
  within_three (suc zero) lt = yb
  within_three (suc (suc zero)) lt = zr
  within_three (suc (suc (suc i))) lt = absurd (omega (arith, lt))

  pub three_ranges : length at ≡ 3 → AreRanges (l ∷ b ∷ r ∷ []) at (x ∷ y ∷ z ∷ [])
  three_ranges len = record {
    starts_len = len;
    ends_len = refl;
    ordered = ordered_three;
    within = within_three;
  }

pub three_cuts : (l b r : List ℕ) (x y z : ℕ) → IsCut is_line_end l x → IsCut is_line_end b y → IsCut is_line_end r z
    → AreCuts is_line_end (l ∷ b ∷ r ∷ []) (x ∷ y ∷ z ∷ [])
three_cuts l b r x y z cx cy cz zero lt = cx
three_cuts l b r x y z cx cy cz (suc zero) lt = cy
three_cuts l b r x y z cx cy cz (suc (suc zero)) lt = cz
three_cuts l b r x y z cx cy cz (suc (suc (suc i))) lt = absurd (omega (arith, lt))

-- ---- rows that are tight

-- the rows reach the offset of the base
reaches : (inputs : List (List ℕ)) (rows : List (List (List ℕ))) (at : List ℕ) → 1 < length inputs
    → IsPrefixSplit is_line_end inputs rows at → length (side 1 rows) ≡ get_or at 1 0
reaches inputs rows at lt split =
    ap length (split.sides 1 lt) ∙ length-take-le (get_or at 1 0) (get_or inputs 1 []) (split.within 1 lt)

module _ (same : SameChange) (l b r : List ℕ) (rows : List (List (List ℕ))) (at ends : List ℕ) where
  tight_push : (row : List (List ℕ)) → IsPrefixSplit is_line_end (l ∷ b ∷ r ∷ []) rows at
      → IsPrefixSplit is_line_end (l ∷ b ∷ r ∷ []) (rows ++ row ∷ []) ends → AreTight same l b r rows
      → IsTight same l b r row (get_or at 1 0) (get_or ends 1 0) → AreTight same l b r (rows ++ row ∷ [])
  tight_push row before after tight this n lt = elim (cases_lt n (length rows)) [
    | inl inner ↦
        let row_is : get_or rows n [] ≡ get_or (rows ++ row ∷ []) n [] = sym (get_or_append_left rows (row ∷ []) [] n inner) in
        let from_is : take n rows ≡ take n (rows ++ row ∷ []) = sym (take-append-le n rows (row ∷ []) (omega (arith, inner))) in
        let to_is : take (n + 1) rows ≡ take (n + 1) (rows ++ row ∷ []) = sym (take-append-le (n + 1) rows (row ∷ []) (omega (arith, inner))) in
        subst (λ x. IsTight same l b r x (length (side 1 (take n (rows ++ row ∷ [])))) (length (side 1 (take (n + 1) (rows ++ row ∷ []))))) row_is
        (subst (λ xs. IsTight same l b r (get_or rows n []) (length (side 1 xs)) (length (side 1 (take (n + 1) (rows ++ row ∷ []))))) from_is
        (subst (λ xs. IsTight same l b r (get_or rows n []) (length (side 1 (take n rows))) (length (side 1 xs))) to_is
        (tight n inner)))
    | inr last ↦
        let at_end : n ≡ length rows = omega (arith, lt, last, length-append rows (row ∷ [])) in
        let row_is : row ≡ get_or (rows ++ row ∷ []) n [] = sym (get_or_push rows row [] n (sym at_end)) in
        let from_is : get_or at 1 0 ≡ length (side 1 (take n (rows ++ row ∷ []))) =
        sym (reaches (l ∷ b ∷ r ∷ []) rows at (omega arith) before)
        ∙ ap (λ xs. length (side 1 xs)) (sym (take_at rows (row ∷ []) n (sym at_end))) in
        let to_is : get_or ends 1 0 ≡ length (side 1 (take (n + 1) (rows ++ row ∷ []))) =
        sym (reaches (l ∷ b ∷ r ∷ []) (rows ++ row ∷ []) ends (omega arith) after)
        ∙ ap (λ xs. length (side 1 xs)) (sym (take_all (n + 1) (rows ++ row ∷ []) (omega (arith, at_end, length-append rows (row ∷ []))))) in
        subst (λ x. IsTight same l b r x (length (side 1 (take n (rows ++ row ∷ [])))) (length (side 1 (take (n + 1) (rows ++ row ∷ []))))) row_is
        (subst (λ k. IsTight same l b r row k (length (side 1 (take (n + 1) (rows ++ row ∷ []))))) from_is
        (subst (λ k. IsTight same l b r row (get_or at 1 0) k) to_is this))
  ]

  next_tight : (after : List (List (List ℕ))) → IsNextRow (l ∷ b ∷ r ∷ []) rows at ends after
      → IsPrefixSplit is_line_end (l ∷ b ∷ r ∷ []) rows at → IsPrefixSplit is_line_end (l ∷ b ∷ r ∷ []) after ends
      → AreTight same l b r rows
      → ((row : List (List ℕ)) → AreParts (l ∷ b ∷ r ∷ []) at ends row → IsTight same l b r row (get_or at 1 0) (get_or ends 1 0))
      → AreTight same l b r after
  next_tight after (inl none) before split tight each = subst (AreTight same l b r) (sym none.1) tight
  next_tight after (inr next) before split tight each =
      subst (AreTight same l b r) (sym next.2)
      (tight_push next.0 before (subst (λ rs. IsPrefixSplit is_line_end (l ∷ b ∷ r ∷ []) rs ends) next.2 split) tight
      (each next.0 next.1))

-- a hunk that has a byte of the base that matches
starts_ascend : (i : ℕ) (hunks : List DiffHunk) (m n : ℕ) → m ≤ n → hunk_start i hunks m ≤ hunk_start i hunks n
starts_ascend i hunks m zero le = let e : m ≡ 0 = omega (arith, le) in subst (λ k. hunk_start i hunks k ≤ hunk_start i hunks 0) (sym e) (omega arith)
starts_ascend i hunks m (suc n) le = elim (cases_lt m (suc n)) [
  | inr ge ↦ let e : m ≡ suc n = omega (arith, le, ge) in subst (λ k. hunk_start i hunks k ≤ hunk_start i hunks (suc n)) (sym e) (omega arith)
  | inl lt ↦ elim (cases_lt n (length hunks)) [
    | inl inner ↦
        let found : (h : DiffHunk) × (h ≡ get_or hunks n h) = hunk_at hunks n inner in
        let more : hunk_start i hunks (n + 1) ≡ hunk_start i hunks n + length (get_or (row_of found.0) i []) = len_more i n hunks found.0 inner found.1 in
        let one : suc n ≡ n + 1 = omega arith in
        let next : hunk_start i hunks (suc n) ≡ hunk_start i hunks (n + 1) = ap (hunk_start i hunks) one in
        omega (arith, starts_ascend i hunks m n (omega (arith, lt)), more, next)
    | inr past ↦
        let one : take (suc n) hunks ≡ hunks = take_all (suc n) hunks (omega (arith, past)) in
        let two : take n hunks ≡ hunks = take_all n hunks (omega (arith, past)) in
        omega (arith, starts_ascend i hunks m n (omega (arith, lt)), ap (λ hs. length (side i (map row_of hs))) (one ∙ sym two))
  ]
]

here_matches : (hunks : List DiffHunk) (n k : ℕ) → hunk_start 0 hunks n ≤ k → k < hunk_start 0 hunks (n + 1) → MatchesAt hunks k
    → IsMatching hunks n
here_matches hunks n k start end found = elim (cases_lt n found.index) [
  | inl lt ↦ absurd (omega (arith, end, found.start, starts_ascend 0 hunks (n + 1) found.index (omega (arith, lt))))
  | inr ge ↦ elim (cases_lt found.index n) [
    | inl lt ↦ absurd (omega (arith, start, found.end, starts_ascend 0 hunks (found.index + 1) n (omega (arith, lt))))
    | inr le ↦ let e : found.index ≡ n = omega (arith, ge, le) in subst (IsMatching hunks) e found.matching
  ]
]

-- ---- one step of the sweep

module _ (l b r : List ℕ) (ls rs : List DiffHunk) (p q : ℕ) (rows : List (List (List ℕ))) (at : List ℕ)
    (swept : IsSwept l b r ls rs p q (IsBefore ls rs p q) rows at) where
  none_past : ((k : ℕ) → hunk_start 0 ls p ≤ k → hunk_start 0 rs q ≤ k → k < hunk_start 0 ls (p + 1)
      → k < hunk_start 0 rs (q + 1) → IsMatching ls p → ¬ (IsMatching rs q))
      → (k : ℕ) → get_or at 1 0 ≤ k → IsBeforeEnds ls rs p q k → MatchesAt ls k → ¬ (MatchesAt rs k)
  none_past none k after (inl before) left right = swept.none k after before left right
  none_past none k after (inr within) left right = elim (cases_lt k (hunk_start 0 ls p)) [
    | inl lt ↦ swept.none k after (inl lt) left right
    | inr ge ↦ elim (cases_lt k (hunk_start 0 rs q)) [
      | inl lt ↦ swept.none k after (inr lt) left right
      | inr le ↦ none k ge le within.0 within.1 (here_matches ls p k ge within.0 left) (here_matches rs q k le within.1 right)
    ]
  ]

  -- nothing matches in both hunks
  pub no_overlap : ((k : ℕ) → hunk_start 0 ls p ≤ k → hunk_start 0 rs q ≤ k → k < hunk_start 0 ls (p + 1)
      → k < hunk_start 0 rs (q + 1) → IsMatching ls p → ¬ (IsMatching rs q))
      → IsSwept l b r ls rs p q (IsBeforeEnds ls rs p q) rows at
  no_overlap none = record {
    split = swept.split;
    tight = swept.tight;
    left_behind = swept.left_behind;
    right_behind = swept.right_behind;
    reached = λ k lt. inl (swept.reached k lt);
    none = none_past none;
  }

  pub reached_by : (offset : ℕ) → hunk_start 0 ls p ≤ offset → hunk_start 0 rs q ≤ offset → get_or at 1 0 ≤ offset
  reached_by offset left right = elim (cases_lt offset (get_or at 1 0)) [
    | inr le ↦ le
    | inl lt ↦ elim (swept.reached offset lt) [
      | inl before ↦ absurd (omega (arith, before, left))
      | inr before ↦ absurd (omega (arith, before, right))
    ]
  ]

-- a row whose first side is the base
resolved_row : (same : SameChange) (row : List (List ℕ)) → length row ≡ 3 → get_or row 0 [] ≡ get_or row 1 []
    → (v : List ℕ) × ResolvesTo bytes_eq same row v
resolved_row same [] len e = absurd (omega (arith, len))
resolved_row same (x ∷ []) len e = absurd (omega (arith, len))
resolved_row same (x ∷ y ∷ []) len e = absurd (omega (arith, len))
resolved_row same (x ∷ y ∷ z ∷ []) len e = (z, right_changed same x y z e)
resolved_row same (x ∷ y ∷ z ∷ t ∷ ts) len e = absurd (omega (arith, len))

module _ (l b r : List ℕ) (ls rs : List DiffHunk) (p q : ℕ) (rows : List (List (List ℕ))) (at : List ℕ)
    (swept : IsSwept l b r ls rs p q (IsBefore ls rs p q) rows at)
    (left_base left_other right_base right_other start end : ℕ)
    (left_at : IsAt b l ls p left_base left_other) (right_at : IsAt b r rs q right_base right_other)
    (pl : p < length ls) (ql : q < length rs) (some : start < end)
    (left : IsMatching ls p × (left_base ≤ start) × (end ≤ hunk_start 0 ls (p + 1)))
    (right : IsMatching rs q × (right_base ≤ start) × (end ≤ hunk_start 0 rs (q + 1)))
    (from : (start ≡ left_base) ⊎ (start ≡ right_base))
    (to : (end ≡ hunk_start 0 ls (p + 1)) ⊎ (end ≡ hunk_start 0 rs (q + 1)))
    (rows1 rows2 : List (List (List ℕ))) where
  abbrev inputs : List (List ℕ)
  inputs = l ∷ b ∷ r ∷ []

  abbrev offsets : ℕ → List ℕ
  offsets offset = matched_offset ls p offset ∷ offset ∷ matched_offset rs q offset ∷ []

  left_start : hunk_start 0 ls p ≤ start
  left_start = omega (arith, left_at.base_start, left.1)

  right_start : hunk_start 0 rs q ≤ start
  right_start = omega (arith, right_at.base_start, right.1)

  before_start : (k : ℕ) → k < start → IsBefore ls rs p q k
  before_start k lt = elim from [
    | inl e ↦ inl (omega (arith, lt, e, left_at.base_start))
    | inr e ↦ inr (omega (arith, lt, e, right_at.base_start))
  ]

  past_end : (k : ℕ) → end ≤ k → ¬ (IsBeforeEnds ls rs p q k)
  past_end k after (inl (inl lt)) = omega (arith, after, lt, left_start, some)
  past_end k after (inl (inr lt)) = omega (arith, after, lt, right_start, some)
  past_end k after (inr both) = elim to [
    | inl e ↦ omega (arith, e, after, both.0)
    | inr e ↦ omega (arith, e, after, both.1)
  ]

  module _ (split1 : IsPrefixSplit is_line_end inputs rows1 (offsets start)) (next1 : IsNextRow inputs rows at (offsets start) rows1)
      (split2 : IsPrefixSplit is_line_end inputs rows2 (offsets end)) (next2 : IsNextRow inputs rows1 (offsets start) (offsets end) rows2) where
    tight_before : (same : SameChange) → AreTight same l b r rows1
    tight_before same = next_tight same l b r rows at (offsets start) rows1 next1 swept.split split1 (swept.tight same)
        (λ row parts. inr (record {
          lefts = ls;
          rights = rs;
          left_compared = left_at.compared;
          right_compared = right_at.compared;
          none = λ k after lt. swept.none k after (before_start k lt);
        }))

    tight_after : (same : SameChange) → AreTight same l b r rows2
    tight_after same = next_tight same l b r rows1 (offsets start) (offsets end) rows2 next2 split1 split2 (tight_before same)
        (λ row parts. inl (resolved_row same row parts.len
        (parts.parts 0 (omega arith)
        ∙ same_slice b l ls p left_base left_other left_at pl left.0 start end left_start (omega (arith, some)) left.2
        ∙ sym (parts.parts 1 (omega arith)))))

    pub overlapped : IsSwept l b r ls rs p q (IsBeforeEnds ls rs p q) rows2 (offsets end)
    overlapped = record {
      split = split2;
      tight = tight_after;
      left_behind = inr (pl, left.0, omega (arith, left_start, some), left.2, refl);
      right_behind = inr (ql, right.0, omega (arith, right_start, some), right.2, refl);
      reached = λ k lt. inr (omega (arith, lt, left.2), omega (arith, lt, right.2));
      none = λ k after past lm rm. past_end k after past;
    }

-- offsets behind a hunk are behind the next
behind_next : (base other : List ℕ) (hunks : List DiffHunk) (n at_base at_other x k : ℕ) → IsAt base other hunks n at_base at_other
    → IsBehind hunks n x k → IsBehind hunks (n + 1) x k
behind_next base other hunks n at_base at_other x k at (inl b) =
    inl (omega (arith, b.0, starts_ascend 1 hunks n (n + 1) (omega arith)), omega (arith, b.1, starts_ascend 0 hunks n (n + 1) (omega arith)))
behind_next base other hunks n at_base at_other x k at (inr b) =
    inl (omega (arith, b.4, b.2, b.3, same_len base other hunks n at_base at_other at b.0 b.1), b.3)

module _ (l b r : List ℕ) (ls rs : List DiffHunk) (p q : ℕ) (rows : List (List (List ℕ))) (at : List ℕ)
    (swept : IsSwept l b r ls rs p q (IsBeforeEnds ls rs p q) rows at) where
  left_past : (k : ℕ) → IsBeforeEnds ls rs p q k → IsBefore ls rs (p + 1) q k
  left_past k (inl (inl lt)) = inl (omega (arith, lt, starts_ascend 0 ls p (p + 1) (omega arith)))
  left_past k (inl (inr lt)) = inr lt
  left_past k (inr both) = inl both.0

  right_past : (k : ℕ) → IsBeforeEnds ls rs p q k → IsBefore ls rs p (q + 1) k
  right_past k (inl (inl lt)) = inl lt
  right_past k (inl (inr lt)) = inr (omega (arith, lt, starts_ascend 0 rs q (q + 1) (omega arith)))
  right_past k (inr both) = inr both.1

  left_ends : (k : ℕ) → hunk_start 0 ls (p + 1) ≤ hunk_start 0 rs (q + 1) → IsBefore ls rs (p + 1) q k → IsBeforeEnds ls rs p q k
  left_ends k le (inl lt) = inr (lt, omega (arith, lt, le))
  left_ends k le (inr lt) = inl (inr lt)

  right_ends : (k : ℕ) → hunk_start 0 rs (q + 1) ≤ hunk_start 0 ls (p + 1) → IsBefore ls rs p (q + 1) k → IsBeforeEnds ls rs p q k
  right_ends k le (inl lt) = inl (inl lt)
  right_ends k le (inr lt) = inr (omega (arith, lt, le), lt)

  pub left_advanced : (at_base at_other : ℕ) → IsAt b l ls p at_base at_other → hunk_start 0 ls (p + 1) ≤ hunk_start 0 rs (q + 1)
      → IsSwept l b r ls rs (p + 1) q (IsBefore ls rs (p + 1) q) rows at
  left_advanced at_base at_other walk le = record {
    split = swept.split;
    tight = swept.tight;
    left_behind = behind_next b l ls p at_base at_other _ _ walk swept.left_behind;
    right_behind = swept.right_behind;
    reached = λ k lt. left_past k (swept.reached k lt);
    none = λ k after past. swept.none k after (left_ends k le past);
  }

  pub right_advanced : (at_base at_other : ℕ) → IsAt b r rs q at_base at_other → hunk_start 0 rs (q + 1) ≤ hunk_start 0 ls (p + 1)
      → IsSwept l b r ls rs p (q + 1) (IsBefore ls rs p (q + 1)) rows at
  right_advanced at_base at_other walk le = record {
    split = swept.split;
    tight = swept.tight;
    left_behind = swept.left_behind;
    right_behind = behind_next b r rs q at_base at_other _ _ walk swept.right_behind;
    reached = λ k lt. right_past k (swept.reached k lt);
    none = λ k after past. swept.none k after (right_ends k le past);
  }

-- a walk at its end has passed all of the base
at_end : (base other : List ℕ) (hunks : List DiffHunk) (n at_base at_other : ℕ) → IsAt base other hunks n at_base at_other
    → length hunks ≤ n → hunk_start 0 hunks n ≡ length base
at_end base other hunks n at_base at_other at le =
    ap (λ hs. length (side 0 (map row_of hs))) (take_all n hunks le) ∙ ap length (at.compared.diff.sides 0 (omega arith))

limit_at : (l b r : List ℕ) (i : ℕ) → i < 3
    → get_or (length l ∷ length b ∷ length r ∷ []) i 0 ≡ length (get_or (l ∷ b ∷ r ∷ []) i []) - 0
limit_at l b r zero lt = omega arith
limit_at l b r (suc zero) lt = omega arith
limit_at l b r (suc (suc zero)) lt = omega arith
limit_at l b r (suc (suc (suc i))) lt = absurd (omega (arith, lt))

pub three_limits : (l b r : List ℕ) → AreLimits (l ∷ b ∷ r ∷ []) 0 (length l ∷ length b ∷ length r ∷ [])
three_limits l b r = record { len = refl; limits = limit_at l b r }

module _ (l b r : List ℕ) (ls rs : List DiffHunk) (p q : ℕ) (rows : List (List (List ℕ))) (at : List ℕ)
    (swept : IsSwept l b r ls rs p q (IsBefore ls rs p q) rows at)
    (left_base left_other right_base right_other : ℕ)
    (left_at : IsAt b l ls p left_base left_other) (right_at : IsAt b r rs q right_base right_other)
    (done : (length ls ≤ p) ⊎ (length rs ≤ q)) where
  all_before : (k : ℕ) → k < length b → IsBefore ls rs p q k
  all_before k lt = elim done [
    | inl le ↦ inl (omega (arith, lt, at_end b l ls p left_base left_other left_at le))
    | inr le ↦ inr (omega (arith, lt, at_end b r rs q right_base right_other right_at le))
  ]

  pub finished : (after : List (List (List ℕ))) → IsPrefixSplit is_line_end (l ∷ b ∷ r ∷ []) after (length l ∷ length b ∷ length r ∷ [])
      → IsNextRow (l ∷ b ∷ r ∷ []) rows at (length l ∷ length b ∷ length r ∷ []) after
      → (same : SameChange) → AreTight same l b r after
  finished after split next same =
      next_tight same l b r rows at (length l ∷ length b ∷ length r ∷ []) after next swept.split split (swept.tight same)
      (λ row parts. inr (record {
        lefts = ls;
        rights = rs;
        left_compared = left_at.compared;
        right_compared = right_at.compared;
        none = λ k from lt. swept.none k from (all_before k lt);
      }))

pub swept_start : (l b r : List ℕ) (ls rs : List DiffHunk) (at : List ℕ) → AreStarts (l ∷ b ∷ r ∷ []) 0 at
    → IsSwept l b r ls rs 0 0 (IsBefore ls rs 0 0) [] at
swept_start l b r ls rs at zeros =
    let x : get_or at 0 0 ≡ 0 = zeros.starts 0 (omega arith) in
    let y : get_or at 1 0 ≡ 0 = zeros.starts 1 (omega arith) in
    let z : get_or at 2 0 ≡ 0 = zeros.starts 2 (omega arith) in record {
      split = split_start is_line_end (l ∷ b ∷ r ∷ []) at zeros;
      tight = λ same n lt. absurd (omega (arith, lt));
      left_behind = inl (omega (arith, x), omega (arith, y));
      right_behind = inl (omega (arith, z), omega (arith, y));
      reached = λ k lt. absurd (omega (arith, lt, y));
      none = λ k after past. absurd (elim past [ inl lt ↦ omega (arith, lt) | inr lt ↦ omega (arith, lt) ]);
    }

pub ruleset walk_steps = (starts)
