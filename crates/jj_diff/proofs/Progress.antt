-- Hunks from left to right, and what matches after them.
use Rattle.std.proofs.Common.{◌≡◌, ℕ, ◌+◌, ◌<◌, ◌≤◌, List, [], ◌∷◌, ◌++◌, length, map, take, get_or, refl, ap, sym, ◌∙◌, subst, arith, inl, inr, ◌⊎◌}
use Rattle.std.proofs.lemmas.List.{length-take-le}
use Rattle.std.proofs.lemmas.List.Elements.{All-push}
use Rattle.jj_diff.specs.Tokens.{TokenEnds}
use Rattle.jj_diff.specs.declared.diff.hunks.DiffHunk.{DiffHunk}
use Rattle.jj_diff.specs.declared.diff.hunks.DiffHunkKind.TheVariants.{Matching, Different}
use Rattle.jj_diff.specs.Inputs.{side, AreRanges, AreParts, AreEqualBy, IsNonempty, IsEmpty}
use Rattle.jj_diff.specs.Hunks.{row_of, kind_len, matched_len, matched_start, matched_end, IsPrefixDiff, EndsIn, AreCuts, HasGap, IsMatch, IsProgress, AreTrimmedBy, IsTrimmedBy, IsTrimmedGap, StartsWith}
use Rattle.jj_diff.specs.Tokenizers.{length_range}
use Rattle.jj_diff.proofs.Slices.{range_join}
use Rattle.jj_diff.proofs.HunkEnds.{matched_end_push}

-- the law of a comparison
abbrev pub Joins : (List ℕ → List ℕ) → Type 0
Joins form = (x y z w : List ℕ) → form x ≡ form y → form z ≡ form w → form (x ++ z) ≡ form (y ++ w)

module _ (form : List ℕ → List ℕ) (t : TokenEnds) (inputs : List (List ℕ)) where
  -- equal parts have one canonical form
  pub match_of_equal : (starts ends : List ℕ) → IsMatch (λ text. text) t inputs starts ends → IsMatch form t inputs starts ends
  match_of_equal starts ends same = record {
    ranges = same.ranges;
    cuts = same.cuts;
    equal = λ i lt. ap form (same.equal i lt);
  }

  -- a part that is empty in all inputs matches
  pub match_of_empty : (starts ends : List ℕ) (row : List (List ℕ)) → AreRanges inputs starts ends → AreCuts t inputs ends
      → AreParts inputs starts ends row → IsEmpty row → IsMatch form t inputs starts ends
  match_of_empty starts ends row ranges are_cuts is_row empty = record {
    ranges = ranges;
    cuts = are_cuts;
    equal = λ i lt.
        let some : 0 < length inputs = omega arith in
        ap form (sym (is_row.parts i lt) ∙ empty i (omega (arith, is_row.len)) ∙ sym (empty 0 (omega (arith, is_row.len))) ∙ is_row.parts 0 some);
  }

  -- two adjacent matches
  pub match_join : Joins form → (a b c : List ℕ) → IsMatch form t inputs a b → IsMatch form t inputs b c → IsMatch form t inputs a c
  match_join joins a b c left right = record {
    ranges = record {
      starts_len = left.ranges.starts_len;
      ends_len = right.ranges.ends_len;
      ordered = λ i lt. omega (arith, left.ranges.ordered i lt, right.ranges.ordered i lt);
      within = right.ranges.within;
    };
    cuts = right.cuts;
    equal = λ i lt.
        let some : 0 < length inputs = omega arith in
        ap form (sym (range_join (get_or inputs i []) (get_or a i 0) (get_or b i 0) (get_or c i 0) (left.ranges.ordered i lt) (right.ranges.ordered i lt)))
        ∙ joins _ _ _ _ (left.equal i lt) (right.equal i lt)
        ∙ ap form (range_join (get_or inputs 0 []) (get_or a 0 0) (get_or b 0 0) (get_or c 0 0) (left.ranges.ordered 0 some) (right.ranges.ordered 0 some));
  }

  -- the parts of a match have one canonical form
  pub match_row : (starts ends : List ℕ) (row : List (List ℕ)) → IsMatch form t inputs starts ends → AreParts inputs starts ends row
      → AreEqualBy form row
  match_row starts ends row same is_row i lt =
      let mt : i < length inputs = omega (arith, is_row.len) in
      let some : 0 < length inputs = omega arith in
      ap form (is_row.parts i mt) ∙ same.equal i mt ∙ ap form (sym (is_row.parts 0 some))

  pub match_of_row : (starts ends : List ℕ) (row : List (List ℕ)) → AreRanges inputs starts ends → AreCuts t inputs ends
      → AreParts inputs starts ends row → AreEqualBy form row → IsMatch form t inputs starts ends
  match_of_row starts ends row ranges are_cuts is_row same = record {
    ranges = ranges;
    cuts = are_cuts;
    equal = λ i lt.
        let some : 0 < length inputs = omega arith in
        ap form (sym (is_row.parts i lt)) ∙ same i (omega (arith, is_row.len)) ∙ ap form (is_row.parts 0 some);
  }

  row_len : (starts ends : List ℕ) (row : List (List ℕ)) (i : ℕ) → i < length inputs → AreRanges inputs starts ends
      → AreParts inputs starts ends row → get_or starts i 0 + length (get_or row i []) ≡ get_or ends i 0
  row_len starts ends row i lt ranges is_row = omega (
    arith,
    ap length (is_row.parts i lt),
    ranges.ordered i lt,
    length_range (get_or inputs i []) (get_or starts i 0) (get_or ends i 0) (ranges.within i lt),
  )

  -- a row of which no part is empty where all should be
  pub gap_of_row : (starts ends : List ℕ) (row : List (List ℕ)) → AreRanges inputs starts ends → AreParts inputs starts ends row
      → IsNonempty row → HasGap inputs starts ends
  gap_of_row starts ends row ranges is_row nonempty =
      let lt : nonempty.0 < length inputs = omega (arith, is_row.len, nonempty.1) in
      (nonempty.0, lt, omega (arith, row_len starts ends row nonempty.0 lt ranges is_row, nonempty.2))

  no_gap : (starts ends : List ℕ) (row : List (List ℕ)) → AreRanges inputs starts ends → AreParts inputs starts ends row
      → IsEmpty row → ¬ (HasGap inputs starts ends)
  no_gap starts ends row ranges is_row empty gap = omega (
    arith,
    row_len starts ends row gap.0 gap.1 ranges is_row,
    ap length (empty gap.0 (omega (arith, is_row.len, gap.1))),
    gap.2,
  )

  -- a hunk more
  pub trimmed_more : (hs : List DiffHunk) (h : DiffHunk) → AreTrimmedBy form t hs → (h.kind ≡ Different → IsTrimmedBy form t (row_of h))
      → AreTrimmedBy form t (hs ++ h ∷ [])
  trimmed_more hs h before here = All-push (λ g. g.kind ≡ Different → IsTrimmedBy form t (row_of g)) hs h before here

  -- no hunk is before the first byte
  none_before : (hs : List DiffHunk) (starts : List ℕ) → IsPrefixDiff form t inputs hs starts → 0 < length inputs → hs ≡ []
      → get_or starts 0 0 ≡ 0
  none_before hs starts before some e =
      let none : length (take (get_or starts 0 0) (get_or inputs 0 [])) ≡ 0 =
      ap length (sym (before.sides 0 some)) ∙ ap (λ gs. length (side 0 (map row_of gs))) e in
      omega (arith, none, length-take-le (get_or starts 0 0) (get_or inputs 0 []) (before.within 0 some))

  -- The start still matches after one more matching hunk.
  pub start_matching : (hs : List DiffHunk) (h : DiffHunk) (starts ends : List ℕ) (n : ℕ) → IsPrefixDiff form t inputs hs starts
      → 0 < length inputs → AreRanges inputs starts ends → AreParts inputs starts ends (row_of h) → h.kind ≡ Matching
      → StartsWith n hs ends → n ≤ matched_start (hs ++ h ∷ [])
  start_matching [] h starts ends n before some ranges is_row kind at =
      let len : matched_len h ≡ length (get_or (row_of h) 0 []) = ap (λ k. kind_len k (length (get_or (row_of h) 0 []))) kind in
      omega (arith, len, row_len starts ends (row_of h) 0 some ranges is_row, none_before [] starts before some refl)
  start_matching (g ∷ gs) h starts ends n before some ranges is_row kind at = at

  -- The start still matches if the next matching hunk is empty.
  pub start_skipped : (hs : List DiffHunk) (row : List (List ℕ)) (starts ends : List ℕ) (n : ℕ) → IsPrefixDiff form t inputs hs starts
      → 0 < length inputs → AreRanges inputs starts ends → AreParts inputs starts ends row → IsEmpty row
      → StartsWith n hs ends → n ≤ matched_start hs
  start_skipped [] row starts ends n before some ranges is_row empty at = omega (
    arith,
    row_len starts ends row 0 some ranges is_row,
    none_before [] starts before some refl,
    ap length (empty 0 (omega (arith, is_row.len))),
  )
  start_skipped (g ∷ gs) row starts ends n before some ranges is_row empty at = at

  -- The end matches after one more matching hunk.
  pub end_matching : (hs : List DiffHunk) (h : DiffHunk) (starts ends : List ℕ) (n : ℕ) → 0 < length inputs
      → AreRanges inputs starts ends → AreParts inputs starts ends (row_of h) → h.kind ≡ Matching
      → get_or starts 0 0 + n ≤ get_or ends 0 0 → n ≤ matched_end (hs ++ h ∷ [])
  end_matching hs h starts ends n some ranges is_row kind le =
      let len : matched_len h ≡ length (get_or (row_of h) 0 []) = ap (λ k. kind_len k (length (get_or (row_of h) 0 []))) kind in
      omega (arith, matched_end_push hs h, len, row_len starts ends (row_of h) 0 some ranges is_row)

  pub end_skipped : (row : List (List ℕ)) (starts ends : List ℕ) (m n : ℕ) → 0 < length inputs
      → AreRanges inputs starts ends → AreParts inputs starts ends row → IsEmpty row
      → get_or starts 0 0 + n ≤ get_or ends 0 0 → n ≤ m
  end_skipped row starts ends m n some ranges is_row empty le =
      omega (arith, row_len starts ends row 0 some ranges is_row, ap length (empty 0 (omega (arith, is_row.len))))

  pub last_skipped : (hs : List DiffHunk) (row : List (List ℕ)) (starts ends : List ℕ) → AreRanges inputs starts ends
      → AreParts inputs starts ends row → IsEmpty row → (hs ≡ []) ⊎ HasGap inputs starts ends → EndsIn Matching hs
  last_skipped hs row starts ends ranges is_row empty gap = elim gap [
    | inl none ↦ subst (EndsIn Matching) (sym none) tt
    | inr some ↦ absurd (no_gap starts ends row ranges is_row empty some)
  ]

  -- The start still matches after one more hunk that differs.
  pub start_different : (hs : List DiffHunk) (h : DiffHunk) (n : ℕ) (at : List ℕ) → n ≤ matched_start hs
      → StartsWith n (hs ++ h ∷ []) at
  start_different [] h n at le = omega arith
  start_different (g ∷ gs) h n at le = le

  pub starts_later : (hs : List DiffHunk) (n : ℕ) (at later : List ℕ) → StartsWith n hs at → get_or at 0 0 ≤ get_or later 0 0
      → StartsWith n hs later
  starts_later [] n at later before le = omega arith
  starts_later (g ∷ gs) n at later before le = before

  pub gap_later : (hs : List DiffHunk) (from at later : List ℕ) → (hs ≡ []) ⊎ HasGap inputs from at → AreRanges inputs at later
      → (hs ≡ []) ⊎ HasGap inputs from later
  gap_later hs from at later gap ranges = elim gap [
    | inl none ↦ inl none
    | inr some ↦ inr (some.0, some.1, omega (arith, some.2, ranges.ordered some.0 some.1))
  ]

  pub gap_earlier : (from starts ends : List ℕ) → AreRanges inputs from starts → HasGap inputs starts ends → HasGap inputs from ends
  gap_earlier from starts ends ranges some = (some.0, some.1, omega (arith, some.2, ranges.ordered some.0 some.1))

  pub gap_after : (hs : List DiffHunk) (from at starts ends : List ℕ) → AreRanges inputs from starts → HasGap inputs starts ends → at ≡ ends
      → (hs ≡ []) ⊎ HasGap inputs from at
  gap_after hs from at starts ends ranges some e = inr (subst (HasGap inputs from) (sym e) (gap_earlier from starts ends ranges some))

  pub ranges_join : (a b c : List ℕ) → AreRanges inputs a b → AreRanges inputs b c → AreRanges inputs a c
  ranges_join a b c left right = record {
    starts_len = left.starts_len;
    ends_len = right.ends_len;
    ordered = λ i lt. omega (arith, left.ordered i lt, right.ordered i lt);
    within = right.within;
  }

  -- A gap of which nothing is left: what matches goes on after it.
  module _ (hs : List DiffHunk) (from at starts ends first last : List ℕ) (row : List (List ℕ)) (joins : Joins form)
      (before : IsProgress form t inputs hs from at) (gap : IsTrimmedGap t inputs at starts first last) where
    pub pending_first : IsMatch form t inputs from first
    pending_first = match_join joins from at first before.pending (match_of_equal at first gap.before)

    pub pending_last : IsMatch form t inputs starts ends → IsMatch form t inputs last ends
    pending_last next = match_join joins last starts ends (match_of_equal last starts gap.after) next

    pub progress_skipped : AreParts inputs first last row → IsEmpty row → IsMatch form t inputs starts ends
        → IsProgress form t inputs hs from ends
    progress_skipped is_row empty next = record {
      prefix = before.prefix;
      trimmed = before.trimmed;
      last = before.last;
      pending = match_join joins from last ends
          (match_join joins from first last pending_first (match_of_empty first last row gap.ranges gap.cuts is_row empty))
          (pending_last next);
    }

pub ruleset push_steps = (trimmed_more, match_row, start_matching, start_skipped, end_matching, end_skipped, last_skipped, start_different)

pub ruleset region_steps = (gap_of_row, match_of_row)
