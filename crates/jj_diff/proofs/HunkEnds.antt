-- The first and the last hunk of a comparison.
use Rattle.std.proofs.Common.{◌≡◌, ℕ, ◌+◌, ◌-◌, ◌<◌, ◌≤◌, List, [], ◌∷◌, ◌++◌, length, take, drop, get_or, Bor, refl, ap, sym, ◌∙◌, subst, arith, below_more, replicate, inl, inr, length-drop, length-append}
use Rattle.std.proofs.lemmas.Bool.{cases_lt}
use Rattle.std.proofs.lemmas.List.{drop_all, take_all}
use Rattle.std.proofs.lemmas.List.Elements.{All-nil}
use Rattle.std.proofs.lemmas.Grind.{common_steps, elements}
use Rattle.std.specs.List.{slice_range}
use Rattle.jj_diff.specs.declared.diff.hunks.DiffHunk.{DiffHunk}
use Rattle.jj_diff.specs.declared.diff.hunks.DiffHunkKind.TheVariants.{Matching, Different}
use Rattle.jj_diff.specs.Tokens.{IsCut, IsTokenizer, TokenEnds}
use Rattle.jj_diff.specs.Inputs.{bytes_of, AreRanges, AreEqual, AreEqualBy, IsEmpty}
use Rattle.jj_diff.specs.Ends.{suffix, IsCommonStart, IsCommonEnd, IsWithin}
use Rattle.jj_diff.specs.Hunks.{row_of, kind_len, matched_len, matched_start, matched_end, IsPrefixDiff, IsDiffBy, AllMatch, AreTrimmedBy, IsTrimmedBy, StartsWith, AreCuts, AreStarts, AreLimits, IsMatch, IsProgress, MatchesEnds, IsHunkBy}
use Rattle.jj_diff.proofs.Rows.{take-slice_range, prefix_whole, no_cuts, length-bytes_of, none, none_at}

-- the last hunk is what matches at the end
pub matched_end_push : (hs : List DiffHunk) (h : DiffHunk) → matched_end (hs ++ h ∷ []) ≡ matched_len h
matched_end_push [] h = refl
matched_end_push (g ∷ []) h = refl
matched_end_push (g ∷ i ∷ hs) h = matched_end_push (i ∷ hs) h

pub matched_len_of : (h : DiffHunk) → h.kind ≡ Matching → matched_len h ≡ length (get_or (row_of h) 0 [])
matched_len_of h e = ap (λ k. kind_len k (length (get_or (row_of h) 0 []))) e

-- the whole prefix of this length
range_from : (xs : List ℕ) (a n : ℕ) → a ≡ 0 → slice_range xs a n ≡ take n xs
range_from xs a n e = ap (λ k. slice_range xs k n) e ∙ take-slice_range xs 0 n (omega arith)

range_to_end : (xs : List ℕ) (a b : ℕ) → b ≡ length xs → slice_range xs a b ≡ drop a xs
range_to_end xs a b e =
    take_all (b - a) (drop a xs) (omega (arith, length-drop a xs))

pub starts_of : (inputs : List (List ℕ)) (n m : ℕ) (starts : List ℕ) → m ≡ length inputs → starts ≡ replicate m n → AreStarts inputs n starts
starts_of inputs n m starts f e = record {
  len = grind (arith, common_steps);
  starts = λ i lt. grind (arith, common_steps, elements);
}

module _ (form : List ℕ → List ℕ) (t : TokenEnds) (inputs : List (List ℕ)) where
  start_part : (i n : ℕ) (from at : List ℕ) → AreStarts inputs 0 from → AreStarts inputs n at → i < length inputs
      → slice_range (get_or inputs i []) (get_or from i 0) (get_or at i 0) ≡ take n (get_or inputs i [])
  start_part i n from at zeros starts lt =
      range_from (get_or inputs i []) (get_or from i 0) (get_or at i 0) (zeros.starts i lt)
      ∙ ap (λ k. take k (get_or inputs i [])) (starts.starts i lt)

  -- no hunk, and the common start
  pub progress_start : (n : ℕ) (hs : List DiffHunk) (from at : List ℕ) → IsCommonStart t inputs n → AreStarts inputs 0 from
      → AreStarts inputs n at → hs ≡ [] → IsProgress form t inputs hs from at
  progress_start n hs from at common zeros starts e = subst (λ gs. IsProgress form t inputs gs from at) (sym e) (record {
    prefix = record {
      len = zeros.len;
      within = λ i lt. omega (arith, zeros.starts i lt);
      sides = λ i lt. rw (zeros.starts i lt) refl;
      hunks = All-nil (IsHunkBy form (length inputs));
      alternate = tt;
      cuts = λ k i le lt. no_cuts t (get_or inputs i []) i k;
    };
    trimmed = All-nil (λ h. h.kind ≡ Different → IsTrimmedBy form t (row_of h));
    last = tt;
    pending = record {
      ranges = record {
        starts_len = zeros.len;
        ends_len = starts.len;
        ordered = λ i lt. omega (arith, zeros.starts i lt);
        within = λ i lt. omega (arith, starts.starts i lt, common.within i lt);
      };
      cuts = λ i lt. subst (IsCut t (get_or inputs i [])) (sym (starts.starts i lt)) (common.cuts i lt);
      equal = λ i lt. ap form (
          start_part i n from at zeros starts lt ∙ common.equal i lt ∙ sym (start_part 0 n from at zeros starts common.some));
    };
  })

  -- from the common start to the common end
  pub ranges_between_ends : (p n : ℕ) (at : List ℕ) → AreStarts inputs p at → IsCommonEnd t inputs p n
      → (limits : List ℕ) → AreLimits inputs n limits → AreRanges inputs at limits
  ranges_between_ends p n at starts common limits to = record {
    starts_len = starts.len;
    ends_len = to.len;
    ordered = λ i lt. omega (arith, starts.starts i lt, to.limits i lt, common.within i lt);
    within = λ i lt. omega (arith, to.limits i lt);
  }

  pub start_at : (n : ℕ) (hs : List DiffHunk) (at : List ℕ) → 0 < length inputs → AreStarts inputs n at → hs ≡ []
      → StartsWith n hs at
  start_at n hs at some starts e =
      subst (λ gs. StartsWith n gs at) (sym e) (omega (arith, starts.starts 0 some))

  end_part : (i n : ℕ) (starts ends : List ℕ) → AreLimits inputs n starts → AreLimits inputs 0 ends → i < length inputs
      → slice_range (get_or inputs i []) (get_or starts i 0) (get_or ends i 0) ≡ suffix n (get_or inputs i [])
  end_part i n starts ends from to lt =
      range_to_end (get_or inputs i []) (get_or starts i 0) (get_or ends i 0) (omega (arith, to.limits i lt))
      ∙ ap (λ k. drop k (get_or inputs i [])) (from.limits i lt)

  -- the common end
  pub match_end : IsTokenizer t → (n : ℕ) (starts ends : List ℕ) → IsCommonEnd t inputs 0 n → AreLimits inputs n starts → AreLimits inputs 0 ends
      → IsMatch form t inputs starts ends
  match_end law n starts ends common from to = record {
    ranges = record {
      starts_len = from.len;
      ends_len = to.len;
      ordered = λ i lt. omega (arith, from.limits i lt, to.limits i lt);
      within = λ i lt. omega (arith, to.limits i lt);
    };
    cuts = λ i lt.
        let e : length (get_or inputs i []) ≡ get_or ends i 0 = omega (arith, to.limits i lt) in
        subst (IsCut t (get_or inputs i [])) e (law.whole (get_or inputs i []));
    equal = λ i lt. ap form (
        end_part i n starts ends from to lt ∙ common.equal i lt ∙ sym (end_part 0 n starts ends from to common.some));
  }

  pub before_end : (n : ℕ) (from starts ends : List ℕ) → IsCommonEnd t inputs 0 n → AreRanges inputs from starts
      → AreLimits inputs n starts → AreLimits inputs 0 ends → get_or from 0 0 + n ≤ get_or ends 0 0
  before_end n from starts ends common ranges limits to = omega (
    arith,
    ranges.ordered 0 common.some,
    limits.limits 0 common.some,
    to.limits 0 common.some,
    common.within 0 common.some,
  )

  pub whole_at : (hs : List DiffHunk) (ends : List ℕ) → AreLimits inputs 0 ends → IsPrefixDiff form t inputs hs ends
      → IsDiffBy form t inputs hs
  whole_at hs ends to before = prefix_whole form t inputs hs ends (λ i lt. omega (arith, to.limits i lt)) before

drop_none : (xs : List ℕ) → suffix 0 xs ≡ []
drop_none xs = drop_all (length xs - 0) xs (omega arith)

pub limit_cuts : (t : TokenEnds) (inputs : List (List ℕ)) (start n : ℕ) (limits : List ℕ) → IsCommonEnd t inputs start n
    → AreLimits inputs n limits → AreCuts t inputs limits
limit_cuts t inputs start n limits common from i lt = subst (IsCut t (get_or inputs i [])) (sym (from.limits i lt)) (common.cuts i lt)

pub common_end_zero : (t : TokenEnds) (inputs : List (List ℕ)) (start n : ℕ) → IsCommonEnd t inputs start n → IsCommonEnd t inputs 0 n
common_end_zero t inputs start n common = record {
  some = common.some;
  within = λ i lt. omega (arith, common.within i lt);
  equal = common.equal;
  cuts = common.cuts;
}

-- nothing is at the end of all inputs
pub empty_end : (t : TokenEnds) → IsTokenizer t → (inputs : List (List ℕ)) (start : ℕ) → IsCommonStart t inputs start
    → IsCommonEnd t inputs start 0
empty_end t law inputs start common = record {
  some = common.some;
  within = λ i lt. omega (arith, common.within i lt);
  equal = λ i lt. drop_none (get_or inputs i []) ∙ sym (drop_none (get_or inputs 0 []));
  cuts = λ i lt.
      let e : length (get_or inputs i []) ≡ length (get_or inputs i []) - 0 = omega arith in
      subst (IsCut t (get_or inputs i [])) e (law.whole (get_or inputs i []));
}

pub start_within : (t : TokenEnds) (inputs : List (List ℕ)) (n : ℕ) → IsCommonStart t inputs n → IsWithin inputs n
start_within t inputs n common = common.within

push_before : (xs : List ℕ) (x n i : ℕ) → length xs ≡ n → i < n → get_or (xs ++ x ∷ []) i 0 ≡ get_or xs i 0
push_before xs x n i e lt = grind (arith, common_steps, elements)

push_here : (xs : List ℕ) (x n : ℕ) → length xs ≡ n → get_or (xs ++ x ∷ []) n 0 ≡ x
push_here xs x n e = grind (arith, common_steps, elements)

-- one more offset
pub limits_more : (refs : List (Bor (List ℕ))) (n k : ℕ) (xs ys : List ℕ) → ys ≡ xs ++ (length (get_or refs k none).now - n) ∷ []
    → length xs ≡ k → ((i : ℕ) → i < k → get_or xs i 0 ≡ length (get_or (bytes_of refs) i []) - n)
    → (i : ℕ) → i < k + 1 → get_or ys i 0 ≡ length (get_or (bytes_of refs) i []) - n
limits_more refs n k xs ys e len before =
    let v : ℕ = length (get_or refs k none).now - n in
    below_more (λ i. get_or ys i 0 ≡ length (get_or (bytes_of refs) i []) - n) k
    (λ i lt. ap (λ zs. get_or zs i 0) e ∙ push_before xs v k i len lt ∙ before i lt)
    (ap (λ zs. get_or zs k 0) e ∙ push_here xs v k len ∙ ap (λ zs. length zs - n) (sym (none_at refs k)))

pub len_more : (xs ys : List ℕ) (v k : ℕ) → ys ≡ xs ++ v ∷ [] → length xs ≡ k → length ys ≡ k + 1
len_more xs ys v k e len = ap length e ∙ omega (arith, length-append xs (v ∷ []))

pub limits_all : (refs : List (Bor (List ℕ))) (n k : ℕ) (xs : List ℕ) → length refs ≤ k → k ≤ length refs → length xs ≡ k
    → ((i : ℕ) → i < k → get_or xs i 0 ≡ length (get_or (bytes_of refs) i []) - n) → AreLimits (bytes_of refs) n xs
limits_all refs n k xs le ge len before = record {
  len = omega (arith, length-bytes_of refs);
  limits = λ i lt. before i (omega (arith, length-bytes_of refs));
}

pub some_of : (form : List ℕ → List ℕ) (refs : List (Bor (List ℕ))) → ¬ (AreEqualBy form (bytes_of refs)) → 0 < length refs
some_of form refs unequal = elim (cases_lt 0 (length refs)) [
  | inl lt ↦ lt
  | inr le ↦ absurd (unequal (λ i lt. absurd (omega (arith, length-bytes_of refs))))
]

differs : Matching ≡ Different → ⊥
differs e = cc

-- inputs without a hunk that differs
pub trimmed_all : (form : List ℕ → List ℕ) (t : TokenEnds) (hs : List DiffHunk) → AllMatch hs → AreTrimmedBy form t hs
trimmed_all form t hs all k d lt = λ e. absurd (differs (sym (all k d lt) ∙ e))

pub equal_by : (form : List ℕ → List ℕ) (row : List (List ℕ)) → AreEqual row → AreEqualBy form row
equal_by form row same i lt = ap form (same i lt)

-- the whole inputs as no hunk or one
pub ends_none : (t : TokenEnds) (inputs : List (List ℕ)) → IsEmpty inputs → MatchesEnds t inputs []
ends_none t inputs empty = record {
  start = λ n common. omega (arith, common.within 0 common.some, ap length (empty 0 common.some));
  end = λ n common. omega (arith, common.within 0 common.some, ap length (empty 0 common.some));
}

pub ends_one : (t : TokenEnds) (inputs : List (List ℕ)) (h : DiffHunk) → row_of h ≡ inputs → h.kind ≡ Matching
    → MatchesEnds t inputs (h ∷ [])
ends_one t inputs h e kind =
    let len : matched_len h ≡ length (get_or inputs 0 []) = matched_len_of h kind ∙ ap (λ row. length (get_or row 0 [])) e in
    record {
      start = λ n common. omega (arith, common.within 0 common.some, len);
      end = λ n common. omega (arith, common.within 0 common.some, len);
    }

pub matches_ends : (t : TokenEnds) (inputs : List (List ℕ)) (hs : List DiffHunk) (p n : ℕ)
    → p ≤ matched_start hs → ((m : ℕ) → IsCommonStart t inputs m → m ≤ p)
    → n ≤ matched_end hs → ((m : ℕ) → IsCommonEnd t inputs p m → m ≤ n) → MatchesEnds t inputs hs
matches_ends t inputs hs p n starts longest_start ends longest_end = record {
  start = λ m common. omega (arith, longest_start m common);
  end = λ m common.
      let after : IsCommonEnd t inputs p m = record {
        some = common.some;
        within = λ i lt. omega (arith, common.within i lt);
        equal = common.equal;
        cuts = common.cuts;
      } in
      omega (arith, longest_end m after);
}

pub ruleset start_steps = (starts_of, length-bytes_of)

pub ruleset equal_steps = (ends_none, ends_one)

pub ruleset whole_steps = (start_within, length-bytes_of)

pub ruleset compared_steps = (some_of, trimmed_all, equal_by)
