-- Ranges of hunks in an input, one more at a time.
use Rattle.std.proofs.Common.{◌≡◌, ℕ, suc, zero, ◌+◌, ◌<◌, ◌≤◌, List, [], ◌∷◌, ◌++◌, length, map, take, get_or, refl, ap, sym, ◌∙◌, arith, length-append}
use Rattle.std.proofs.lemmas.List.{take_more, take_all}
use Rattle.jj_diff.specs.declared.diff.hunks.DiffHunk.{DiffHunk}
use Rattle.jj_diff.specs.Inputs.{side}
use Rattle.jj_diff.specs.Hunks.{row_of, hunk_ranges}

-- how many bytes part i of the hunks has
abbrev pub side_len : ℕ → List DiffHunk → ℕ
side_len i hs = length (side i (map row_of hs))

ranges-push : (i start : ℕ) (hs : List DiffHunk) (h : DiffHunk) → hunk_ranges i start (hs ++ h ∷ [])
    ≡ hunk_ranges i start hs ++ record { start = start + side_len i hs; end = start + side_len i hs + length (get_or (row_of h) i []) } ∷ []
ranges-push i start [] h =
    let e : start ≡ start + 0 = omega arith in
    ap (λ a. record { start = a; end = a + length (get_or (row_of h) i []) } ∷ []) e
ranges-push i start (g ∷ hs) h =
    let e : start + length (get_or (row_of g) i []) + side_len i hs ≡ start + side_len i (g ∷ hs) =
    omega (arith, length-append (get_or (row_of g) i []) (side i (map row_of hs))) in
    ap (λ rs. record { start = start; end = start + length (get_or (row_of g) i []) } ∷ rs) (
    ranges-push i (start + length (get_or (row_of g) i [])) hs h
    ∙ ap (λ a. hunk_ranges i (start + length (get_or (row_of g) i [])) hs ++ record { start = a; end = a + length (get_or (row_of h) i []) } ∷ []) e)

len-push : (i : ℕ) (hs : List DiffHunk) (h : DiffHunk) → side_len i (hs ++ h ∷ []) ≡ side_len i hs + length (get_or (row_of h) i [])
len-push i [] h = omega (arith, length-append (get_or (row_of h) i []) [])
len-push i (g ∷ hs) h = omega (
  arith,
  len-push i hs h,
  length-append (get_or (row_of g) i []) (side i (map row_of hs)),
  length-append (get_or (row_of g) i []) (side i (map row_of (hs ++ h ∷ []))),
)

len_within : (i k : ℕ) (hs : List DiffHunk) → side_len i (take k hs) ≤ side_len i hs
len_within i zero hs = omega arith
len_within i (suc k) [] = omega arith
len_within i (suc k) (h ∷ hs) = omega (
  arith,
  len_within i k hs,
  length-append (get_or (row_of h) i []) (side i (map row_of hs)),
  length-append (get_or (row_of h) i []) (side i (map row_of (take k hs))),
)

-- one more hunk
module _ (i k : ℕ) (hs : List DiffHunk) (h : DiffHunk) (lt : k < length hs) (e : h ≡ get_or hs k h) where
  taken : take (k + 1) hs ≡ take k hs ++ h ∷ []
  taken = take_more hs k h lt ∙ ap (λ g. take k hs ++ g ∷ []) (sym e)

  pub len_more : side_len i (take (k + 1) hs) ≡ side_len i (take k hs) + length (get_or (row_of h) i [])
  len_more = ap (side_len i) taken ∙ len-push i (take k hs) h

  pub ranges_more : hunk_ranges i 0 (take (k + 1) hs) ≡ hunk_ranges i 0 (take k hs)
      ++ record { start = side_len i (take k hs); end = side_len i (take k hs) + length (get_or (row_of h) i []) } ∷ []
  ranges_more =
      let e : 0 + side_len i (take k hs) ≡ side_len i (take k hs) = omega arith in
      ap (hunk_ranges i 0) taken ∙ ranges-push i 0 (take k hs) h
      ∙ ap (λ a. hunk_ranges i 0 (take k hs) ++ record { start = a; end = a + length (get_or (row_of h) i []) } ∷ []) e

  pub within_more : side_len i (take k hs) + length (get_or (row_of h) i []) ≤ side_len i hs
  within_more = omega (arith, len_more, len_within i (k + 1) hs)

pub ruleset range_steps = (len_more, ranges_more, within_more, take_all)
