-- Occurrences of a string in a window of another.
use Rattle.std.proofs.Common.{◌≡◌, ◌∙◌, sym, ap, ℕ, ◌+◌, ◌<◌, ◌≤◌, List, length, take, drop, get_or, arith}
use Rattle.std.proofs.lemmas.Grind.{same_number_lists, common_steps}
use Rattle.std.proofs.lemmas.List.{get_or-take, get_or-drop, take-map, drop-map}
use Rattle.bstr.specs.Find.{OccursAt}
use Rattle.jj_strings.specs.CaseFolding.{lowercase}

pub length-window : (xs : List ℕ) (n at : ℕ) → at + n ≤ length xs → length (take n (drop at xs)) ≡ n
length-window xs n at h = grind (arith, common_steps)

pub get_or-window : (xs : List ℕ) (n at j : ℕ) → j < n → get_or (take n (drop at xs)) j 0 ≡ get_or xs (at + j) 0
get_or-window xs n at j h = get_or-take n (drop at xs) j 0 h ∙ get_or-drop at xs j 0

pub occurs_from : (xs ys : List ℕ) (n at : ℕ) → n ≡ length ys → at + n ≤ length xs → take n (drop at xs) ≡ ys → OccursAt xs ys at
occurs_from xs ys n at e h same = record {
  fits = omega arith;
  reads = λ j low. let low' : j < n = omega arith in sym (get_or-window xs n at j low') ∙ ap (λ (l : List ℕ). get_or l j 0) same;
}

pub occurs_to : (xs ys : List ℕ) (n at : ℕ) → n ≡ length ys → OccursAt xs ys at → take n (drop at xs) ≡ ys
occurs_to xs ys n at e o =
    let fits : at + n ≤ length xs = omega (arith, o.fits) in
    let len : length (take n (drop at xs)) ≡ length ys = length-window xs n at fits ∙ e in
    same_number_lists (take n (drop at xs)) ys len
    (λ k low. let low' : k < n = omega (arith, length-window xs n at fits) in let low'' : k < length ys = omega arith in
    get_or-window xs n at k low' ∙ o.reads k low'')

pub folded-window : (xs : List ℕ) (n at : ℕ) → take n (drop at (lowercase xs)) ≡ lowercase (take n (drop at xs))
folded-window xs n at = grind (arith, take-map, drop-map)

-- an occurrence in a window is one in the whole
pub occurs_outside : (xs ys : List ℕ) (n from j : ℕ) → from + n ≤ length xs
    → OccursAt (take n (drop from xs)) ys j → OccursAt xs ys (from + j)
occurs_outside xs ys n from j h o = record {
  fits = omega (arith, o.fits, length-window xs n from h);
  reads = λ i low.
      let within : j + i < n = omega (arith, o.fits, length-window xs n from h) in
      let at : from + j + i ≡ from + (j + i) = omega arith in
      ap (λ (m : ℕ). get_or xs m 0) at ∙ sym (get_or-window xs n from (j + i) within) ∙ o.reads i low;
}

-- an occurrence in the whole that lies in a window is one in the window
pub occurs_inside : (xs ys : List ℕ) (n from j : ℕ) → from + n ≤ length xs → j + length ys ≤ n
    → OccursAt xs ys (from + j) → OccursAt (take n (drop from xs)) ys j
occurs_inside xs ys n from j h holds o = record {
  fits = omega (arith, holds, length-window xs n from h);
  reads = λ i low.
      let within : j + i < n = omega arith in
      let at : from + (j + i) ≡ from + j + i = omega arith in
      get_or-window xs n from (j + i) within ∙ ap (λ (m : ℕ). get_or xs m 0) at ∙ o.reads i low;
}
