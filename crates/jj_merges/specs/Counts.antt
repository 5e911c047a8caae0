-- Signed counts of merges that are made from other values.
-- Cited by contracts of public items: HaveCountsOfClones, HaveCountsOfDiffs, HaveCountsOfImages,
-- HaveCountsOfPresent, count_of_single.
use Rattle.std.specs.Prelude.{◌≡◌, Bool, true, false, not, if◌then◌else◌, List, [], ◌∷◌, map, count_by, filter, Contains, Option, Some, None, ℤ, pos, ◌+ℤ◌, ◌-ℤ◌}
use Rattle.std.specs.Cmp.{IsEquivalence, IsPartialEquivalence}
use Rattle.jj_merges.specs.declared.merge.diffs.Diff.{Diff}
use Rattle.jj_merges.specs.Merge.{adds, removes, signed_count, HaveSameCounts}
use Rattle.jj_merges.specs.Options.{present}

module _ {T : Type 0} where
  -- the signed count of a single add: 1 for its value, 0 for any other
  abbrev pub count_of_single : (T → T → Bool) → T → T → ℤ
  count_of_single eq value v = if eq v value then pos 1 else pos 0

  -- the number of `added` values that equal v minus the number of `removed` ones
  abbrev pub count_difference : (T → T → Bool) → List T → List T → T → ℤ
  count_difference eq added removed v =
      pos (count_by (eq v) added) -ℤ pos (count_by (eq v) removed)

  -- n has the signed counts of m, under each equality by which a clone equals its source
  abbrev pub HaveCountsOfClones : (T → T → Type 0) → List T → List T → Type 0
  HaveCountsOfClones is_clone m n = (eq : T → T → Bool) → IsPartialEquivalence eq
      → ((x y : T) → is_clone x y → eq x y ≡ true) → HaveSameCounts eq n m

  -- the list without values that equal an earlier one
  abbrev pub distinct : (T → T → Bool) → List T → List T
  distinct eq [] = []
  distinct eq (x ∷ xs) = x ∷ filter (λ y. not (eq x y)) (distinct eq xs)

  -- the sum of `count` over the values that pass the test
  abbrev pub sum_if : (T → ℤ) → (T → Bool) → List T → ℤ
  sum_if count test [] = pos 0
  sum_if count test (v ∷ values) =
      (if test v then count v else pos 0) +ℤ sum_if count test values

module _ {F T U : Type 0} (call : F → T → U → F → Type 0) where
  -- each call at a term of m returns the term's image, up to equality
  abbrev pub ReturnsImages : (U → U → Bool) → (T → U) → List T → Type 0
  ReturnsImages eq image m =
      (f g : F) (x : T) (y : U) → Contains m x → call f x y g → eq (image x) y ≡ true

  -- If the closure returns the image of each term, and equal terms have equal images, then the
  -- signed count of a value in n is the sum of those of the distinct terms of m whose image it is.
  abbrev pub HaveCountsOfImages : List T → List U → Type 0
  HaveCountsOfImages m n = (same : T → T → Bool) (eq : U → U → Bool) (image : T → U)
      → IsEquivalence same → IsPartialEquivalence eq → ReturnsImages eq image m
      → ((x y : T) → same x y ≡ true → eq (image x) (image y) ≡ true)
      → (w : U) → signed_count eq n w
      ≡ sum_if (signed_count same m) (λ v. eq w (image v)) (distinct same m)

-- m has the signed counts of the first side and the values after, added, and the values before,
-- removed
abbrev pub HaveCountsOfDiffs : {T : Type 0} → T → List (Diff T) → List T → Type 0
HaveCountsOfDiffs {T} first diffs m = (eq : T → T → Bool) (v : T) → signed_count eq m v
    ≡ count_difference eq (first ∷ map (λ d. d.after) diffs) (map (λ d. d.before) diffs) v

-- an equality of options that agrees with `eq` on values; no value equals `None`
pub record ExtendsToOptions {T : Type 0} (eq : T → T → Bool)
    (on_options : Option T → Option T → Bool) : Type 0 where
  pub both : (x y : T) → on_options (Some x) (Some y) ≡ eq x y
  pub absent : (x : T) → on_options (Some x) None ≡ false

-- the signed count of a value is its count among the present adds minus that among the present
-- removes
abbrev pub HaveCountsOfPresent : {T : Type 0} → List (Option T) → Type 0
HaveCountsOfPresent {T} m = (eq : T → T → Bool) (on_options : Option T → Option T → Bool)
    → ExtendsToOptions eq on_options → (v : T) → signed_count on_options m (Some v)
    ≡ count_difference eq (present (adds m)) (present (removes m)) v
