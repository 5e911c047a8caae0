-- The loop of the cancellation: its start, its steps and its end.
use Rattle.std.proofs.Common.{◌≡◌, ◌∙◌, ℕ, ◌+◌, ◌*◌, ◌/◌, ◌<◌, ◌≤◌, true, List, length, map, All, refl, ap, sym, subst, arith, set}
use Rattle.std.specs.Prelude.{slice_index}
use Rattle.std.specs.List.{range_with_len}
use Rattle.std.proofs.lemmas.List.{length-set}
use Rattle.jj_merges.specs.Merge.{interleave}
use Rattle.jj_merges.specs.Simplify.{equal_at, simplified_indices, split_indices}
use Rattle.jj_merges.proofs.Cancellation.{simplified_sides}
use Rattle.jj_merges.proofs.CancelLoop.{LoopInvariant, LoopInvariant-start}
use Rattle.jj_program.specs.Lines.{Text}
use Rattle.jj_program.specs.MergeViews.{text_eq}
use Rattle.jj_program.specs.MergeSimplify.{AreHeadsFrom, AreNextsFrom, IsRemoveOf, indices_left, is_left}
use Rattle.jj_program.specs.TermClasses.{AreClassesOf}
use Rattle.jj_program.proofs.CancelSteps.{AreAlike, IsOnTheWay, sides-start, way-done, way-moves, way-passed, way-stays}
use Rattle.jj_program.proofs.FirstRemoves.{AreHeads, all-left, dropped-fails, dropped-left, heads-after, others-left}
use Rattle.jj_program.proofs.LeftPositions.{rank, rank-dropped}

-- the cancellation of any terms with these classes leads to the whole one
abbrev pub AreOnTheWay : List ℕ → List ℕ → List ℕ → ℕ → Type 0
AreOnTheWay classes heads adds current = (terms : List Text) → AreClassesOf terms classes → IsOnTheWay (equal_at text_eq terms) classes (simplified_sides text_eq terms) heads adds current

alike-classes : (terms : List Text) (classes : List ℕ) → AreClassesOf terms classes → AreAlike (equal_at text_eq terms) classes
alike-classes terms classes known i j hi hj = known.2 i j (omega (arith, known.0)) (omega (arith, known.0))

pub ways-start : (classes heads adds : List ℕ) → All (λ class. class < length classes) classes → AreHeadsFrom 0 classes heads → 2 * length adds ≡ length classes + 1
    → adds ≡ map (λ p. 2 * p) (range_with_len 0 (length adds)) → AreOnTheWay classes heads adds 0
ways-start classes heads adds bounds are_heads sizes even terms known =
    let whole = simplified_sides text_eq terms in
    let start = LoopInvariant-start text_eq terms (omega (arith, known.0, sizes)) in
    let all = λ (p : ℕ) (below : p < length adds). all-left classes heads are_heads (λ index within. bounds index 0 within) p (omega (arith, sizes)) in
    let sides = sides-start classes heads adds sizes even all in
    let at_size = subst (λ n. LoopInvariant (equal_at text_eq terms) n whole 0 (split_indices n)) (sym known.0) start in
    subst (λ s. LoopInvariant (equal_at text_eq terms) (length classes) whole 0 s) (sym sides) at_size

pub ways-done : (classes heads adds : List ℕ) (current : ℕ) → length adds ≤ current → current ≤ length adds → AreOnTheWay classes heads adds current
    → (terms : List Text) → AreClassesOf terms classes → indices_left classes heads adds ≡ simplified_indices text_eq terms
unfolding simplified_indices
ways-done classes heads adds current low high ways terms known =
    ap (λ s. interleave s.adds s.removes) (way-done (equal_at text_eq terms) classes (simplified_sides text_eq terms) heads adds current low high (ways terms known))

module _ (classes heads adds : List ℕ) (current : ℕ) (bounds : All (λ class. class < length classes) classes) (sizes : 2 * length adds ≡ length classes + 1)
    (adds_in : All (λ add. add < length classes) adds) (within : current < length adds) (left : is_left classes heads current ≡ true) where
  -- the class of the add at the position
  abbrev pub class_at : ℕ
  class_at = slice_index classes (slice_index adds current)

  -- no remove of the class is left
  pub ways-passed : slice_index heads class_at ≡ length classes → AreOnTheWay classes heads adds current → AreOnTheWay classes heads adds (current + 1)
  ways-passed none ways terms known =
      way-passed (equal_at text_eq terms) classes (simplified_sides text_eq terms) (alike-classes terms classes known) heads adds current within sizes left (adds_in current 0 within) (ways terms known) none

  module _ (nexts : List ℕ) (are_nexts : AreNextsFrom 0 classes nexts) (heads_size : length heads ≡ length classes) (are_heads : AreHeads classes heads)
      (some : slice_index heads class_at ≡ length classes → ⊥) where
    abbrev pub first : ℕ
    first = slice_index heads class_at

    -- the state after the pair is dropped
    abbrev pub heads_next : List ℕ
    heads_next = set heads class_at (slice_index nexts first)

    abbrev pub adds_next : List ℕ
    adds_next = set adds current (slice_index adds (first / 2 + 1))

    in_range : slice_index adds current < length classes
    in_range = adds_in current 0 within

    class_within : class_at < length classes
    class_within = bounds (slice_index adds current) 0 in_range

    first_within : first < length classes
    first_within = omega (arith, (are_heads class_at class_within).0, some)

    is_remove : IsRemoveOf classes class_at first
    is_remove = (are_heads class_at class_within).1 first_within

    -- the position of the pair
    pub pair-within : first / 2 + 1 < length adds
    pair-within = omega (arith, is_remove.0, first_within, sizes)

    -- one position fewer is left
    pub one-fewer : rank (is_left classes heads_next) (length adds_next) + 1 ≡ rank (is_left classes heads) (length adds)
    one-fewer =
        ap (λ n. rank (is_left classes heads_next) n + 1) (length-set adds current (slice_index adds (first / 2 + 1)))
        ∙ rank-dropped (is_left classes heads) (is_left classes heads_next) (length adds) (first / 2 + 1) pair-within
        (dropped-left classes nexts heads class_at first heads_size are_nexts class_within refl first_within is_remove)
        (dropped-fails classes nexts heads class_at first heads_size are_nexts class_within refl first_within is_remove)
        (λ p below apart. others-left classes nexts heads class_at first heads_size are_nexts class_within refl first_within is_remove p (omega (arith, sizes)) apart)

    pub heads-next : AreHeads classes heads_next
    heads-next = heads-after classes nexts heads class_at first heads_size are_nexts class_within refl first_within is_remove are_heads

    pub ways-stay : current < first / 2 + 1 → AreOnTheWay classes heads adds current → AreOnTheWay classes heads_next adds_next current
    ways-stay above ways terms known =
        way-stays (equal_at text_eq terms) classes (simplified_sides text_eq terms) (alike-classes terms classes known) heads adds current within sizes left in_range (ways terms known)
        nexts first heads_size are_nexts class_within refl first_within is_remove above

    pub ways-move : first / 2 + 1 ≤ current → AreOnTheWay classes heads adds current → AreOnTheWay classes heads_next adds_next (current + 1)
    ways-move under ways terms known =
        way-moves (equal_at text_eq terms) classes (simplified_sides text_eq terms) (alike-classes terms classes known) heads adds current within sizes left in_range (ways terms known)
        nexts first heads_size are_nexts class_within refl first_within is_remove under
