-- Line faults name the first faulty line.
use Rattle.std.proofs.Common.{◌≡◌, ◌∙◌, ℕ, ◌+◌, ◌-◌, ◌<◌, ◌≤◌, zero, suc, Bool, true, false, List, [], ◌∷◌, length, take, drop, Result, Ok, Err, is_ok, refl, ap, sym, subst, arith, true≢false, None}
use Rattle.std.specs.Result.{result_map_both}
use Rattle.jj_program.specs.declared.fault.Fault.{Fault}
use Rattle.jj_program.specs.declared.fault.Fault.TheVariants.{NotUtf8, Line}
use Rattle.jj_program.specs.declared.fault.LineFault.{LineFault}
use Rattle.jj_program.specs.declared.program.Command.TheVariants.{Walk, Merge, Graph, Hash}
use Rattle.jj_program.specs.Laws.{BeginAlike, FaultsAreOfFirstLines}
use Rattle.jj_program.specs.GraphCommand.{graph_step, GraphState}
use Rattle.jj_program.specs.HashCommand.{hash_step}
use Rattle.jj_program.specs.Lines.{lines_of, fields_of, after_line, after_lines, result_and_then}
use Rattle.jj_program.specs.MergeCommand.{merge_step}
use Rattle.jj_program.specs.declared.file_set.matcher.FileSet.{FileSet}
use Rattle.jj_program.specs.WalkCommand.{SetTree, WalkState, walk_step, only_set, WalkRequest}
use Rattle.jj_paths.specs.Paths.{Path}

-- 1. Faults of different lines differ.

abbrev names_line : Fault → Bool
names_line (Line number kind) = true
names_line other = false

abbrev line_named : Fault → ℕ
line_named (Line number kind) = number
line_named other = 0

abbrev fault_or : {S : Type 0} → Fault → Result S Fault → Fault
fault_or fault (Ok state) = fault
fault_or fault (Err other) = other

ok≢err : {S : Type 0} (state : S) (fault : Fault) → Ok state ≡ Err fault → ⊥
ok≢err state fault e = true≢false (ap is_ok e)

abbrev first_or : {X : Type 0} → X → List X → X
first_or x [] = x
first_or x (y ∷ ys) = y

none≢cons : {X : Type 0} (x : X) (xs : List X) → x ∷ xs ≡ [] → ⊥
none≢cons x xs e = absurd (omega (arith, ap length e))

same_head : {X : Type 0} (x y : X) (xs ys : List X) → x ∷ xs ≡ y ∷ ys → x ≡ y
same_head x y xs ys e = ap (first_or x) e

same_tail : {X : Type 0} (x y : X) (xs ys : List X) → x ∷ xs ≡ y ∷ ys → xs ≡ ys
same_tail x y xs ys e = ap (drop 1) e

-- 2. The fold over lines.

module _ {S : Type 0} (step : S → List (List ℕ) → Result S LineFault) where
  -- a line's fault has its number
  own_at : (number : ℕ) (r : Result S LineFault) (k : ℕ) (kind : LineFault) → result_map_both (λ state. state) (Line number) r ≡ Err (Line k kind) → k ≡ number
  own_at number (Ok state) k kind e = absurd (ok≢err state (Line k kind) e)
  own_at number (Err other) k kind e = sym (ap (λ r. line_named (fault_or NotUtf8 r)) e)

  own : (number : ℕ) (state : S) (line : List ℕ) (k : ℕ) (kind : LineFault) → after_line step number state line ≡ Err (Line k kind) → k ≡ number
  own number state [] k kind e = absurd (ok≢err state (Line k kind) e)
  own number state (b ∷ bs) k kind e = own_at number (step state (fields_of (b ∷ bs))) k kind e

  -- the line number of a fault is in range
  within : (number : ℕ) (state : S) (lines : List (List ℕ)) (k : ℕ) (kind : LineFault) → after_lines step number state lines ≡ Err (Line k kind) → (number ≤ k) × (k < number + length lines)
  within number state [] k kind e = absurd (ok≢err state (Line k kind) e)
  within number state (line ∷ lines) k kind e = by_line (λ next. within (number + 1) next lines k kind) (after_line step number state line) refl e
    where
      by_line : ((next : S) → after_lines step (number + 1) next lines ≡ Err (Line k kind) → (number + 1 ≤ k) × (k < number + 1 + length lines))
          → (r : Result S Fault) → after_line step number state line ≡ r → result_and_then r (λ next. after_lines step (number + 1) next lines) ≡ Err (Line k kind) → (number ≤ k) × (k < number + length (line ∷ lines))
      by_line deep (Ok next) is h = let later = deep next h in (omega (arith, later.0), omega (arith, later.1))
      by_line deep (Err fault) is h = let here = own number state line k kind (is ∙ h) in (omega (arith, here), omega (arith, here))

  -- later lines do not change the fault
  decided : (number : ℕ) (state : S) (lines others : List (List ℕ)) (m : ℕ) (kind : LineFault) → after_lines step number state lines ≡ Err (Line (number + m) kind) → take (suc m) lines ≡ take (suc m) others → after_lines step number state others ≡ Err (Line (number + m) kind)
  decided number state [] others m kind e alike = absurd (ok≢err state (Line (number + m) kind) e)
  decided number state (line ∷ lines) [] m kind e alike = absurd (none≢cons line (take m lines) alike)
  decided number state (line ∷ lines) (other ∷ others) m kind e alike =
      ap (λ l. result_and_then (after_line step number state l) (λ next. after_lines step (number + 1) next others)) (sym (same_head line other (take m lines) (take m others) alike))
      ∙ by_line (λ next n. decided (number + 1) next lines others n kind) (after_line step number state line) refl m e (same_tail line other (take m lines) (take m others) alike)
    where
      by_line : ((next : S) (n : ℕ) → after_lines step (number + 1) next lines ≡ Err (Line ((number + 1) + n) kind) → take (suc n) lines ≡ take (suc n) others → after_lines step (number + 1) next others ≡ Err (Line ((number + 1) + n) kind))
          → (r : Result S Fault) → after_line step number state line ≡ r → (n : ℕ) → result_and_then r (λ next. after_lines step (number + 1) next lines) ≡ Err (Line (number + n) kind) → take n lines ≡ take n others → result_and_then r (λ next. after_lines step (number + 1) next others) ≡ Err (Line (number + n) kind)
      by_line deep (Err fault) is n h tails = h
      by_line deep (Ok next) is zero h tails = absurd (omega (arith, (within (number + 1) next lines (number + 0) kind h).0))
      by_line deep (Ok next) is (suc n) h tails =
          let same : number + suc n ≡ (number + 1) + n = omega arith in
          deep next n (h ∙ ap (λ k. Err (Line k kind)) same) tails ∙ ap (λ k. Err (Line k kind)) (sym same)

  -- earlier lines have no fault, whatever follows them
  none_before : (number : ℕ) (state : S) (lines others : List (List ℕ)) (m j : ℕ) (kind fault : LineFault) → after_lines step number state lines ≡ Err (Line (number + m) kind) → take m lines ≡ take m others → after_lines step number state others ≡ Err (Line j fault) → number + m ≤ j
  none_before number state lines others zero j kind fault e alike f = omega (arith, (within number state others j fault f).0)
  none_before number state [] others (suc m) j kind fault e alike f = absurd (ok≢err state (Line (number + suc m) kind) e)
  none_before number state (line ∷ lines) [] (suc m) j kind fault e alike f = absurd (none≢cons line (take m lines) alike)
  none_before number state (line ∷ lines) (other ∷ others) (suc m) j kind fault e alike f =
      by_line (λ next. none_before (number + 1) next lines others m j kind fault) (after_line step number state line) refl e
      (ap (λ l. result_and_then (after_line step number state l) (λ next. after_lines step (number + 1) next others)) (same_head line other (take m lines) (take m others) alike) ∙ f)
    where
      by_line : ((next : S) → after_lines step (number + 1) next lines ≡ Err (Line ((number + 1) + m) kind) → take m lines ≡ take m others → after_lines step (number + 1) next others ≡ Err (Line j fault) → (number + 1) + m ≤ j)
          → (r : Result S Fault) → after_line step number state line ≡ r → result_and_then r (λ next. after_lines step (number + 1) next lines) ≡ Err (Line (number + suc m) kind) → result_and_then r (λ next. after_lines step (number + 1) next others) ≡ Err (Line j fault) → number + suc m ≤ j
      by_line deep (Err other) is h k = absurd (omega (arith, own number state line (number + suc m) kind (is ∙ h)))
      by_line deep (Ok next) is h k =
          let same : number + suc m ≡ (number + 1) + m = omega arith in
          let later = deep next (h ∙ ap (λ n. Err (Line n kind)) same) (same_tail line other (take m lines) (take m others) alike) k in
          omega (arith, later)

  -- 3. A whole input.

  pub whole : (start : S) (text : List ℕ) (number : ℕ) (kind : LineFault) → after_lines step 1 start (lines_of text) ≡ Err (Line number kind) → (1 ≤ number) × (number ≤ length (lines_of text))
  whole start text number kind e = let w = within 1 start (lines_of text) number kind e in (w.0, omega (arith, w.1))

  pub whole_decided : (start : S) (text other : List ℕ) (number : ℕ) (kind : LineFault) → after_lines step 1 start (lines_of text) ≡ Err (Line number kind) → BeginAlike number text other → after_lines step 1 start (lines_of other) ≡ Err (Line number kind)
  whole_decided start text other zero kind e alike = absurd (omega (arith, (within 1 start (lines_of text) 0 kind e).0))
  whole_decided start text other (suc m) kind e alike =
      let same : suc m ≡ 1 + m = omega arith in
      decided 1 start (lines_of text) (lines_of other) m kind (e ∙ ap (λ k. Err (Line k kind)) same) alike ∙ ap (λ k. Err (Line k kind)) (sym same)

  pub whole_first : (start : S) (text other : List ℕ) (number earlier : ℕ) (kind fault : LineFault) → after_lines step 1 start (lines_of text) ≡ Err (Line number kind) → BeginAlike (number - 1) text other → after_lines step 1 start (lines_of other) ≡ Err (Line earlier fault) → number ≤ earlier
  whole_first start text other zero earlier kind fault e alike f = omega arith
  whole_first start text other (suc m) earlier kind fault e alike f =
      let same : suc m ≡ 1 + m = omega arith in
      let less : suc m - 1 ≡ m = omega arith in
      let deep = none_before 1 start (lines_of text) (lines_of other) m earlier kind fault (e ∙ ap (λ k. Err (Line k kind)) same) (subst (λ n. BeginAlike n text other) less alike) f in
      omega (arith, deep)

-- 4. The commands.

not_matchers : (marks : List Path) (stack : List (SetTree FileSet)) (number : ℕ) (kind : LineFault) → only_set marks stack ≡ Err (Line number kind) → ⊥
not_matchers marks [] number kind e = true≢false (sym (ap (λ r. names_line (fault_or NotUtf8 r)) e))
not_matchers marks (set ∷ []) number kind e = ok≢err _ (Line number kind) e
not_matchers marks (set ∷ other ∷ stack) number kind e = true≢false (sym (ap (λ r. names_line (fault_or NotUtf8 r)) e))

-- the request of the state after the lines
abbrev only : WalkState → Result WalkRequest Fault
only state = only_set state.marks state.stack

walk_lines_fail : (r : Result WalkState Fault) (number : ℕ) (kind : LineFault) → result_and_then r only ≡ Err (Line number kind) → r ≡ Err (Line number kind)
walk_lines_fail (Ok state) number kind e = absurd (not_matchers state.marks state.stack number kind e)
walk_lines_fail (Err fault) number kind e = ap Err (ap (fault_or fault) e)

earlier_is_not : (number earlier : ℕ) → number ≤ earlier → earlier < number → ⊥
earlier_is_not number earlier h k = absurd (omega (arith, h, k))

-- the initial states
abbrev begun : WalkState
begun = record { marks = []; stack = [] }

abbrev unlisted : GraphState
unlisted = record { listed = λ id. None; requests = [] }

pub gives_first_fault : FaultsAreOfFirstLines
gives_first_fault Walk text number kind e =
    let lines = walk_lines_fail _ number kind e in
    record {
      there = whole walk_step begun text number kind lines;
      decided = λ other alike. ap (λ r. result_and_then r only) (whole_decided walk_step begun text other number kind lines alike);
      first = λ other earlier fault alike less f. earlier_is_not number earlier
          (whole_first walk_step begun text other number earlier kind fault lines alike (walk_lines_fail _ earlier fault f)) less;
    }
gives_first_fault Merge text number kind e = record {
  there = whole merge_step [] text number kind e;
  decided = λ other alike. whole_decided merge_step [] text other number kind e alike;
  first = λ other earlier fault alike less f. earlier_is_not number earlier (whole_first merge_step [] text other number earlier kind fault e alike f) less;
}
gives_first_fault Graph text number kind e = record {
  there = whole graph_step unlisted text number kind e;
  decided = λ other alike. whole_decided graph_step unlisted text other number kind e alike;
  first = λ other earlier fault alike less f. earlier_is_not number earlier (whole_first graph_step unlisted text other number earlier kind fault e alike f) less;
}
gives_first_fault Hash text number kind e = record {
  there = whole hash_step [] text number kind e;
  decided = λ other alike. whole_decided hash_step [] text other number kind e alike;
  first = λ other earlier fault alike less f. earlier_is_not number earlier (whole_first hash_step [] text other number earlier kind fault e alike f) less;
}
