-- Runs of context lines.
use Rattle.std.proofs.Common.{◌≡◌, ℕ, zero, suc, ◌+◌, ◌-◌, ◌<◌, ◌≤◌, true, false, cond, List, [], ◌∷◌, length, take, drop, get_or, refl, sym, ap, ◌∙◌, add-one, arith, inl, inr}
use Rattle.std.proofs.lemmas.Bool.{cases_Bool, cases_lt, and_parts}
use Rattle.std.proofs.lemmas.List.{take_more, get_or_default, get_or-drop, length-drop}
use Rattle.std.proofs.lemmas.Grind.{fold-append}
use Rattle.std.specs.List.{list_all}
use Rattle.jj_diff_presentation.specs.Scripts.{is_context, AreContext}
use Rattle.jj_diff_presentation.specs.Hunks.{leading_context, trailing_context, IsHunkEnd}
use Rattle.jj_diff_presentation.specs.declared.unified.script.DiffLine.{DiffLine}
use Rattle.jj_diff_presentation.specs.declared.unified.script.DiffLineType.TheVariants.{Context}
use Rattle.jj_diff_presentation.proofs.Booleans.{cond_true, cond_false}

abbrev pub any_line : DiffLine
any_line = record { line_type = Context; content = record { ref_ptr = (0, 0); now = [] } }

-- ---- the run at the end

get_or_same : (lines : List DiffLine) (k : ℕ) → k < length lines
    → get_or lines k any_line ≡ get_or lines k (get_or lines k any_line)
get_or_same [] k lt = absurd (omega arith)
get_or_same (x ∷ xs) zero lt = refl
get_or_same (x ∷ xs) (suc k) lt = get_or_same xs k (omega arith)

trailing_more : (lines : List DiffLine) (k : ℕ) (x : DiffLine) → k < length lines
    → x ≡ get_or lines k x
    → trailing_context (take (k + 1) lines)
    ≡ cond (is_context x) (trailing_context (take k lines) + 1) 0
trailing_more lines k x lt e =
    ap trailing_context (take_more lines k x lt)
    ∙ fold-append (λ n line. cond (is_context line) (n + 1) 0) 0 (take k lines)
    (get_or lines k x ∷ [])
    ∙ ap (λ y. cond (is_context y) (trailing_context (take k lines) + 1) 0) (sym e)

pub run_reset : (lines : List DiffLine) (k : ℕ) (x : DiffLine) → k < length lines
    → x ≡ get_or lines k x → is_context x ≡ false → 0 ≡ trailing_context (take (k + 1) lines)
run_reset lines k x lt e f =
    sym (trailing_more lines k x lt e
    ∙ cond_false (is_context x) (trailing_context (take k lines) + 1) 0 f)

pub run_grown : (lines : List DiffLine) (k run : ℕ) (x : DiffLine) → k < length lines
    → x ≡ get_or lines k x → is_context x ≡ true → run ≡ trailing_context (take k lines)
    → run + 1 ≡ trailing_context (take (k + 1) lines)
run_grown lines k run x lt e t r =
    ap (λ n. n + 1) r
    ∙ sym (trailing_more lines k x lt e
    ∙ cond_true (is_context x) (trailing_context (take k lines) + 1) 0 t)

-- a line before the end of a run is a context line, and the run before it is shorter by one
run_before : (lines : List DiffLine) (k : ℕ) → k < length lines
    → 0 < trailing_context (take (k + 1) lines)
    → (trailing_context (take k lines) + 1 ≡ trailing_context (take (k + 1) lines))
    × (is_context (get_or lines k any_line) ≡ true)
run_before lines k lt h =
    let x : DiffLine = get_or lines k any_line in
    let e : x ≡ get_or lines k x = get_or_same lines k lt in
    elim (cases_Bool (is_context x)) [
      | inl t ↦ (run_grown lines k (trailing_context (take k lines)) x lt e t refl, t)
      | inr f ↦ absurd (omega (arith, h, run_reset lines k x lt e f))
    ]

next_prefix : (lines : List DiffLine) (k : ℕ)
    → trailing_context (take (k + 1) lines) ≡ trailing_context (take (suc k) lines)
next_prefix lines k = ap (λ n. trailing_context (take n lines)) (add-one k)

-- a shorter prefix, which ends within the run
pub trailing_less : (lines : List DiffLine) (k a : ℕ) → k ≤ length lines
    → a ≤ trailing_context (take k lines)
    → (a ≤ k) × (trailing_context (take (k - a) lines) + a ≡ trailing_context (take k lines))
trailing_less lines k zero le h =
    let e : k - 0 ≡ k = omega arith in
    (omega arith, omega (arith, ap (λ n. trailing_context (take n lines)) e))
trailing_less lines zero (suc a) le h = absurd (omega (arith, h))
trailing_less lines (suc k) (suc a) le h =
    let b : (trailing_context (take k lines) + 1 ≡ trailing_context (take (k + 1) lines))
    × (is_context (get_or lines k any_line) ≡ true)
    = run_before lines k (omega arith) (omega (arith, h, next_prefix lines k)) in
    let f : trailing_context (take k lines) + 1 ≡ trailing_context (take (suc k) lines)
    = omega (arith, b.0, next_prefix lines k) in
    let r : (a ≤ k) × (trailing_context (take (k - a) lines) + a ≡ trailing_context (take k lines))
    = trailing_less lines k a (omega arith) (omega (arith, h, f)) in
    let e : suc k - suc a ≡ k - a = omega arith in (
      omega (arith, r.0),
      omega (arith, r.1, f, ap (λ n. trailing_context (take n lines)) e),
    )

context_in_run : (lines : List DiffLine) (k i : ℕ) → k ≤ length lines → i < k
    → k ≤ i + trailing_context (take k lines) → is_context (get_or lines i any_line) ≡ true
context_in_run lines k i le lt run =
    let a : ℕ = k - (i + 1) in
    let r : (a ≤ k) × (trailing_context (take (k - a) lines) + a ≡ trailing_context (take k lines))
    = trailing_less lines k a le (omega (arith, run)) in
    let e : k - a ≡ i + 1 = omega arith in
    let f : trailing_context (take (k - a) lines) ≡ trailing_context (take (i + 1) lines)
    = ap (λ n. trailing_context (take n lines)) e in
    (run_before lines i (omega arith) (omega (arith, r.1, f, run))).1

-- ---- the run at the start

pub leading_bounded : (xs : List DiffLine) → leading_context xs ≤ length xs
leading_bounded [] = omega arith
leading_bounded (x ∷ xs) =
    elim (is_context x) as (λ b. cond b (1 + leading_context xs) 0 ≤ suc (length xs)) [
      | true ↦ omega (arith, leading_bounded xs)
      | false ↦ omega arith
    ]

leading_at_least : (xs : List DiffLine) (m : ℕ) → m ≤ length xs
    → ((i : ℕ) → i < m → is_context (get_or xs i any_line) ≡ true) → m ≤ leading_context xs
leading_at_least xs zero le all = omega arith
leading_at_least [] (suc m) le all = absurd (omega arith)
leading_at_least (x ∷ xs) (suc m) le all =
    let rest : m ≤ leading_context xs
    = leading_at_least xs m (omega arith) (λ i lt. all (suc i) (omega arith)) in
    let here : leading_context (x ∷ xs) ≡ 1 + leading_context xs
    = cond_true (is_context x) (1 + leading_context xs) 0 (all 0 (omega arith)) in
    omega (arith, rest, here)

leading_from : (xs : List DiffLine) (n m : ℕ) → n ≤ m → m ≤ length xs
    → ((i : ℕ) → n ≤ i → i < m → is_context (get_or xs i any_line) ≡ true)
    → m ≤ n + leading_context (drop n xs)
leading_from xs n m le within all =
    let h : m - n ≤ leading_context (drop n xs)
    = leading_at_least (drop n xs) (m - n) (omega (arith, length-drop n xs))
    (λ i lt. ap is_context (get_or-drop n xs i any_line) ∙ all (n + i) (omega arith) (omega arith))
    in
    omega (arith, h)

pub leading_change : (xs : List DiffLine) (n : ℕ) → leading_context xs ≡ n → n < length xs
    → is_context (get_or xs n any_line) ≡ false
leading_change [] n e lt = absurd (omega arith)
leading_change (x ∷ xs) n e lt =
    elim (cases_Bool (is_context x)) [
      | inl t ↦
          let one : leading_context (x ∷ xs) ≡ 1 + leading_context xs
          = cond_true (is_context x) (1 + leading_context xs) 0 t in
          let m : n ≡ suc (leading_context xs) = omega (arith, one, e) in
          ap (λ k. is_context (get_or (x ∷ xs) k any_line)) m
          ∙ leading_change xs (leading_context xs) refl (omega (arith, m, lt))
      | inr f ↦
          let none : leading_context (x ∷ xs) ≡ 0
          = cond_false (is_context x) (1 + leading_context xs) 0 f in
          let z : n ≡ 0 = omega (arith, none, e) in
          ap (λ k. is_context (get_or (x ∷ xs) k any_line)) z ∙ f
    ]

pub leading_all : (xs : List DiffLine) → AreContext xs → leading_context xs ≡ length xs
leading_all [] all = refl
leading_all (x ∷ xs) all =
    let p : (is_context x ≡ true) × (list_all is_context xs ≡ true)
    = and_parts (is_context x) (list_all is_context xs) all in
    cond_true (is_context x) (1 + leading_context xs) 0 p.0
    ∙ omega (arith, leading_all xs p.1)

pub leading_drop : (xs : List DiffLine) (n : ℕ) → n ≤ leading_context xs
    → leading_context (drop n xs) + n ≡ leading_context xs
leading_drop xs zero le = omega arith
leading_drop [] (suc n) le = absurd (omega arith)
leading_drop (x ∷ xs) (suc n) le =
    elim (cases_Bool (is_context x)) [
      | inl t ↦
          let one : leading_context (x ∷ xs) ≡ 1 + leading_context xs
          = cond_true (is_context x) (1 + leading_context xs) 0 t in
          omega (arith, one, leading_drop xs n (omega (arith, one, le)))
      | inr f ↦
          absurd (omega (
            arith,
            le,
            cond_false (is_context x) (1 + leading_context xs) 0 f,
          ))
    ]

pub leading_take : (xs : List DiffLine) (n : ℕ) → leading_context xs < n
    → leading_context (take n xs) ≡ leading_context xs
leading_take [] zero lt = refl
leading_take [] (suc n) lt = refl
leading_take (x ∷ xs) zero lt = absurd (omega arith)
leading_take (x ∷ xs) (suc n) lt =
    elim (cases_Bool (is_context x)) [
      | inl t ↦
          let one : leading_context (x ∷ xs) ≡ 1 + leading_context xs
          = cond_true (is_context x) (1 + leading_context xs) 0 t in
          cond_true (is_context x) (1 + leading_context (take n xs)) 0 t
          ∙ ap (λ k. 1 + k) (leading_take xs n (omega (arith, one, lt)))
          ∙ sym one
      | inr f ↦
          cond_false (is_context x) (1 + leading_context (take n xs)) 0 f
          ∙ sym (cond_false (is_context x) (1 + leading_context xs) 0 f)
    ]

-- ---- the ends of a hunk

pub ends_in_run : (lines : List DiffLine) (context run k : ℕ) (x : DiffLine) → k < length lines
    → is_context (get_or lines k x) ≡ true → run ≡ trailing_context (take k lines)
    → context ≤ run → context ≤ run - context → run ≤ context + context
    → IsHunkEnd lines context (k - context)
ends_in_run lines context run k x lt t r a b c =
    let less : (context ≤ k) × (trailing_context (take (k - context) lines) + context
    ≡ trailing_context (take k lines))
    = trailing_less lines k context (omega arith) (omega (arith, r, a)) in
    let is : trailing_context (take (k - context) lines) ≡ context
    = omega (arith, less.1, r, a, b, c) in
    let last : is_context (get_or lines k any_line) ≡ true
    = ap is_context (get_or_default lines k any_line x lt) ∙ t in
    let long : k + 1 ≤ (k - context) + leading_context (drop (k - context) lines)
    = leading_from lines (k - context) (k + 1) (omega arith) (omega arith) (λ i ge le.
    elim (cases_lt i k) [
      | inl before ↦ context_in_run lines k i (omega arith) before (omega (arith, r, a, b, c))
      | inr at ↦
          let same : i ≡ k = omega arith in
          ap (λ n. is_context (get_or lines n any_line)) same ∙ last
    ]) in
    record {
      trailing = omega (arith, is);
      full = λ _. is;
      next = λ _. omega (arith, long, less.0);
    }

pub ends_after_run : (lines : List DiffLine) (context run k : ℕ) → k ≡ length lines
    → run ≡ trailing_context (take k lines) → IsHunkEnd lines context (k - (run - context))
ends_after_run lines context run k e r =
    let a : ℕ = run - context in
    let less : (a ≤ k) × (trailing_context (take (k - a) lines) + a ≡ trailing_context (take k lines))
    = trailing_less lines k a (omega arith) (omega (arith, r)) in
    let long : k ≤ (k - a) + leading_context (drop (k - a) lines)
    = leading_from lines (k - a) k (omega arith) (omega arith)
    (λ i ge lt. context_in_run lines k i (omega arith) lt (omega (arith, r))) in
    record {
      trailing = omega (arith, less.1, r);
      full = λ lt. omega (arith, less.1, r, lt);
      next = λ lt. absurd (omega (arith, long, lt, length-drop (k - a) lines));
    }

-- the first change ends the run before it
pub first_run : (lines : List DiffLine) (first : ℕ) → leading_context lines ≡ first
    → first < length lines → 0 ≡ trailing_context (take (first + 1) lines)
first_run lines first e lt =
    run_reset lines first (get_or lines first any_line) lt (get_or_same lines first lt)
    (leading_change lines first e lt)

pub ruleset hunk_end_steps = (run_reset, run_grown, first_run)
