-- The code of a set: compilation of the operations that build it, evaluation with short circuits,
-- and the stack that it leaves.
use Rattle.std.proofs.Common.{◌≡◌, ◌∙◌, ◌<◌, ◌≤◌, ◌+◌, ℕ, zero, suc, Bool, true, false, cond, List, [], ◌∷◌, ◌++◌, refl, ap, sym, arith, length, get_or, drop, drop-cons, reverse, nat_lt}
use mathlib.Core.Bool.{false≢true}
use Rattle.std.proofs.lemmas.Bool.{and_parts}
use Rattle.std.proofs.lemmas.List.{append_assoc, append-nil, reverse-append, drop_all, length-reverse}
use Rattle.jj_program.specs.declared.file_set.Combination.{Combination}
use Rattle.jj_program.specs.declared.file_set.Combination.TheVariants.{Union, Difference, Intersection}
use Rattle.jj_program.specs.declared.file_set.CodeStep.{CodeStep}
use Rattle.jj_program.specs.declared.file_set.CodeStep.TheVariants.{Test, ShortCircuit, Combine as Combine'}
use Rattle.jj_program.specs.declared.file_set.SetOp.{SetOp}
use Rattle.jj_program.specs.declared.file_set.SetOp.TheVariants.{Push, Combine}
use Rattle.jj_program.specs.declared.file_set.matcher.FileSet.{FileSet}
use Rattle.jj_program.specs.declared.file_set.matcher.FileSet.TheVariants.{Nothing}
use Rattle.jj_paths.specs.Paths.{Path}
use Rattle.jj_program.specs.WalkCommand.{SetTree, one, both, combined_stack, spec_of}
use Rattle.jj_program.specs.SetCode.{stack_of, after_step, code_along, is_decided_by, left_by, made_by, pass_over, is_whole, sets_of}

-- 1. Operations and code of a set.

-- the operations that build a set, and those that build a stack, last first
abbrev pub ops_to : SetTree FileSet → List SetOp
ops_to (one set) = Push set ∷ []
ops_to (both combination first second) = Combine combination ∷ (ops_to second ++ ops_to first)

abbrev pub ops_to_all : List (SetTree FileSet) → List SetOp
ops_to_all [] = []
ops_to_all (set ∷ stack) = ops_to set ++ ops_to_all stack

-- the code of a set
abbrev pub code_of : SetTree FileSet → List CodeStep
code_of (one set) = Test set ∷ []
code_of (both combination first second) = Combine' combination ∷ (code_of second ++ ShortCircuit combination ∷ code_of first)

along_pending : (k : Combination) (pending : List Combination) (set : SetTree FileSet) (rest : List SetOp) →
    code_along (k ∷ pending) (ops_to set ++ rest) ≡ code_of set ++ ShortCircuit k ∷ code_along pending rest
along_pending k pending (one x) rest = refl
along_pending k pending (both c first second) rest =
    ap (λ l. Combine' c ∷ code_along (c ∷ k ∷ pending) l) (append_assoc (ops_to second) (ops_to first) rest)
    ∙ ap (λ l. Combine' c ∷ l) (along_pending c (k ∷ pending) second (ops_to first ++ rest)
    ∙ ap (λ l. code_of second ++ ShortCircuit c ∷ l) (along_pending k pending first rest)
    ∙ sym (append_assoc (code_of second) (ShortCircuit c ∷ code_of first) (ShortCircuit k ∷ code_along pending rest)))

along_alone : (set : SetTree FileSet) (rest : List SetOp) → code_along [] (ops_to set ++ rest) ≡ code_of set ++ code_along [] rest
along_alone (one x) rest = refl
along_alone (both c first second) rest =
    ap (λ l. Combine' c ∷ code_along (c ∷ []) l) (append_assoc (ops_to second) (ops_to first) rest)
    ∙ ap (λ l. Combine' c ∷ l) (along_pending c [] second (ops_to first ++ rest)
    ∙ ap (λ l. code_of second ++ ShortCircuit c ∷ l) (along_alone first rest)
    ∙ sym (append_assoc (code_of second) (ShortCircuit c ∷ code_of first) (code_along [] rest)))

-- operations compile to the code of the set
pub code_of_ops : (set : SetTree FileSet) → code_along [] (ops_to_all (set ∷ [])) ≡ code_of set
code_of_ops set = along_alone set [] ∙ append-nil (code_of set)

left_from : (set : SetTree FileSet) (rest : List CodeStep) → left_by (code_of set ++ rest) ≡ set ∷ left_by rest
left_from (one x) rest = refl
left_from (both k first second) rest =
    ap (λ l. combined_stack k (left_by l)) (append_assoc (code_of second) (ShortCircuit k ∷ code_of first) rest)
    ∙ ap (combined_stack k) (left_from second (ShortCircuit k ∷ (code_of first ++ rest)) ∙ ap (λ l. second ∷ l) (left_from first rest))

-- the code leaves the set
pub left_by_code : (set : SetTree FileSet) → left_by (code_of set) ≡ set ∷ []
left_by_code set = ap left_by (sym (append-nil (code_of set))) ∙ left_from set []

combined_ops : (k : Combination) (ops : List SetOp) (stack : List (SetTree FileSet)) → ops ≡ ops_to_all stack → nat_lt 1 (length stack) ≡ true → Combine k ∷ ops ≡ ops_to_all (combined_stack k stack)
combined_ops k ops [] is two = absurd (false≢true two)
combined_ops k ops (alone ∷ []) is two = absurd (false≢true two)
combined_ops k ops (second ∷ first ∷ stack) is two = ap (λ l. Combine k ∷ l) (is ∙ sym (append_assoc (ops_to second) (ops_to first) (ops_to_all stack)))

-- operations without fault are those of their stack
pub ops_from : (ops : List SetOp) → is_whole ops ≡ true → ops ≡ ops_to_all (stack_of ops)
ops_from [] whole = refl
ops_from (Push set ∷ earlier) whole = ap (λ l. Push set ∷ l) (ops_from earlier whole)
ops_from (Combine k ∷ earlier) whole =
    let parts = and_parts (nat_lt 1 (length (stack_of earlier))) (is_whole earlier) whole in
    combined_ops k earlier (stack_of earlier) (ops_from earlier parts.1) parts.0

combined_short : (k : Combination) (stack : List (SetTree FileSet)) → length (combined_stack k stack) ≤ length stack
combined_short k [] = omega arith
combined_short k (alone ∷ []) = omega arith
combined_short k (second ∷ first ∷ stack) = omega arith

stack_short : (ops : List SetOp) → length (stack_of ops) ≤ length ops
stack_short [] = omega arith
stack_short (Push set ∷ earlier) = let h = stack_short earlier in omega (arith, h)
stack_short (Combine k ∷ earlier) =
    let h = stack_short earlier in
    let short = combined_short k (stack_of earlier) in
    omega (arith, h, short)

-- there are no more sets than operations
pub sets_short : (ops : List SetOp) → length (sets_of ops) ≤ length ops
sets_short ops =
    let short = stack_short (reverse ops) in
    let all = length-reverse ops in
    omega (arith, short, all)

-- the last item is first in reverse
pub reverse_more : {A : Type 0} (xs : List A) (x : A) → reverse (xs ++ x ∷ []) ≡ x ∷ reverse xs
reverse_more xs x = reverse-append xs (x ∷ [])

-- a stack of one set
pub only_item : {A : Type 0} (xs : List A) → length xs ≡ 1 → (x : A) × (xs ≡ x ∷ [])
only_item [] h = absurd (omega arith)
only_item (x ∷ []) h = (x, refl)
only_item (x ∷ y ∷ xs) h = absurd (omega arith)

-- 2. Evaluation.

abbrev pub after : Path → CodeStep → ℕ × Bool → ℕ × Bool
after path op pass = after_step path op pass.0 pass.1

module _ (path : Path) where
  pass_over-append : (xs ys : List CodeStep) (p : ℕ × Bool) → pass_over path (xs ++ ys) p ≡ pass_over path xs (pass_over path ys p)
  pass_over-append [] ys p = refl
  pass_over-append (x ∷ xs) ys p = ap (after path x) (pass_over-append xs ys p)

  -- a short-circuited operand does not change the state
  kept : (set : SetTree FileSet) (n : ℕ) (b : Bool) → pass_over path (code_of set) (suc n, b) ≡ (suc n, b)
  kept (one x) n b = refl
  kept (both k first second) n b =
      ap (after path (Combine' k))
      (pass_over-append (code_of second) (ShortCircuit k ∷ code_of first) (suc n, b)
      ∙ ap (λ p. pass_over path (code_of second) (after path (ShortCircuit k) p)) (kept first n b)
      ∙ kept second (suc n) b)

  -- the second operand is evaluated unless the first determines the result
  second_set : (k : Combination) (u : Bool) (first second : SetTree FileSet) → u ≡ (spec_of first).accepts path
      → ((b : Bool) → pass_over path (code_of second) (0, b) ≡ (0, (spec_of second).accepts path))
      → after path (Combine' k) (pass_over path (code_of second) (after path (ShortCircuit k) (0, u)))
      ≡ (0, (spec_of (both k first second)).accepts path)
  second_set Union true first second is requested = rw (sym is) (ap (after path (Combine' Union)) (kept second 0 true))
  second_set Union false first second is requested = rw (sym is) (ap (after path (Combine' Union)) (requested false))
  second_set Difference true first second is requested = rw (sym is) (ap (after path (Combine' Difference)) (requested true))
  second_set Difference false first second is requested = rw (sym is) (ap (after path (Combine' Difference)) (kept second 0 false))
  second_set Intersection true first second is requested = rw (sym is) (ap (after path (Combine' Intersection)) (requested true))
  second_set Intersection false first second is requested = rw (sym is) (ap (after path (Combine' Intersection)) (kept second 0 false))

  pub told : (set : SetTree FileSet) (b : Bool) → pass_over path (code_of set) (0, b) ≡ (0, (spec_of set).accepts path)
  told (one x) b = refl
  told (both k first second) b =
      ap (after path (Combine' k))
      (pass_over-append (code_of second) (ShortCircuit k ∷ code_of first) (0, b)
      ∙ ap (λ p. pass_over path (code_of second) (after path (ShortCircuit k) p)) (told first b))
      ∙ second_set k ((spec_of first).accepts path) first second refl (told second)

  -- one more operation
  pub pass_next : (code : List CodeStep) (start p : ℕ × Bool) (left : ℕ) (op : CodeStep) → left < length code → op ≡ get_or code left op →
      p ≡ pass_over path (drop (suc left) code) start → after path op p ≡ pass_over path (drop left code) start
  pass_next code start p left op within is so_far =
      ap (after path op) so_far
      ∙ ap (λ x. after path x (pass_over path (drop (suc left) code) start)) is
      ∙ sym (ap (λ l. pass_over path l start) (drop-cons code left op within))

  -- an operation short-circuits at most one combination
  pub after-few : (op : CodeStep) (n : ℕ) (b : Bool) → (after_step path op n b).0 ≤ n + 1
  after-few (Test set) zero b = omega arith
  after-few (Test set) (suc n) b = omega arith
  after-few (ShortCircuit k) zero b = few (is_decided_by k b)
    where
      few : (d : Bool) → cond d 1 0 ≤ 0 + 1
      few true = omega arith
      few false = omega arith
  after-few (ShortCircuit k) (suc n) b = omega arith
  after-few (Combine' k) zero b = omega arith
  after-few (Combine' k) (suc n) b = omega arith

  -- the code ends after the last operation
  pub pass_none : (code : List CodeStep) (start : ℕ × Bool) (n : ℕ) → length code ≤ n → start ≡ pass_over path (drop n code) start
  pass_none code start n h = sym (ap (λ l. pass_over path l start) (drop_all n code h))

-- the code of the only set of a stack decides membership
pub record IsCodeOf (sets : List (SetTree FileSet)) (code : List CodeStep) : Type 0 where
  pub decided : (path : Path) → (pass_over path code (0, false)).1 ≡ (spec_of (made_by code)).accepts path
  pub made : sets ≡ made_by code ∷ []

pub code_of_only : (ops : List SetOp) (code : List CodeStep) → length (sets_of ops) ≡ 1 → is_whole (reverse ops) ≡ true → code ≡ code_along [] (reverse ops) → IsCodeOf (sets_of ops) code
code_of_only ops code alone whole along =
    let (set, only) = only_item (sets_of ops) alone in
    let back : reverse ops ≡ ops_to_all (set ∷ []) = ops_from (reverse ops) whole ∙ ap ops_to_all only in
    let same : code ≡ code_of set = along ∙ ap (code_along []) back ∙ code_of_ops set in
    let is : made_by code ≡ set = ap made_by same ∙ ap (λ l. get_or l 0 (one Nothing)) (left_by_code set) in
    record {
      decided = λ path. ap (λ l. (pass_over path l (0, false)).1) same ∙ ap (λ (p : ℕ × Bool). p.1) (told path set false) ∙ ap (λ s. (spec_of s).accepts path) (sym is);
      made = only ∙ ap (λ s. s ∷ []) (sym is);
    }
