-- The sum over all nodes of the number of sets that reach them.
use Rattle.std.proofs.Common.{◌≡◌, ◌+◌, ◌*◌, ◌^◌, ◌<◌, ◌≤◌, ap, Bool, true, false, not, cond, ◌&&◌, ◌||◌, List, [], ◌∷◌, Option, Some, None, length, sym, arith, ⊎_elim, true≢false}
use Rattle.std.specs.List.{sum_by}
use Rattle.std.specs.Map.{lookup, values_of}
use Rattle.std.proofs.lemmas.List.Sums.{sum_by-cons}
use Rattle.std.proofs.lemmas.Map.Entries.{length-values_of, sum_by-set_value, sum_by_values_permutation}
use Rattle.std.proofs.lemmas.Bool.{and_parts, or_cases}
use Rattle.jj_dag.specs.declared.closest_common.Sides.{Sides}
use Rattle.jj_dag.specs.declared.closest_common.NodeState.{NodeState}
use Rattle.jj_dag.specs.NodeMaps.{PutsEntry}
use Rattle.jj_dag.specs.NodeStates.{state_at, state_of, adds_side, state_with, becomes_pending, side_count, sides_met}
use Rattle.jj_dag.proofs.Plain.{at_most_one}

one_more : (k r : Bool) → cond k 1 0 ≤ cond (k || r) 1 0
one_more true r = omega arith
one_more false r = omega arith

one_new : (k r : Bool) → (r && not k) ≡ true → cond k 1 0 + 1 ≤ cond (k || r) 1 0
one_new true true e = absurd (true≢false (sym e))
one_new true false e = absurd (true≢false (sym e))
one_new false true e = omega arith
one_new false false e = absurd (true≢false (sym e))

pub sides_more : (state : NodeState) (added : Sides) → side_count state ≤ side_count (state_with state added)
sides_more state added =
    let l = one_more state.sides.left added.left in
    let r = one_more state.sides.right added.right in
    omega (arith, l, r)

pub sides_start : (state : NodeState) (added : Sides) → becomes_pending state added ≡ true → side_count state + 1 ≤ side_count (state_with state added)
sides_start state added e =
    let grown = and_parts (adds_side state.sides added) (not state.is_pending) e in
    let l = one_more state.sides.left added.left in
    let r = one_more state.sides.right added.right in
    ⊎_elim
    (λ new. let n = one_new state.sides.left added.left new in omega (arith, n, r))
    (λ new. let n = one_new state.sides.right added.right new in omega (arith, n, l))
    (or_cases (added.left && not state.sides.left) (added.right && not state.sides.right) grown.0)

sides_small : (states : List NodeState) → sum_by side_count states ≤ 2 * length states
sides_small [] = omega arith
sides_small (state ∷ states) =
    let l = at_most_one state.sides.left in
    let r = at_most_one state.sides.right in
    let rest = sides_small states in
    let whole = sum_by-cons side_count state states in
    omega (arith, l, r, rest, whole)

-- the sum of sides grows by those that a new state adds
pub sides_put : {ID : Type 0} (eq : ID → ID → Bool) (known known2 : List (ID × NodeState)) (i : ID) (put : NodeState) (before : Option NodeState) → before ≡ lookup (eq i) known
    → PutsEntry eq known known2 i put before → sides_met known2 + side_count (state_at eq known i) ≡ sides_met known + side_count put
sides_put eq known known2 i put None is puts =
    let none : side_count (state_at eq known i) ≡ 0 = ap (λ o. side_count (state_of o)) (sym is) in
    omega (arith, none, sum_by_values_permutation side_count _ _ puts, sum_by-cons side_count put (values_of known))
sides_put eq known known2 i put (Some state) is puts =
    let had : side_count (state_at eq known i) ≡ side_count state = ap (λ o. side_count (state_of o)) (sym is) in
    omega (arith, had, ap sides_met puts, sum_by-set_value side_count (eq i) known state put (sym is))

-- they are at most two for each id
pub sides_fit : {ID : Type 0} (known : List (ID × NodeState)) → length known < 2 ^ 63 → sides_met known < 2 ^ 64
sides_fit known few =
    let all : length (values_of known) ≡ length known = length-values_of known in
    omega (arith, few, sides_small (values_of known), all)
