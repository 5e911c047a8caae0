use Rattle.std.proofs.Common.{◌≡◌, ◌++◌, ◌∷◌, [], List, true, false, not, cond, filter, map, ap, sym, ◌∙◌, append_assoc}
use Rattle.jj_dag.specs.NodeStates.{state_at, closest_of}
use Rattle.jj_dag.specs.declared.closest_common.NodeState.{NodeState}
use Rattle.jj_dag.proofs.closest_common.closest.Goals.{then-not-state_of+in_ok-push, else-not-state_of}
use Rattle.jj_dag.proofs.closest_common.closest.Goals as goal

-- a candidate that no common node is known to reach is the next of the closest
kept : {T ID : Type 0} (find : ID → NodeState) (s t : List (ID × T)) (all ys zs : List T) (x : T) (i : ID) (m : NodeState) → m ≡ find i → not m.sides.below ≡ true → s ≡ (i, x) ∷ t
    → ys ++ closest_of find s ≡ all → zs ≡ ys ++ x ∷ [] → zs ++ closest_of find t ≡ all
kept {T} {ID} find s t all ys zs x i m is e first before more =
    let none : not (find i).sides.below ≡ true = ap (λ (k : NodeState). not k.sides.below) (sym is) ∙ e in
    let others : List (ID × T) = filter (λ entry. not (find entry.0).sides.below) t in
    let step : closest_of find s ≡ x ∷ closest_of find t = ap (closest_of find) first ∙ ap (λ b. map (λ (entry : ID × T). entry.1) (cond b ((i, x) ∷ others) others)) none in
    ap (λ l. l ++ closest_of find t) more ∙ append_assoc ys (x ∷ []) (closest_of find t) ∙ sym (ap (λ l. ys ++ l) step) ∙ before

-- another is left out
left_out : {T ID : Type 0} (find : ID → NodeState) (s t : List (ID × T)) (all ys zs : List T) (x : T) (i : ID) (m : NodeState) → m ≡ find i → not m.sides.below ≡ false → s ≡ (i, x) ∷ t
    → ys ++ closest_of find s ≡ all → zs ≡ ys → zs ++ closest_of find t ≡ all
left_out {T} {ID} find s t all ys zs x i m is e first before same =
    let some : not (find i).sides.below ≡ false = ap (λ (k : NodeState). not k.sides.below) (sym is) ∙ e in
    let others : List (ID × T) = filter (λ entry. not (find entry.0).sides.below) t in
    let step : closest_of find s ≡ closest_of find t = ap (closest_of find) first ∙ ap (λ b. map (λ (entry : ID × T). entry.1) (cond b ((i, x) ∷ others) others)) some in
    ap (λ l. l ++ closest_of find t) same ∙ sym (ap (λ l. ys ++ l) step) ∙ before

pub loop-id-preserved : goal.loop-id-preserved
loop-id-preserved g c =
    let find = state_at g.ID.PartialEq.eq (g.M.NodeMap.entries c.args.known.now) in
    record {
      closest = elim c.if-not-state_of.branch [
        | then-not-state_of+in_ok-push w ↦ kept find c.loop-id.id-iterator c.next.new.self (closest_of find c.into_iter-id-iterator.result) c.loop-id.closest.items c.if-not-state_of.closest.items
            c.in-Some.node c.in-Some.id c.state_of.result c.state_of.ensures w.if-not-state_of.true c.in-Some.ensures.steps c.loop-id.invariant.closest (ap (λ v. v.items) w.closest-is ∙ w.in_ok-push.ensures.items)
        | else-not-state_of w ↦ left_out find c.loop-id.id-iterator c.next.new.self (closest_of find c.into_iter-id-iterator.result) c.loop-id.closest.items c.if-not-state_of.closest.items
            c.in-Some.node c.in-Some.id c.state_of.result c.state_of.ensures w.if-not-state_of.false c.in-Some.ensures.steps c.loop-id.invariant.closest (ap (λ v. v.items) w.closest-is)
      ];
    }
