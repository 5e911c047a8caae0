use Rattle.std.proofs.Common.{◌≡◌, ap, ◌∙◌, sym, arith}
use Rattle.jj_dag.specs.NodeStates.{state_at, state_with, becomes_pending, side_count}
use Rattle.jj_dag.proofs.StateSums.{sides_fit, sides_more, sides_put, sides_start}
use Rattle.jj_dag.proofs.closest_common.relax.Goals as goal

pub returns-in_ok-push-clause-balance : goal.returns-in_ok-push-clause-balance
returns-in_ok-push-clause-balance g c =
    let state = state_at g.ID.PartialEq.eq (g.M.NodeMap.entries c.args.known.now) c.args.id in
    let put = sides_put g.ID.PartialEq.eq (g.M.NodeMap.entries c.args.known.now) (g.M.NodeMap.entries c.insert.new.self) c.args.id c.with_sides.result c.in_ok-insert.field-0 c.in_ok-insert.ensures.old c.in_ok-insert.ensures.entries in
    let new : side_count c.with_sides.result ≡ side_count (state_with state c.args.sides) = ap side_count (c.with_sides.ensures ∙ ap (λ m. state_with m c.args.sides) c.state_of-state.ensures) in
    let more = sides_start state c.args.sides (ap (λ m. becomes_pending m c.args.sides) (sym c.state_of-state.ensures) ∙ sym c.becomes_pending.ensures ∙ c.if-becomes_pending.true) in
    omega (arith, put, new, more, c.in_ok-push.ensures.len)

pub returns-in_ok-push-clause-small : goal.returns-in_ok-push-clause-small
returns-in_ok-push-clause-small g c = sides_fit (g.M.NodeMap.entries c.insert.new.self) (omega (arith, c.len-count.ensures.small, c.len-count.ensures.len))

pub returns-else-becomes_pending-clause-balance : goal.returns-else-becomes_pending-clause-balance
returns-else-becomes_pending-clause-balance g c =
    let state = state_at g.ID.PartialEq.eq (g.M.NodeMap.entries c.args.known.now) c.args.id in
    let put = sides_put g.ID.PartialEq.eq (g.M.NodeMap.entries c.args.known.now) (g.M.NodeMap.entries c.insert.new.self) c.args.id c.with_sides.result c.in_ok-insert.field-0 c.in_ok-insert.ensures.old c.in_ok-insert.ensures.entries in
    let new : side_count c.with_sides.result ≡ side_count (state_with state c.args.sides) = ap side_count (c.with_sides.ensures ∙ ap (λ m. state_with m c.args.sides) c.state_of-state.ensures) in
    let more = sides_more state c.args.sides in
    omega (arith, put, new, more)

pub returns-else-becomes_pending-clause-small : goal.returns-else-becomes_pending-clause-small
returns-else-becomes_pending-clause-small g c = sides_fit (g.M.NodeMap.entries c.insert.new.self) (omega (arith, c.len-count.ensures.small, c.len-count.ensures.len))
