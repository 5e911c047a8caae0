use Rattle.std.proofs.Common.{◌∙◌, ◌+◌, Some, ap, arith}
use Rattle.std.proofs.lemmas.Option.{slice_get-get_or}
use Rattle.jj_globs.proofs.BitTables.{closure_byte, closure_loop, closure_fork, closure_jump}
use Rattle.jj_globs.proofs.Transitions.{is_byte_step, leads_inside}
use Rattle.jj_globs.proofs.glob.bit_tables.closure_of.Goals as goal

pub overflow_add-result-in-Fork-3 : goal.overflow_add-result-in-Fork-3
overflow_add-result-in-Fork-3 c =
    let inside = leads_inside c.args.steps.now c.args.state _ _ c.requires.inside (slice_get-get_or c.args.steps.now c.args.state _ c.requires.step) c.in-Fork.is in
    let size = c.requires.size in omega (arith, inside, size)

pub offset_bounds-closures-state-in-Fork-2 : goal.offset_bounds-closures-state-in-Fork-2
offset_bounds-closures-state-in-Fork-2 c =
    let inside = leads_inside c.args.steps.now c.args.state _ _ c.requires.inside (slice_get-get_or c.args.steps.now c.args.state _ c.requires.step) c.in-Fork.is in
    let size = c.requires.size in omega (arith, inside, size)

pub bounds-closures-state-in-Fork-2 : goal.bounds-closures-state-in-Fork-2
bounds-closures-state-in-Fork-2 c =
    let inside = leads_inside c.args.steps.now c.args.state _ _ c.requires.inside (slice_get-get_or c.args.steps.now c.args.state _ c.requires.step) c.in-Fork.is in
    let size = c.requires.size in let room = c.requires.room in omega (arith, inside, size, room)

pub overflow_add-result-in-Jump-2 : goal.overflow_add-result-in-Jump-2
overflow_add-result-in-Jump-2 c =
    let inside = leads_inside c.args.steps.now c.args.state _ _ c.requires.inside (slice_get-get_or c.args.steps.now c.args.state _ c.requires.step) c.in-Jump.is in
    let size = c.requires.size in omega (arith, inside, size)

pub offset_bounds-closures-state-in-Jump : goal.offset_bounds-closures-state-in-Jump
offset_bounds-closures-state-in-Jump c =
    let inside = leads_inside c.args.steps.now c.args.state _ _ c.requires.inside (slice_get-get_or c.args.steps.now c.args.state _ c.requires.step) c.in-Jump.is in
    let size = c.requires.size in omega (arith, inside, size)

pub bounds-closures-state-in-Jump : goal.bounds-closures-state-in-Jump
bounds-closures-state-in-Jump c =
    let inside = leads_inside c.args.steps.now c.args.state _ _ c.requires.inside (slice_get-get_or c.args.steps.now c.args.state _ c.requires.step) c.in-Jump.is in
    let size = c.requires.size in let room = c.requires.room in omega (arith, inside, size, room)

pub returns-in-Star : goal.returns-in-Star
returns-in-Star c =
    let within = c.requires.step in
    let size = c.requires.size in
    closure_loop c.args.steps.now c.args.state _ _ (slice_get-get_or c.args.steps.now c.args.state _ within) c.in-Star.is (omega (arith, within, size))
    (c.requires.later (c.args.state + 1) (omega arith) (omega (arith, within)))

pub returns-in-Fork : goal.returns-in-Fork
returns-in-Fork c =
    let within = c.requires.step in
    let at = slice_get-get_or c.args.steps.now c.args.state _ within in
    let inside = leads_inside c.args.steps.now c.args.state _ _ c.requires.inside at c.in-Fork.is in
    closure_fork c.args.steps.now c.args.state c.in-Fork.further _ _ (at ∙ ap Some c.in-Fork.is)
    (c.requires.later (c.args.state + 1) (omega arith) (omega (arith, within)))
    (c.requires.later (c.args.state + 1 + c.in-Fork.further) (omega arith) (omega (arith, inside)))

pub returns-in-Jump : goal.returns-in-Jump
returns-in-Jump c =
    let at = slice_get-get_or c.args.steps.now c.args.state _ c.requires.step in
    let inside = leads_inside c.args.steps.now c.args.state _ _ c.requires.inside at c.in-Jump.is in
    closure_jump c.args.steps.now c.args.state c.in-Jump.further _ (at ∙ ap Some c.in-Jump.is)
    (c.requires.later (c.args.state + 1 + c.in-Jump.further) (omega arith) (omega (arith, inside)))

pub returns-in_default : goal.returns-in_default
returns-in_default c =
    let within = c.requires.step in
    let size = c.requires.size in
    closure_byte c.args.steps.now c.args.state _ (slice_get-get_or c.args.steps.now c.args.state _ within)
    (is_byte_step _ c.in_default.not-Star c.in_default.not-Everything c.in_default.not-Fork c.in_default.not-Jump) (omega (arith, within, size))
