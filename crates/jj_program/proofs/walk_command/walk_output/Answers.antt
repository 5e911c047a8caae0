use Rattle.std.proofs.Common.{◌≡◌, ◌∙◌, [], Ok, Result, map, ap, arith, length, refl, sym, subst}
use Rattle.std.specs.List.{AllZip}
use Rattle.std.proofs.lemmas.Result.{err_from_is_err_and}
use Rattle.jj_paths.specs.Names.{path_of}
use Rattle.jj_program.specs.declared.fault.Fault.{Fault}
use Rattle.jj_program.specs.Lines.{after_lines, lines_of, result_and_then}
use Rattle.jj_program.specs.WalkCommand.{IsWalkOutput, WalkRequest, WalkState, only_set, walk_request, walk_step}
use Rattle.jj_program.specs.SetCode.{AreAlike, sets_of}
use Rattle.jj_program.proofs.AlikeSets.{same_height}
use Rattle.jj_program.proofs.SetCode.{only_item}
use Rattle.jj_program.proofs.Steps.{IsFaultOf-first}
use Rattle.jj_program.proofs.WalkSteps.{leaves_many}
use Rattle.jj_program.proofs.walk_command.walk_output.Goals as goal

-- the initial state
abbrev begun : WalkState
begun = record { marks = []; stack = [] }

pub returns-in-1-clause-done : goal.returns-in-1-clause-done
returns-in-1-clause-done c =
    let reading = c.take_lines.new.reading in
    let own = sets_of reading.sets.ops.items in
    let (state, read, (marks, alike)) = c.in_ok-take_lines.ensures begun (ap (map path_of) c.new.ensures.items, subst (λ sets. AllZip AreAlike sets []) (sym c.new-2.ensures) tt) in
    let (set, only) = only_item state.stack (sym (same_height own state.stack alike) ∙ sym c.height.ensures ∙ c.in-1.is) in
    let request : WalkRequest = record { marks = state.marks; set = set } in
    let requested : walk_request c.args.text.now ≡ Ok request = ap (λ r. result_and_then r (λ state. only_set state.marks state.stack)) read ∙ ap (only_set state.marks) only in
    (request, requested, subst (λ l. IsWalkOutput l set c.in_ok-found_lines-in-1.field-0.items) marks (c.in_ok-found_lines-in-1.ensures set (subst (AllZip AreAlike own) only alike)))

pub returns-in_err-take_lines-clause-fault : goal.returns-in_err-take_lines-clause-fault
returns-in_err-take_lines-clause-fault c =
    let p = err_from_is_err_and c.from_residual.result c.from_residual.ensures.1 in
    rw (p.1, p.2) (IsFaultOf-first c.in_err-take_lines.field-0.0 (after_lines walk_step 1 begun (lines_of c.args.text.now)) (λ state. only_set state.marks state.stack) (walk_request c.args.text.now) refl (c.in_err-take_lines.ensures begun (ap (map path_of) c.new.ensures.items, subst (λ sets. AllZip AreAlike sets []) (sym c.new-2.ensures) tt)))

pub returns-clause-fault : goal.returns-clause-fault
returns-clause-fault c =
    let own = sets_of c.take_lines.new.reading.sets.ops.items in
    let (state, read, (marks, alike)) = c.in_ok-take_lines.ensures begun (ap (map path_of) c.new.ensures.items, subst (λ sets. AllZip AreAlike sets []) (sym c.new-2.ensures) tt) in
    let tall : c.height.result ≡ length state.stack = c.height.ensures ∙ same_height own state.stack alike in
    ap (λ (r : Result WalkState Fault). result_and_then r (λ state. only_set state.marks state.stack)) read ∙ leaves_many state.marks state.stack c.height.result tall (λ alone. omega arith)
