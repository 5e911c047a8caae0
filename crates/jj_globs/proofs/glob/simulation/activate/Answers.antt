use Rattle.std.proofs.Common.{◌∙◌, ◌+◌, ap, false, None, Some}
use Rattle.std.proofs.lemmas.Option.{slice_get-get_or}
use Rattle.jj_globs.specs.GlobNfa.{AnyAhead}
use Rattle.jj_globs.proofs.Transitions.{follows_equal, follows_none, put_next, put_now}
use Rattle.jj_globs.proofs.glob.simulation.activate.Goals as goal

pub returns-in-Some-None-clause-same : goal.returns-in-Some-None-clause-same
returns-in-Some-None-clause-same g c = λ below P solves.
    let state = c.args.state in
    let left = c.args.left.now in
    let at = slice_get-get_or c.args.steps.now state _ c.if-state-steps.false in
    let refused = solves.at_step state _ at left ∙ c.in-Some-None.ensures.same P state
    ∙ ap (λ t. elim t [ None ↦ false | Some rest ↦ P (state + 1) rest.now ]) c.in-Some-None.field-0-is in
    follows_none (AnyAhead P c.args.now.now c.args.next.now left) (P state left) refused

pub returns-in-Some-Some-clause-same : goal.returns-in-Some-Some-clause-same
returns-in-Some-Some-clause-same g c = λ below P solves.
    let state = c.args.state in
    let left = c.args.left.now in
    let rest = c.in-Some-Some.field-0-0.now in
    let split = rw c.in-Some-Some.field-0-is at c.in-Some-Some.ensures.rest in
    let at = slice_get-get_or c.args.steps.now state _ c.if-state-steps.false in
    let taken = solves.at_step state _ at left ∙ c.in-Some-Some.ensures.same P state
    ∙ ap (λ t. elim t [ None ↦ false | Some rest ↦ P (state + 1) rest.now ]) c.in-Some-Some.field-0-is in
    follows_equal (AnyAhead P c.args.now.now c.args.next.now left) (AnyAhead P c.args.now.now c.insert-in-Some-Some.new.self left)
    (P (state + 1) rest) (P state left) taken
    (put_next P c.args.now.now c.args.next.now c.insert-in-Some-Some.new.self left (state + 1) split.0 rest split.1 c.insert-in-Some-Some.ensures.live)

pub returns-then-state-steps-clause-same : goal.returns-then-state-steps-clause-same
returns-then-state-steps-clause-same g c = λ below P solves.
    put_now P c.args.now.now c.insert.new.self c.args.next.now c.args.left.now c.args.state c.insert.ensures.live

pub returns-in-None-clause-same : goal.returns-in-None-clause-same
returns-in-None-clause-same g c = λ below P solves.
    put_now P c.args.now.now c.insert-in-None.new.self c.args.next.now c.args.left.now c.args.state c.insert-in-None.ensures.live
