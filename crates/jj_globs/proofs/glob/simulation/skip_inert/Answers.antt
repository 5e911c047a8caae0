use Rattle.std.proofs.Common.{◌+◌, sym, subst}
use Rattle.std.specs.Prelude.{IsTrue}
use Rattle.jj_globs.proofs.Transitions.{any_same, alone, passed_over, put_back, started}
use Rattle.jj_globs.proofs.glob.simulation.skip_inert.Goals as goal

pub returns-in-Some-byte_after_any-clause-same : goal.returns-in-Some-byte_after_any-clause-same
returns-in-Some-byte_after_any-clause-same g c = λ below P solves.
    let state = c.in-Some.state in
    let taken = c.in-Some.ensures.taken in
    let none = c.is_empty-is_alone.ensures c.if-is_alone.true in
    let after = started P c.pop_first.new.self c.insert.new.self c.skip_to_byte.result.now state none c.insert.ensures.live in
    let before = alone P c.args.now.now c.pop_first.new.self c.args.left.now state taken.0 taken.1 none in
    let same = passed_over c.args.options P state c.in-Some-byte_after_any.own c.args.left.now c.skip_to_byte.result.now
    (solves.at_step state _ c.in-Some-byte_after_any.ensures.0) (solves.at_step (state + 1) _ c.in-Some-byte_after_any.ensures.1) c.skip_to_byte.ensures.same in
    ((λ a. before.1 (subst IsTrue (sym same) (after.0 a))), (λ a. after.1 (subst IsTrue same (before.0 a))))

pub returns-else-is_alone-clause-same : goal.returns-else-is_alone-clause-same
returns-else-is_alone-clause-same g c = λ below P solves.
    any_same P c.args.now.now c.insert.new.self c.args.left.now
    (put_back c.args.now.now c.pop_first.new.self c.insert.new.self c.in-Some.state c.in-Some.ensures.taken.0 c.in-Some.ensures.taken.1 c.insert.ensures.live)
