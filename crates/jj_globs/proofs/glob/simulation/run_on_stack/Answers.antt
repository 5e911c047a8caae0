use Rattle.jj_globs.specs.GlobNfa.{accepts_from}
use Rattle.jj_globs.proofs.Transitions.{same_bool}
use Rattle.jj_globs.proofs.StateTests.{answers_solve}
use Rattle.jj_globs.proofs.glob.simulation.run_on_stack.Goals as goal

pub returns : goal.returns
returns g c =
    same_bool c.run.result (accepts_from c.args.options c.args.below c.args.steps.now 0 c.args.bytes.now)
    (c.run.ensures (accepts_from c.args.options c.args.below c.args.steps.now) (answers_solve c.args.options c.args.below c.args.steps.now))
