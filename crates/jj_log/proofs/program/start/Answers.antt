use Rattle.jj_log.proofs.LogFaults.{asked_once}
use Rattle.jj_log.proofs.program.start.Goals as goal

pub returns-in-Some-clause-run : goal.returns-in-Some-clause-run
returns-in-Some-clause-run g c = λ options asked. rw (asked_once c.args.words.now options c.in-Some.options asked c.in-Some.ensures) c.draw.ensures

pub returns-in-None-clause-run : goal.returns-in-None-clause-run
returns-in-None-clause-run g c = λ options asked. absurd (c.in-None.ensures options asked)
