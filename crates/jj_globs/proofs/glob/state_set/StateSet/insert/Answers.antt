use Rattle.jj_globs.proofs.SummaryBits.{summary_put}
use Rattle.jj_globs.proofs.glob.state_set.StateSet.insert.Goals as goal

pub invariant_of-self : goal.invariant_of-self
invariant_of-self g c =
    summary_put c.self.inside.words c.insert.new.words c.self.inside.summary c.insert-2.new.words c.args.index c.self.invariant
    c.insert.ensures.live c.insert-2.ensures.live c.insert.ensures.len c.insert-2.ensures.len
