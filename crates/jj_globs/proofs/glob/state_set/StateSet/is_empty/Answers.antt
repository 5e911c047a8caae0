use Rattle.std.proofs.Common.{refl}
use Rattle.jj_globs.proofs.SummaryBits.{none_held}
use Rattle.jj_globs.proofs.glob.state_set.StateSet.is_empty.Goals as goal

pub returns-in-None : goal.returns-in-None
returns-in-None g c = λ e. rw (← c.self.view_is) (none_held c.self.inside.words c.self.inside.summary c.self.invariant (c.in-None.ensures.none refl))
