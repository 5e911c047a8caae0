use Rattle.std.proofs.Common.{refl}
use Rattle.jj_matchers.proofs.matchers.mark_walk.open_directory.Goals as goal

pub returns-clause-pushed : goal.returns-clause-pushed
returns-clause-pushed c = (record { dir = c.args.dir; visit = c.args.visit }, refl, refl, c.in_ok-push-2.ensures.items)
