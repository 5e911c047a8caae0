use Rattle.std.proofs.Common.{subst, sym}
use Rattle.jj_store_walks.specs.Histories.{AreHeadCommits}
use Rattle.jj_history.proofs.ancestry.heads.Goals as goal

pub returns-clause-heads : goal.returns-clause-heads
returns-clause-heads g c = subst (AreHeadCommits (g.B.Backend.objects c.args.store.now) c.args.ids.items) (sym c.in_ok-heads.ensures) c.in_ok-found.ensures.heads
