use Rattle.jj_walks.proofs.KeptHistories.{nothing-pending, nothing-kept}
use Rattle.jj_walks.proofs.pending_nodes.PendingNodes.is_empty.Goals as goal

pub returns : goal.returns
returns g c = let a = c.is_empty.ensures in λ h k. (λ e. nothing-pending g.met.ID.Eq.laws h c.args.self.now k (a.0 e), λ e. a.1 (nothing-kept g.met.ID.Eq.laws h c.args.self.now k e))
