use Rattle.std.proofs.Common.{◌<◌, sym, subst}
use Rattle.jj_log.specs.Edges.{AreTargets}
use Rattle.jj_log.proofs.NearTargets.{targets_at_same}
use Rattle.jj_log.proofs.targets.add_targets.Goals as goal

pub returns-clause-own : goal.returns-clause-own
returns-clause-own c =
    λ less. subst (AreTargets c.args.commits.now c.args.number) (sym (targets_at_same c.args.known.now.items c.args.number c.in_ok-targets.targets (subst (λ k. c.args.number < k) (sym c.requires.lists) less))) c.in_ok-targets.ensures
