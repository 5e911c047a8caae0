use Rattle.std.proofs.Common.{arith, sym, ◌∙◌}
use Rattle.std.proofs.lemmas.Map.Entries.{sum_by-set_value}
use Rattle.std.proofs.Common.{ap}
use Rattle.jj_dag.specs.NodeStates.{side_count, sides_met, no_longer_pending}
use Rattle.jj_dag.proofs.closest_common.take_queued.Goals as goal

pub returns-in-Some-clause-side_count : goal.returns-in-Some-clause-side_count
returns-in-Some-clause-side_count g c =
    let entries = g.M.NodeMap.entries c.args.known.now in
    let state = c.in-Some.state in
    let sum = sum_by-set_value side_count (g.ID.PartialEq.eq c.args.id.now) entries state (no_longer_pending state) (sym c.get.ensures ∙ c.in-Some.is) in
    omega (arith, sum, ap sides_met c.update.ensures.entries)
