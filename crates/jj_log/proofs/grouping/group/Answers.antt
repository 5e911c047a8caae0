use Rattle.std.proofs.Common.{rules, ◌≡◌, ◌∙◌, [], ap, eqb, sym, subst, ⊎_elim}
use Rattle.jj_walks.specs.PendingNodes.{Keeps}
use Rattle.jj_walks.specs.declared.grouped.GroupedGraphError.TheVariants.{Memory}
use Rattle.jj_log.proofs.GroupedLogs.{are_whole}
use Rattle.jj_log.proofs.GroupedRuns.{log_of_run, only_memory}
use Rattle.jj_log.proofs.Walks.{vec_begun, vec_drained}
use Rattle.jj_log.proofs.grouping.group.Goals as goal

pub returns-in-Ok : goal.returns-in-Ok
returns-in-Ok c =
    let graph = c.stream.ensures.graph in
    let (nodes, are, log) = c.requires.child_first in
    log_of_run (λ x i h. search (rules, h.says.met, h.shows))
    (record {
      has_ended = c.stream.ensures.has_ended;
      same_as_id = ap (λ s. s.as_id) graph ∙ c.new-graph.ensures.as_id;
      same_input = ap (λ s. s.input) graph ∙ c.new-graph.ensures.input;
      keeps = subst (λ s. Keeps eqb [] s.pending) (sym graph) c.new-graph.ensures.pending;
    })
    nodes c.args.items.items are (λ xs run. vec_drained c.args.items xs (c.into_iter.result, (search rules, search rules), run)) (are_whole c.args.commits.now nodes log) c.args.commits.now log c.in-Ok.order.items
    c.in-Ok.ensures.nodes

pub prove-unreachable-requires : goal.prove-unreachable-requires
prove-unreachable-requires c =
    let graph = c.stream.ensures.graph in
    let (nodes, are, log) = c.requires.child_first in
    let is : c.in-Err.error ≡ Memory = ⊎_elim (λ memory. memory) (only_memory (λ x i h. search (rules, h.says.met, h.shows))
    (record {
      has_ended = c.stream.ensures.has_ended;
      same_as_id = ap (λ s. s.as_id) graph ∙ c.new-graph.ensures.as_id;
      same_input = ap (λ s. s.input) graph ∙ c.new-graph.ensures.input;
      keeps = subst (λ s. Keeps eqb [] s.pending) (sym graph) c.new-graph.ensures.pending;
    })
    nodes c.args.items.items are (λ xs run. vec_drained c.args.items xs (c.into_iter.result, (search rules, search rules), run)) (are_whole c.args.commits.now nodes log)
    (λ xs t run. vec_begun c.args.items xs (c.into_iter.result, (search rules, search rules), (t, run))) c.in-Err.error) c.in-Err.ensures.error in
    first_of (search (rules, is), search rules)
