use Rattle.std.proofs.Common.{rules, ◌≡◌, ◌∙◌, [], ap, sym, subst, ⊎_elim}
use Rattle.std.specs.Str.{bytes_eq}
use Rattle.jj_walks.specs.PendingNodes.{Keeps}
use Rattle.jj_walks.specs.declared.grouped.GroupedGraphError.TheVariants.{Memory}
use Rattle.jj_walks.proofs.Callers.{vec_begun, vec_drained}
use Rattle.jj_store_walks.proofs.LogErrors.{only_memory}
use Rattle.jj_store_walks.proofs.LogOrders.{grouped_of}
use Rattle.jj_store_walks.proofs.grouped.group.Goals as goal

pub returns-in-Ok : goal.returns-in-Ok
returns-in-Ok c =
    let graph = c.stream.ensures.graph in
    grouped_of (λ x i h. search (rules, h.says.met, h.shows))
    (record {
      has_ended = c.stream.ensures.has_ended;
      same_as_id = ap (λ s. s.as_id) graph ∙ c.new-graph.ensures.as_id;
      same_input = ap (λ s. s.input) graph ∙ c.new-graph.ensures.input;
      keeps = subst (λ s. Keeps bytes_eq [] s.pending) (sym graph) c.new-graph.ensures.pending;
    })
    c.args.commits.items c.in_ok-items.items.items c.in_ok-items.ensures (λ xs run. vec_drained c.in_ok-items.items xs (c.into_iter.result, (search rules, search rules), run)) c.requires.child_first c.in-Ok.order.items
    c.in-Ok.ensures.nodes

pub prove-unreachable-requires : goal.prove-unreachable-requires
prove-unreachable-requires c =
    let graph = c.stream.ensures.graph in
    let is : c.in-Err.error ≡ Memory = ⊎_elim (λ memory. memory) (only_memory (λ x i h. search (rules, h.says.met, h.shows))
    (record {
      has_ended = c.stream.ensures.has_ended;
      same_as_id = ap (λ s. s.as_id) graph ∙ c.new-graph.ensures.as_id;
      same_input = ap (λ s. s.input) graph ∙ c.new-graph.ensures.input;
      keeps = subst (λ s. Keeps bytes_eq [] s.pending) (sym graph) c.new-graph.ensures.pending;
    })
    c.args.commits.items c.in_ok-items.items.items c.in_ok-items.ensures (λ xs run. vec_drained c.in_ok-items.items xs (c.into_iter.result, (search rules, search rules), run))
    (λ xs t run. vec_begun c.in_ok-items.items xs (c.into_iter.result, (search rules, search rules), (t, run))) c.requires.child_first c.in-Err.error) c.in-Err.ensures.error in
    first_of (search (rules, is), search rules)
