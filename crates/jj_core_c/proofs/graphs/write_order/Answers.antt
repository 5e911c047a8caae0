use Rattle.std.proofs.Common.{◌<◌, ◌∙◌, ℕ, List, [], get_or, length, refl, rules, subst, ◌≡◌, false, inr, sym, true≢false}
use Rattle.std.specs.Prelude.{All}
use Rattle.jj_dag.specs.Graph.{IsGreatestTopologicalOrder, StrictlyReaches}
use Rattle.jj_dag.proofs.Errors.{node_says}
use Rattle.jj_core_c.specs.Buffers.{Writes}
use Rattle.jj_core_c.proofs.graphs.write_order.Goals as goal

pub returns-in-Node : goal.returns-in-Node
returns-in-Node c =
    let node = c.in-Node.field-0 in
    let k = node_says _ c.in-Err.error node c.in-Node.is c.in-Err.ensures.cycle in
    ((node, subst (λ (lists : List (List ℕ)). StrictlyReaches (λ n. get_or lists n []) node node) (c.graph-plain.ensures ∙ c.in_ok-graph.ensures.0) k.1), refl)

pub returns-then-order-len : goal.returns-then-order-len
returns-then-order-len c =
    let found = c.in-Ok.found.items in
    let less : length c.args.order.now < length found = search rules in
    ((found, subst (λ (lists : List (List ℕ)). IsGreatestTopologicalOrder (λ n. get_or lists n []) c.args.nodes.now found) (c.graph-plain.ensures ∙ c.in_ok-graph.ensures.0) c.in-Ok.ensures.order, less), refl)

pub returns : goal.returns
returns c =
    let valid = c.in_ok-graph.ensures in
    let found = c.in-Ok.found.items in
    let starts : All (λ node. node < length c.args.ends.now) c.args.nodes.now = search rules in
    let order = subst (λ (lists : List (List ℕ)). IsGreatestTopologicalOrder (λ n. get_or lists n []) c.args.nodes.now found) (c.graph-plain.ensures ∙ valid.0) c.in-Ok.ensures.order in
    let written = subst (λ items. Writes c.args.order.now c.write_indices.new.buffer items c.write_indices.result) c.deref.ensures.value c.write_indices.ensures in
    (((valid.2, valid.1), starts), (found, order, written))

pub returns-then-not-are_nodes : goal.returns-then-not-are_nodes
returns-then-not-are_nodes c =
    let not_below : c.are_nodes.result ≡ false = search rules in
    (inr (λ below. true≢false (sym (c.are_nodes.ensures.1 below) ∙ not_below)), refl)
