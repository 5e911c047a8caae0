use Rattle.std.proofs.Common.{rules, ◌≡◌, Ok, map, eqb, sym, subst, ◌∙◌}
use Rattle.std.proofs.lemmas.Result.{IfOk-weaker}
use Rattle.jj_walks.specs.Reversed.{HasEdgesById, reversed_graph, edge_lists}
use Rattle.jj_walks_tests.specs.Branches.{ImplementsCommits}
use Rattle.jj_walks_tests.proofs.Children.{graph_shown, have_children, id_of, listed_items}
use Rattle.jj_walks_tests.proofs.branches.children_of.Goals as goal

pub returns : goal.returns
returns c =
    let commits = c.args.commits.now in
    let shown = c.in_ok-input.ensures in
    IfOk-weaker c.reverse_graph.result _ _ (λ nodes (items, drains, holds).
    let listed = listed_items c.in_ok-input.input.items c.into_iter.result (map (λ n. Ok n) items) c.into_iter.ensures.rest (c.into_iter.ensures.len ∙ c.in_ok-input.input.ok.0) drains in
    let graph = graph_shown commits shown.0 items (subst (λ l. ImplementsCommits commits shown.0 l) (sym listed) shown.2) in
    let by = holds id_of (λ x r h. search (rules, h.says.met, h.shows)) in
    have_children (λ a b. b ≡ a) (λ a b h. h) commits c.requires shown.0 shown.1 nodes.items
    (subst (λ g. HasEdgesById (λ a b. b ≡ a) id_of (reversed_graph eqb id_of g) (edge_lists nodes.items)) graph by)) c.reverse_graph.ensures.reversed
