use Rattle.std.proofs.Common.{◌≡◌, ◌∙◌, ◌<◌, All, List, ℕ, ap, length, map, subst, sym}
use Rattle.std.proofs.lemmas.Result.{IfOk-weaker}
use Rattle.jj_dag.specs.ArrayGraphs.{graph_of as array_graph}
use Rattle.jj_dag.specs.Graph.{Graph, IsGreatestTopologicalOrder}
use Rattle.jj_program.specs.ListedGraphs.{Represents, named_by, numbered_by}
use Rattle.jj_program.specs.Parts.{id_of}
use Rattle.jj_program.proofs.ListedGraphs.{order_shown, order_within}
use Rattle.jj_program.proofs.listed_graph.ListedGraph.greatest_order.Goals as goal

pub ids_of-requires : goal.ids_of-requires
ids_of-requires c =
    let listed = c.args.self.now in
    let starts = c.in_ok-starts.starts.items in
    let order = c.in-Ok.order.items in
    let of_graph : IsGreatestTopologicalOrder (numbered_by listed) c.deref.result.now order = subst (λ (lists : List (List ℕ)). IsGreatestTopologicalOrder (array_graph lists) c.deref.result.now order) c.graph-plain.ensures c.in-Ok.ensures.order in
    let best = subst (λ (l : List ℕ). IsGreatestTopologicalOrder (numbered_by listed) l order) c.deref.ensures.value of_graph in
    subst (All (λ number. number < length (named_by listed))) (sym c.deref-in-Ok.ensures.value) (order_within listed starts order c.args.ids.now c.in_ok-starts.ensures c.requires.named best)

pub returns-in-Ok : goal.returns-in-Ok
returns-in-Ok c =
    let listed = c.args.self.now in
    let starts = c.in_ok-starts.starts.items in
    let order = c.in-Ok.order.items in
    let name = id_of (named_by listed) in
    let of_graph : IsGreatestTopologicalOrder (numbered_by listed) c.deref.result.now order = subst (λ (lists : List (List ℕ)). IsGreatestTopologicalOrder (array_graph lists) c.deref.result.now order) c.graph-plain.ensures c.in-Ok.ensures.order in
    let best = subst (λ (l : List ℕ). IsGreatestTopologicalOrder (numbered_by listed) l order) c.deref.ensures.value of_graph in
    IfOk-weaker c.ids_of.result (λ ids. ids.items ≡ map name c.deref-in-Ok.result.now)
    (λ ids. (shown : Graph) → Represents listed shown → IsGreatestTopologicalOrder shown c.args.ids.now ids.items)
    (λ ids named shown is_shown.
    subst (λ (l : List ℕ). IsGreatestTopologicalOrder shown c.args.ids.now l) (sym (named ∙ ap (map name) c.deref-in-Ok.ensures.value))
    (order_shown listed shown is_shown starts order c.args.ids.now c.in_ok-starts.ensures c.requires.named best))
    c.ids_of.ensures
