use Rattle.std.proofs.Common.{rules, ◌≡◌, ◌∙◌, ◌∷◌, ℕ, List, ap, cond, true, sym, Err, Ok, ◌==◌, Some}
use Rattle.std.specs.Prelude.{is_some, not}
use Rattle.jj_dag.proofs.Plain.{un_not}
use Rattle.jj_program.specs.declared.fault.LineFault.TheVariants.{RepeatedNode}
use Rattle.jj_program.specs.GraphViews.{listed_by, graph_state_of}
use Rattle.jj_program.specs.GraphCommand.{GraphState, with_node}
use Rattle.jj_program.proofs.graph_command.GraphReading.list.Goals as goal

pub returns : goal.returns
returns c =
    let state = graph_state_of c.args.self.now in
    let id : ℕ = c.in-Some.id.now in
    let neighbors : List ℕ = c.in-Some.neighbors.now in
    let ids : c.args.self.now.ids.firsts.items ≡ id ∷ neighbors = search (rules, c.in-Some.ensures.cases, c.deref.ensures.value) in
    let more : GraphState = record { listed = λ other. cond (id == other) (Some neighbors) (state.listed other); requests = state.requests } in
    let new : true ≡ not (is_some (listed_by c.args.self.now.edges id)) = sym c.if-not-is_first.false ∙ c.in_ok-is_first.ensures.first in
    ap (with_node state) ids
    ∙ ap (λ t. cond t (Err RepeatedNode) (Ok (more))) (un_not (is_some (listed_by c.args.self.now.edges id)) new)
    ∙ ap (λ listed. Ok (record { listed = listed; requests = state.requests })) (sym (c.in_ok-is_first.ensures.listed c.if-not-is_first.false))
