use Rattle.std.proofs.Common.{subst}
use Rattle.jj_program.specs.GraphCommand.{GraphState, graph_step}
use Rattle.jj_program.specs.GraphViews.{graph_state_of}
use Rattle.jj_program.specs.Lines.{Agrees, texts_of}
use Rattle.jj_program.proofs.Steps.{leads_to}
use Rattle.jj_program.proofs.graph_command.GraphReadingReading.take.Goals as goal

pub returns : goal.returns
returns c = λ state is.
    let fields = texts_of c.args.fields.now in
    let new = graph_state_of c.perform.new.self in
    leads_to c.perform.result new (graph_step state fields) (subst (λ (s : GraphState). Agrees c.perform.result (λ _. new) (graph_step s fields)) is c.perform.ensures)
