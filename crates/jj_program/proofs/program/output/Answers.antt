use Rattle.jj_program.specs.declared.program.Command.TheVariants.{Walk, Merge, Graph, Hash}
use Rattle.jj_program.specs.WalkCommand.{walk_request}
use Rattle.jj_program.specs.MergeCommand.{merge_requests}
use Rattle.jj_program.specs.GraphCommand.{graph_state}
use Rattle.jj_program.specs.HashCommand.{hash_output}
use Rattle.jj_program.proofs.Inputs.{known_answer, gives_not_utf8}
use Rattle.jj_program.proofs.program.output.Goals as goal

pub returns-in_default-clause-fault : goal.returns-in_default-clause-fault
returns-in_default-clause-fault c = gives_not_utf8 c.args.command c.args.input.now c.in_default.ensures.cases.0

pub returns-in-Walk : goal.returns-in-Walk
returns-in-Walk c =
    let known = known_answer c.args.command Walk c.args.input.now c.in-Ok.text.now c.walk_output.result c.in-Walk.is c.in-Ok.ensures.cases (λ output. output.items) walk_request (λ _ e. e) c.walk_output.ensures.done c.walk_output.ensures.fault in
    record { done = known.0; fault = known.1 }

pub returns-in-Merge : goal.returns-in-Merge
returns-in-Merge c =
    let known = known_answer c.args.command Merge c.args.input.now c.in-Ok.text.now c.merge_output.result c.in-Merge.is c.in-Ok.ensures.cases (λ output. output.items) merge_requests (λ _ e. e) c.merge_output.ensures.done c.merge_output.ensures.fault in
    record { done = known.0; fault = known.1 }

pub returns-in-Graph : goal.returns-in-Graph
returns-in-Graph c =
    let known = known_answer c.args.command Graph c.args.input.now c.in-Ok.text.now c.graph_output.result c.in-Graph.is c.in-Ok.ensures.cases (λ output. output.items) graph_state (λ _ e. e) c.graph_output.ensures.done c.graph_output.ensures.fault in
    record { done = known.0; fault = known.1 }

pub returns-in-Hash : goal.returns-in-Hash
returns-in-Hash c =
    let known = known_answer c.args.command Hash c.args.input.now c.in-Ok.text.now c.hash_output.result c.in-Hash.is c.in-Ok.ensures.cases (λ output. output.items) hash_output (λ _ e. e) c.hash_output.ensures.done c.hash_output.ensures.fault in
    record { done = known.0; fault = known.1 }
