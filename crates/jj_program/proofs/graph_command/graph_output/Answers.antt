use Rattle.std.proofs.Common.{◌≡◌, ◌∙◌, ◌++◌, ◌<◌, ℕ, List, [], map, take, length, ap, subst, sym, refl, arith, inl, inr, None, Ok, eqb-true}
use Rattle.std.specs.Prelude.{All, codes, string_bytes}
use Rattle.std.specs.List.{Contains}
use Rattle.std.proofs.lemmas.Result.{err_from_is_err_and}
use Rattle.std.proofs.lemmas.List.Elements.{All-contains, All-weaker}
use Rattle.std.proofs.lemmas.List.{nil_from_length, take_all}
use Rattle.jj_program.specs.Lines.{after_lines, line_text, lines_of, AreLinesOf}
use Rattle.jj_program.specs.ListedGraphs.{named_by}
use Rattle.jj_program.specs.GraphCommand.{GraphState, IsGraphLine, graph_of, graph_step}
use Rattle.jj_program.specs.GraphViews.{ids_of, graph_request_of, graph_state_of}
use Rattle.jj_program.proofs.ListedGraphs.{cycle_numbered, cycle_shown}
use Rattle.jj_program.proofs.Requests.{AreLinesOf-more}
use Rattle.jj_program.proofs.graph_command.graph_output.Goals as goal
use Rattle.jj_program.proofs.graph_command.graph_output.Goals.{then-cyclic+in_ok-push_str, else-cyclic+in_ok-push_result}

pub loop-request-preserved : goal.loop-request-preserved
loop-request-preserved c = λ shown is_shown.
    let graph = c.in_ok-graph.graph in
    let items = c.deref-request-items.result.now in
    let i = c.loop-request.request-index in
    let within : i < length items = omega arith in
    let old = string_bytes c.loop-request.output in
    let more = λ (grown answer : List ℕ) (is : IsGraphLine shown (graph_request_of c.request-item.result) answer) (written : grown ≡ old ++ answer).
    AreLinesOf-more (IsGraphLine shown) graph_request_of items i c.request-item.result old grown answer within c.request-item.is (c.loop-request.invariant shown is_shown) is written in
    elim c.if-cyclic.branch [
      | then-cyclic+in_ok-push_str w ↦
          more (string_bytes c.if-cyclic.output) (line_text (codes "cycle") []) (inl (cycle_shown graph shown is_shown (rw w.if-cyclic.true at c.has_cycle-cyclic.ensures), refl)) (ap string_bytes w.output-is ∙ w.in_ok-push_str.ensures.bytes)
      | else-cyclic+in_ok-push_result w ↦
          let (answer, is, written) = w.in_ok-push_result.ensures in
          more (string_bytes c.if-cyclic.output) answer (inr ((λ cycle. (rw w.if-cyclic.false at c.has_cycle-cyclic.ensures) (cycle_numbered graph shown is_shown cycle)), is shown is_shown)) (ap string_bytes w.output-is ∙ written)
    ]

pub push_result-requires-clause-named : goal.push_result-requires-clause-named
push_result-requires-clause-named c =
    let requested = c.in_ok-requested.requested.items in
    let ids = named_by c.in_ok-graph.graph in
    let request = c.request-item.result in
    let requests = c.deref-request-items.result.now in
    let same : c.deref.result.now ≡ requests = c.deref.ensures.value ∙ sym c.deref-request-items.ensures.value in
    let here : Contains requests request = (c.loop-request.request-index, omega arith, sym c.request-item.is) in
    let held : All (Contains requested) (ids_of (graph_request_of request)) =
    All-contains (λ other. All (Contains requested) (ids_of (graph_request_of other))) requests request (subst (All (λ other. All (Contains requested) (ids_of (graph_request_of other)))) same c.in_ok-requested.ensures) here in
    let numbered : All (Contains ids) requested = subst (All (Contains ids)) c.deref-2.ensures.value c.in_ok-graph.ensures.requested in
    All-weaker (Contains requested) (Contains ids) (λ id among. All-contains (Contains ids) requested id numbered among) (ids_of (graph_request_of request)) held

pub returns-in_err-take_lines-clause-fault : goal.returns-in_err-take_lines-clause-fault
returns-in_err-take_lines-clause-fault c =
    let p = err_from_is_err_and c.from_residual.result c.from_residual.ensures.1 in
    let start : graph_state_of (record { edges = c.new.result; requests = c.new-2.result; ids = c.new-3.result }) ≡ record { listed = λ id. None; requests = [] } =
    λ i. record { listed = c.new.ensures i; requests = map graph_request_of (c.new-2.ensures.items i) } in
    rw (p.1, p.2) (c.in_err-take_lines.ensures (record { listed = λ id. None; requests = [] }) start)

pub returns-clause-done : goal.returns-clause-done
returns-clause-done c =
    let reading = c.take_lines.new.reading in
    let state : GraphState = graph_state_of reading in
    let start : graph_state_of (record { edges = c.new.result; requests = c.new-2.result; ids = c.new-3.result }) ≡ record { listed = λ id. None; requests = [] } =
    λ i. record { listed = c.new.ensures i; requests = map graph_request_of (c.new-2.ensures.items i) } in
    let (reached, leads, is_reached) = c.in_ok-take_lines.ensures (record { listed = λ id. None; requests = [] }) start in
    let read : after_lines graph_step 1 (record { listed = λ id. None; requests = [] }) (lines_of c.args.text.now) ≡ Ok state = leads ∙ ap Ok (sym is_reached) in
    let items = c.deref-request-items.result.now in
    let whole : take c.loop-request.request-index items ≡ reading.requests.items = take_all c.loop-request.request-index items (omega arith) ∙ c.deref-request-items.ensures.value in
    let answered : AreLinesOf (IsGraphLine (graph_of state.listed)) state.requests (string_bytes c.loop-request.output) =
    subst (λ requests. AreLinesOf (IsGraphLine (graph_of state.listed)) (map graph_request_of requests) (string_bytes c.loop-request.output)) whole
    (c.loop-request.invariant (graph_of state.listed) c.in_ok-graph.ensures.graph) in
    (state, read, subst (AreLinesOf (IsGraphLine (graph_of state.listed)) state.requests) (sym (ap (λ v. v.items) c.into_bytes.ensures.value)) answered)

pub returns-then-is_empty-clause-done : goal.returns-then-is_empty-clause-done
returns-then-is_empty-clause-done c =
    let reading = c.take_lines.new.reading in
    let state : GraphState = graph_state_of reading in
    let start : graph_state_of (record { edges = c.new.result; requests = c.new-2.result; ids = c.new-3.result }) ≡ record { listed = λ id. None; requests = [] } =
    λ i. record { listed = c.new.ensures i; requests = map graph_request_of (c.new-2.ensures.items i) } in
    let (reached, leads, is_reached) = c.in_ok-take_lines.ensures (record { listed = λ id. None; requests = [] }) start in
    let read : after_lines graph_step 1 (record { listed = λ id. None; requests = [] }) (lines_of c.args.text.now) ≡ Ok state = leads ∙ ap Ok (sym is_reached) in
    let zero : reading.requests.len ≡ 0 = eqb-true _ _ (sym c.is_empty.ensures ∙ c.if-is_empty.true) in
    let none : reading.requests.items ≡ [] = nil_from_length reading.requests.items (omega (arith, zero)) in
    (state, read, subst (λ requests. AreLinesOf (IsGraphLine (graph_of state.listed)) (map graph_request_of requests) c.new-then-is_empty.result.items) (sym none) c.new-then-is_empty.ensures.items)
