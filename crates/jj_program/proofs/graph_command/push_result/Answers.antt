use Rattle.std.proofs.Common.{◌≡◌, ◌∙◌, ◌++◌, ℕ, List, Result, IfOk, ap, refl, sym, subst}
use Rattle.std.specs.Prelude.{All, codes, string_bytes}
use Rattle.std.specs.List.{Contains}
use Rattle.std.proofs.lemmas.Result.{IfOk-weaker}
use Rattle.jj_dag.specs.CommonNodes.{AreClosestCommon}
use Rattle.jj_dag.specs.Graph.{Graph, IsGreatestTopologicalOrder, AreMaximalElements}
use Rattle.jj_program.specs.declared.listed_graph.ListedGraph.{ListedGraph}
use Rattle.jj_program.specs.ListedGraphs.{Represents, named_by}
use Rattle.jj_program.specs.GraphCommand.{GraphRequest, Order, Heads, Common, IsLineOfRequest, numbers_line}
use Rattle.jj_program.specs.GraphViews.{ids_of, graph_request_of}
use Rattle.jj_program.proofs.RequestedIds.{back_held, front_held}
use Rattle.jj_program.proofs.graph_command.push_result.Goals as goal

pub greatest_order-requires-clause-named : goal.greatest_order-requires-clause-named
greatest_order-requires-clause-named c =
    let named : ids_of (graph_request_of c.args.request.now) ≡ c.deref.result.now = ap (λ request. ids_of (graph_request_of request)) c.in-Order.is ∙ sym c.deref.ensures.value in
    subst (All (Contains (named_by c.args.graph.now))) named c.requires.named

pub heads-requires-clause-named : goal.heads-requires-clause-named
heads-requires-clause-named c =
    let named : ids_of (graph_request_of c.args.request.now) ≡ c.deref-in-Heads.result.now = ap (λ request. ids_of (graph_request_of request)) c.in-Heads.is ∙ sym c.deref-in-Heads.ensures.value in
    subst (All (Contains (named_by c.args.graph.now))) named c.requires.named

pub closest_common_nodes-requires-clause-named : goal.closest_common_nodes-requires-clause-named
closest_common_nodes-requires-clause-named c =
    let ids = named_by c.args.graph.now in
    let named = subst (All (Contains ids)) (ap (λ request. ids_of (graph_request_of request)) c.in-Common.is) c.requires.named in
    subst (All (Contains ids)) (sym c.deref-in-Common.ensures.value) (front_held ids c.in-Common.set1.items c.in-Common.set2.items named)

pub closest_common_nodes-requires-clause-named_second : goal.closest_common_nodes-requires-clause-named_second
closest_common_nodes-requires-clause-named_second c =
    let ids = named_by c.args.graph.now in
    let named = subst (All (Contains ids)) (ap (λ request. ids_of (graph_request_of request)) c.in-Common.is) c.requires.named in
    subst (All (Contains ids)) (sym c.deref-in-Common-2.ensures.value) (back_held ids c.in-Common.set1.items c.in-Common.set2.items named)

-- the line was appended
written : {X E : Type 0} (result : Result X E) (IsLine : List ℕ → Type 0) (name numbers given old new : List ℕ) → given ≡ numbers → IsLine (numbers_line name numbers)
    → IfOk result (λ _. new ≡ old ++ numbers_line name given) → IfOk result (λ _. (line : List ℕ) × IsLine line × (new ≡ old ++ line))
written result IsLine name numbers given old new same is =
    IfOk-weaker result (λ _. new ≡ old ++ numbers_line name given) (λ _. (line : List ℕ) × IsLine line × (new ≡ old ++ line))
    (λ done appended. (numbers_line name numbers, is, appended ∙ ap (λ l. old ++ numbers_line name l) same))

-- the line of the request
abbrev IsLineOf : ListedGraph → GraphRequest → List ℕ → Type 0
IsLineOf listed request line = (shown : Graph) → Represents listed shown → IsLineOfRequest shown request line

pub returns-in_ok-order-in-Order : goal.returns-in_ok-order-in-Order
returns-in_ok-order-in-Order c =
    let order = c.in_ok-order-in-Order.order.items in
    let is : IsLineOf c.args.graph.now (Order c.in-Order.ids.items) (numbers_line (codes "order") order) =
    λ shown is_shown. (order, subst (λ (ids : List ℕ). IsGreatestTopologicalOrder shown ids order) c.deref.ensures.value (c.in_ok-order-in-Order.ensures shown is_shown), refl) in
    written c.push_numbers.result (IsLineOf c.args.graph.now (graph_request_of c.args.request.now)) (codes "order") order c.deref-in-Order.result.now (string_bytes c.args.output.now)
    (string_bytes c.push_numbers.new.output) c.deref-in-Order.ensures.value
    (subst (λ r. IsLineOf c.args.graph.now r (numbers_line (codes "order") order)) (sym (ap graph_request_of c.in-Order.is)) is) c.push_numbers.ensures

pub returns-in_ok-heads-in-Heads : goal.returns-in_ok-heads-in-Heads
returns-in_ok-heads-in-Heads c =
    let heads = c.in_ok-heads-in-Heads.heads.items in
    let is : IsLineOf c.args.graph.now (Heads c.in-Heads.ids.items) (numbers_line (codes "heads") heads) =
    λ shown is_shown. (
      heads,
      subst (λ (ids : List ℕ). AreMaximalElements shown ids heads) c.deref-in-Heads.ensures.value (c.in_ok-heads-in-Heads.ensures.maximal shown is_shown),
      c.in_ok-heads-in-Heads.ensures.ascending,
      refl,
    ) in
    written c.push_numbers-in-Heads.result (IsLineOf c.args.graph.now (graph_request_of c.args.request.now)) (codes "heads") heads c.deref-in-Heads-2.result.now (string_bytes c.args.output.now)
    (string_bytes c.push_numbers-in-Heads.new.output) c.deref-in-Heads-2.ensures.value
    (subst (λ r. IsLineOf c.args.graph.now r (numbers_line (codes "heads") heads)) (sym (ap graph_request_of c.in-Heads.is)) is) c.push_numbers-in-Heads.ensures

pub returns-in_ok-common-in-Common : goal.returns-in_ok-common-in-Common
returns-in_ok-common-in-Common c =
    let common = c.in_ok-common-in-Common.common.items in
    let is : IsLineOf c.args.graph.now (Common c.in-Common.set1.items c.in-Common.set2.items) (numbers_line (codes "common") common) =
    λ shown is_shown. (
      common,
      subst (λ (set : List ℕ). AreClosestCommon shown c.in-Common.set1.items set common) c.deref-in-Common-2.ensures.value
          (subst (λ (set : List ℕ). AreClosestCommon shown set c.deref-in-Common-2.result.now common) c.deref-in-Common.ensures.value (c.in_ok-common-in-Common.ensures.closest shown is_shown)),
      c.in_ok-common-in-Common.ensures.ascending,
      refl,
    ) in
    written c.push_numbers-in-Common.result (IsLineOf c.args.graph.now (graph_request_of c.args.request.now)) (codes "common") common c.deref-in-Common-3.result.now (string_bytes c.args.output.now)
    (string_bytes c.push_numbers-in-Common.new.output) c.deref-in-Common-3.ensures.value
    (subst (λ r. IsLineOf c.args.graph.now r (numbers_line (codes "common") common)) (sym (ap graph_request_of c.in-Common.is)) is) c.push_numbers-in-Common.ensures
