use Rattle.std.proofs.Common.{ℕ, All, List, take, subst, arith}
use Rattle.std.specs.List.{Contains}
use Rattle.std.proofs.lemmas.List.{take_all}
use Rattle.std.proofs.lemmas.List.Elements.{All-more, All-nil, All-weaker}
use Rattle.jj_program.specs.declared.graph_command.GraphRequest.{GraphRequest}
use Rattle.jj_program.specs.GraphViews.{ids_of, graph_request_of}
use Rattle.jj_program.proofs.RequestedIds.{added_held, still_held}
use Rattle.jj_program.proofs.graph_command.requested_ids.Goals as goal

-- the ids of a request are collected
abbrev HoldsIds : List ℕ → GraphRequest → Type 0
HoldsIds ids request = All (Contains ids) (ids_of (graph_request_of request))

pub loop-request-init : goal.loop-request-init
loop-request-init c = All-nil (HoldsIds c.new-ids.result.items)

pub loop-request-preserved : goal.loop-request-preserved
loop-request-preserved c =
    let requests = c.args.requests.now in
    let i = c.loop-request.request-index in
    let request = c.request-item.result in
    let old = c.loop-request.ids.items in
    let new = c.push_requested.new.ids.items in
    let added = ids_of (graph_request_of request) in
    let so_far = All-weaker (HoldsIds old) (HoldsIds new) (λ other held. still_held old added new (ids_of (graph_request_of other)) c.in_ok-push_requested.ensures held) (take i requests) c.loop-request.invariant in
    All-more (HoldsIds new) requests i request (omega arith) so_far
    (subst (HoldsIds new) c.request-item.is (added_held old added new c.in_ok-push_requested.ensures))

pub returns : goal.returns
returns c = subst (All (HoldsIds c.loop-request.ids.items)) (take_all c.loop-request.request-index c.args.requests.now (omega arith)) c.loop-request.invariant
