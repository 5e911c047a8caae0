-- The ids of the requests so far are collected.
use Rattle.std.proofs.Common.{All, take}
use Rattle.std.specs.List.{Contains}
use Rattle.jj_program.specs.GraphViews.{ids_of, graph_request_of}
use Rattle.jj_program.proofs.graph_command.requested_ids.Given as goal

abbrev pub invariant-loop-request : goal.invariant-loop-request
invariant-loop-request l = All (λ request. All (Contains l.ids.items) (ids_of (graph_request_of request))) (take l.request-index l.requests)
