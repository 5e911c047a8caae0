-- The edges so far.
use Rattle.std.proofs.Common.{◌≡◌, take}
use Rattle.jj_store_walks.specs.Logs.{direct_edges}
use Rattle.jj_store_walks.proofs.grouped.direct_edges.Given as goal

abbrev pub invariant-loop-id : goal.invariant-loop-id
invariant-loop-id l = l.edges.items ≡ direct_edges (take l.id-index l.ids)
