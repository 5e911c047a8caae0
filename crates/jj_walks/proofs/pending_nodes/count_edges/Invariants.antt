use Rattle.std.proofs.Common.{◌≡◌, ◌+◌, ◌||◌, is_some, take, count_by}
use Rattle.std.specs.HashMap.{get}
use Rattle.std.specs.List.{list_any}
use Rattle.jj_walks.specs.Candidates.{count_at}
use Rattle.jj_walks.specs.Grouped.{leads_to}
use Rattle.jj_walks.proofs.pending_nodes.count_edges.Given as goal

abbrev pub invariant-loop-edge : goal.invariant-loop-edge
invariant-loop-edge g l = record {
  counts : (i : g.row.ID.Denot) → count_at g.ID.PartialEq.eq l.counts i ≡ count_at g.ID.PartialEq.eq l.initial.counts i + count_by (leads_to g.ID.PartialEq.eq i) (take l.edge-index l.edges);
  known : (i : g.row.ID.Denot) → is_some (get g.ID.PartialEq.eq l.counts i) ≡ (list_any (leads_to g.ID.PartialEq.eq i) (take l.edge-index l.edges) || is_some (get g.ID.PartialEq.eq l.initial.counts i));
}
