-- The edges so far.
use Rattle.std.proofs.Common.{◌≡◌, map, take, ℕ}
use Rattle.std.specs.List.{Contains}
use Rattle.jj_walks.specs.declared.graph.GraphEdge.{GraphEdge}
use Rattle.jj_log.specs.Edges.{IsOfType}
use Rattle.jj_log.specs.Numbers.{parents_of}
use Rattle.jj_log.proofs.targets.edges_of.Given as goal

abbrev pub invariant-loop-target : goal.invariant-loop-target
invariant-loop-target l = record {
  targets : map (λ edge. edge.target) l.edges.items ≡ take l.target-index l.targets;
  types : (edge : GraphEdge ℕ) → Contains l.edges.items edge → IsOfType l.commits (parents_of l.commits l.number) edge.edge_type edge.target;
}
