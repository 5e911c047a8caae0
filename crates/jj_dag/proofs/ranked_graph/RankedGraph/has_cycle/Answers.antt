use Rattle.std.proofs.Common.{List, ℕ, subst}
use Rattle.std.specs.Prelude.{MatchBool}
use Rattle.jj_dag.specs.ArrayGraphs.{HasCycle, graph_of}
use Rattle.jj_dag.proofs.RankedNodes.{cyclic_or_ranked}
use Rattle.jj_dag.proofs.ranked_graph.RankedGraph.has_cycle.Goals as goal

pub returns : goal.returns
returns c =
    subst (λ (lists : List (List ℕ)). MatchBool c.is_none.result (HasCycle (graph_of lists)) (HasCycle (graph_of lists) → ⊥)) c.self.view_is
    (cyclic_or_ranked c.self.inside.graph c.self.inside.ranks c.is_none.result c.is_none.ensures c.self.invariant)
