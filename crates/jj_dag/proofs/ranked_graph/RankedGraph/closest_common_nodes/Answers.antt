use Rattle.std.proofs.Common.{IfOk, List, rules, subst, ℕ}
use Rattle.std.specs.List.Sorted.{IsStrictlyIncreasing}
use Rattle.jj_dag.specs.ArrayGraphs.{graph_of}
use Rattle.jj_dag.specs.CommonNodes.{AreClosestCommon, HasNoCommonCycle}
use Rattle.jj_dag.proofs.RankedNodes.{some_ranked}
use Rattle.jj_dag.proofs.SortedResults.{closest_permuted, closest_rising}
use Rattle.jj_dag.proofs.ranked_graph.RankedGraph.closest_common_nodes.Goals as goal

pub ranked_closest_in-requires-clause-ranks : goal.ranked_closest_in-requires-clause-ranks
ranked_closest_in-requires-clause-ranks c = some_ranked c.self.inside.graph c.self.inside.ranks c.in-Some.ranks (search rules) c.self.invariant

pub returns-in_default-clause-closest : goal.returns-in_default-clause-closest
returns-in_default-clause-closest c =
    subst (λ (lists : List (List ℕ)). IfOk c.closest_common_nodes.result (λ found. HasNoCommonCycle (graph_of lists) c.args.set1.now c.args.set2.now → AreClosestCommon (graph_of lists) c.args.set1.now c.args.set2.now found.items)) c.self.view_is
    c.closest_common_nodes.ensures.closest

pub returns-in_default-clause-ascending : goal.returns-in_default-clause-ascending
returns-in_default-clause-ascending c =
    subst (λ (lists : List (List ℕ)). IfOk c.closest_common_nodes.result (λ found. HasNoCommonCycle (graph_of lists) c.args.set1.now c.args.set2.now → IsStrictlyIncreasing found.items)) c.self.view_is c.closest_common_nodes.ensures.ascending

pub returns-clause-closest : goal.returns-clause-closest
returns-clause-closest c acyclic =
    let found : AreClosestCommon (graph_of c.args.self.now) c.args.set1.now c.args.set2.now c.in_ok-closest.closest.items = rw (← c.self.view_is) c.in_ok-closest.ensures in
    closest_permuted (graph_of c.args.self.now) c.args.set1.now c.args.set2.now c.in_ok-closest.closest.items c.sort_unstable.new.self.items c.sort_unstable.ensures.permutation found

pub returns-clause-ascending : goal.returns-clause-ascending
returns-clause-ascending c acyclic = closest_rising (graph_of c.args.self.now) c.args.set1.now c.args.set2.now c.sort_unstable.new.self.items c.sort_unstable.ensures.sorted (returns-clause-closest c acyclic)
