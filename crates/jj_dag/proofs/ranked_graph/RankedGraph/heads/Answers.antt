use Rattle.std.proofs.Common.{rules, ◌≡◌, IfOk, List, ℕ, subst}
use Rattle.std.specs.List.Sorted.{IsPermutation, IsStrictlyIncreasing}
use Rattle.jj_dag.specs.ArrayGraphs.{graph_of}
use Rattle.jj_dag.specs.Graph.{AreMaximalElements, IsAcyclicFrom}
use Rattle.jj_dag.specs.NumberSets.{keys_of}
use Rattle.jj_dag.proofs.RankedNodes.{some_ranked}
use Rattle.jj_dag.proofs.SortedResults.{maximal_permuted, maximal_rising}
use Rattle.jj_dag.proofs.ranked_graph.RankedGraph.heads.Goals as goal

pub ranked_heads_in-requires-clause-ranks : goal.ranked_heads_in-requires-clause-ranks
ranked_heads_in-requires-clause-ranks c = some_ranked c.self.inside.graph c.self.inside.ranks c.in-Some.ranks (search rules) c.self.invariant

pub returns-in_default-clause-maximal : goal.returns-in_default-clause-maximal
returns-in_default-clause-maximal c =
    subst (λ (lists : List (List ℕ)). IfOk c.heads.result (λ heads. IsAcyclicFrom (graph_of lists) c.args.starts.now → AreMaximalElements (graph_of lists) c.args.starts.now heads.items)) c.self.view_is c.heads.ensures.maximal

pub returns-in_default-clause-ascending : goal.returns-in_default-clause-ascending
returns-in_default-clause-ascending c =
    subst (λ (lists : List (List ℕ)). IfOk c.heads.result (λ heads. IsAcyclicFrom (graph_of lists) c.args.starts.now → IsStrictlyIncreasing heads.items)) c.self.view_is c.heads.ensures.ascending

pub returns-clause-maximal : goal.returns-clause-maximal
returns-clause-maximal c acyclic =
    let graph = graph_of c.args.self.now in
    let heads = keys_of c.ranked_heads_in.new.heads in
    let found : AreMaximalElements graph c.args.starts.now heads = rw (← c.self.view_is) c.in_ok-ranked_heads_in.ensures in
    let copied : c.in_ok-ascending.ascending.items ≡ heads = c.in_ok-ascending.ensures in
    maximal_permuted graph c.args.starts.now heads c.sort_unstable.new.self.items (subst (λ xs. IsPermutation xs c.sort_unstable.new.self.items) copied c.sort_unstable.ensures.permutation) found

pub returns-clause-ascending : goal.returns-clause-ascending
returns-clause-ascending c acyclic = maximal_rising (graph_of c.args.self.now) c.args.starts.now c.sort_unstable.new.self.items c.sort_unstable.ensures.sorted (returns-clause-maximal c acyclic)
