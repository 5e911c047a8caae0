use Rattle.std.proofs.Common.{rules, of_calls, ◌≡◌, refl, subst, sym, map}
use Rattle.std.specs.List.Sorted.{IsPermutation}
use Rattle.std.proofs.lemmas.Fn.{always_returns_same}
use Rattle.std.proofs.lemmas.List.{map-id}
use Rattle.jj_dag.specs.Graph.{AreMaximalElements, IsAcyclicFrom}
use Rattle.jj_dag.proofs.SortedResults.{maximal_permuted, maximal_rising}
use Rattle.jj_dag.specs.ArrayGraphs.{graph_of}
use Rattle.jj_dag.specs.NumberSets.{keys_of}
use Rattle.jj_dag.proofs.ArrayGraphs.{copied_nodes, implements_lists, model_of}
use Rattle.jj_dag.proofs.array_graph.ArrayGraph.heads.Goals as goal

pub heads_in-requires-clause-graph : goal.heads_in-requires-clause-graph
heads_in-requires-clause-graph c = record {
  id_fn = search rules;
  neighbors_fn = search (rules, of_calls);
  lists = always_returns_same _ _ _ (λ a r f h. (λ it b. (search rules, search rules), search (rules, of_calls, h)));
}

pub returns-clause-maximal : goal.returns-clause-maximal
returns-clause-maximal c acyclic =
    let graph = graph_of c.args.self.now in
    let p = c.in_ok-heads_in.ensures.heads in
    let starts : map (λ x. x) p.starts ≡ c.args.starts.now = copied_nodes c.copied.result p.starts c.args.starts.now (search (rules, c.copied.ensures, c.iter.ensures)) p.yielded in
    let found = p.holds (model_of graph)
    (implements_lists graph _ _ _ (λ x i h. search (rules, of_calls, h.says.met, h.shows)) _ (λ a r f h. (search (rules, of_calls, h), search (rules, of_calls, h))))
    (λ a h. refl) (subst (IsAcyclicFrom graph) (sym starts) acyclic) (λ x y a. refl) in
    let heads = keys_of c.heads_in.new.heads in
    let of_nodes : AreMaximalElements graph c.args.starts.now heads = subst (λ nodes. AreMaximalElements graph nodes heads) starts (subst (λ keys. AreMaximalElements graph (map (λ x. x) p.starts) keys) (map-id heads) found) in
    let copied : c.in_ok-ascending.ascending.items ≡ heads = c.in_ok-ascending.ensures in
    maximal_permuted graph c.args.starts.now heads c.sort_unstable.new.self.items (subst (λ xs. IsPermutation xs c.sort_unstable.new.self.items) copied c.sort_unstable.ensures.permutation) of_nodes

pub returns-clause-ascending : goal.returns-clause-ascending
returns-clause-ascending c acyclic = maximal_rising (graph_of c.args.self.now) c.args.starts.now c.sort_unstable.new.self.items c.sort_unstable.ensures.sorted (returns-clause-maximal c acyclic)
