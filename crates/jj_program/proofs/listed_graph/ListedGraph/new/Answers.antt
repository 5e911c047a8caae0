use Rattle.std.proofs.Common.{All, ◌∙◌, ap, map, subst, sym}
use Rattle.std.specs.List.{Contains}
use Rattle.jj_dag.specs.PackedLists.{lists_of}
use Rattle.jj_program.specs.GraphCommand.{graph_of}
use Rattle.jj_program.specs.GraphViews.{listed_by}
use Rattle.jj_program.specs.Parts.{AreWithin, id_of}
use Rattle.jj_program.proofs.ListedEdges.{neighbors_named}
use Rattle.jj_program.proofs.ListedGraphs.{lists_within}
use Rattle.jj_program.proofs.listed_graph.ListedGraph.new.Goals as goal

pub numbered_lists-requires : goal.numbered_lists-requires
numbered_lists-requires c = subst (All (Contains c.in_ok-numbering.numbering.ids.items)) c.targets.ensures c.in_ok-numbering.ensures.targets

pub invariant_of-result : goal.invariant_of-result
invariant_of-result c =
    let ids = c.in_ok-numbering.numbering.ids.items in
    let named = neighbors_named c.args.edges.now ids (subst (All (Contains ids)) c.targets.ensures c.in_ok-numbering.ensures.targets) in
    record {
      within = subst (AreWithin ids) (sym (c.in_ok-graph.ensures ∙ c.new-array.ensures)) (lists_within ids (lists_of c.in_ok-lists.lists) (graph_of (listed_by c.args.edges.now)) c.in_ok-lists.ensures named);
    }

pub returns-clause-graph : goal.returns-clause-graph
returns-clause-graph c =
    let ids = c.in_ok-numbering.numbering.ids.items in
    record {
      lists = ap (map (map (id_of ids))) (c.in_ok-graph.ensures ∙ c.new-array.ensures) ∙ c.in_ok-lists.ensures;
      named = neighbors_named c.args.edges.now ids (subst (All (Contains ids)) c.targets.ensures c.in_ok-numbering.ensures.targets);
    }
