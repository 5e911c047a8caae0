use Rattle.std.proofs.Common.{◌∙◌, ap, map, subst, sym}
use Rattle.jj_store_walks.specs.ReadCommits.{id_of}
use Rattle.jj_commit_graph.specs.Numberings.{AreParentsFirst, parents_of}
use Rattle.jj_commit_graph.proofs.ReadOrders.{graph_of_history, parents_first, starts_known}
use Rattle.jj_commit_graph.proofs.commit_graph.CommitGraph.read.Goals as goal

pub from_commits-requires : goal.from_commits-requires
from_commits-requires g c =
    let objects = g.B.Backend.objects c.args.store.now in
    subst AreParentsFirst (sym (c.deref.ensures.value ∙ c.reverse.ensures.items)) (parents_first objects c.args.starts.now c.in_ok-commits.commits.items c.in_ok-commits.ensures.order)

pub returns-clause-graph : goal.returns-clause-graph
returns-clause-graph g c =
    let objects = g.B.Backend.objects c.args.store.now in
    let same = c.deref.ensures.value ∙ c.reverse.ensures.items in
    graph_of_history objects c.args.starts.now c.in_ok-commits.commits.items c.in_ok-commits.ensures.order c.in_ok-from_commits.field-0
    (c.in_ok-from_commits.ensures.ids ∙ ap (map id_of) same) (c.in_ok-from_commits.ensures.parents ∙ ap (map parents_of) same)

pub returns-clause-starts : goal.returns-clause-starts
returns-clause-starts g c =
    let objects = g.B.Backend.objects c.args.store.now in
    let same = c.deref.ensures.value ∙ c.reverse.ensures.items in
    starts_known objects c.args.starts.now c.in_ok-commits.commits.items c.in_ok-commits.ensures.order c.in_ok-from_commits.field-0
    (c.in_ok-from_commits.ensures.ids ∙ ap (map id_of) same) (c.in_ok-from_commits.ensures.parents ∙ ap (map parents_of) same)
