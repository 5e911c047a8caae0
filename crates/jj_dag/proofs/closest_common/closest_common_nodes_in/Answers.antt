use Rattle.std.proofs.Common.{◌≡◌}
use Rattle.jj_dag.specs.NodeStates.{state_at, closest_of}
use Rattle.jj_dag.proofs.closest_common.closest_common_nodes_in.Goals as goal

pub returns-clause-closest : goal.returns-clause-closest
returns-clause-closest g c =
    let p = c.in_ok-common.ensures.closest in
    let left : c.in_ok-closest.field-0.items ≡ closest_of (state_at g.ID.PartialEq.eq (g.M.NodeMap.entries c.common_nodes.new.known)) c.in_ok-common.common.entries = c.in_ok-closest.ensures in
    record {
      set1 = p.set1;
      set2 = p.set2;
      yielded1 = p.yielded1;
      yielded2 = p.yielded2;
      holds = λ walk implemented first second acyclic. rw left (p.holds walk implemented first second acyclic);
    }

pub common_nodes-requires-clause-graph : goal.common_nodes-requires-clause-graph
common_nodes-requires-clause-graph g c = record { id_fn = c.requires.graph.id_fn; neighbors_fn = c.requires.graph.neighbors_fn; lists = c.requires.graph.lists }
