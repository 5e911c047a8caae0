use Rattle.std.proofs.Common.{◌≡◌, ◌+◌, ◌-◌, ◌*◌, ◌^◌, ℕ, List, true, length}
use Rattle.std.specs.List.{Contains}
use Rattle.std.specs.Set.{is_member}
use Rattle.std.specs.Iterator.{IsFiniteIterable}
use Rattle.jj_dag.specs.ClosureGraph.{CallsLead, graph_of_items, IsWalkable}
use Rattle.jj_dag.specs.Graph.{ReachedFrom}
use Rattle.jj_dag.specs.HeadsSearch.{FromStarted}
use Rattle.jj_dag.specs.Walk.{IsEqualityOfNodes}
use Rattle.jj_dag.proofs.Heads.{HoldsSearch}
use Rattle.jj_dag.proofs.Walking.{numbers}
use Rattle.jj_dag.proofs.maximal.expand_all.Given as goal

abbrev pub invariant-loop-node : goal.invariant-loop-node
invariant-loop-node g l =
    let graph = graph_of_items g.ID.PartialEq.eq g.F.Fn g.N.FnMut g.NI.IntoIterator g.NI.IntoIter.Iterator l.id_fn in
    record {
      can : IsWalkable g.F.Fn g.N.FnMut (IsFiniteIterable g.NI.IntoIterator.into_iter_gives g.NI.IntoIter.Iterator.can_next g.NI.IntoIter.Iterator.remaining) l.id_fn l.neighbors_fn;
      calls : CallsLead g.N.FnMut l.initial.neighbors_fn l.neighbors_fn;
      walking : FromStarted g.T.PartialEq.eq g.ID.PartialEq.eq (graph l.initial.neighbors_fn) (g.H.NodeSet.keys l.initial.heads) (g.V.NodeSet.keys l.initial.visited) l.initial.queue.items (λ walk nodes.
          (graph l.neighbors_fn).implements walk
          × ((a : ℕ) → Contains (numbers walk l.queue.items) a → (walk.is_node a ≡ true) × ReachedFrom walk.graph nodes a)
          × (IsEqualityOfNodes walk g.T.PartialEq.eq
          → (met : List ℕ) × HoldsSearch walk nodes met (numbers walk l.queue.items) l.root_met (g.H.NodeSet.keys l.heads) (is_member g.T.PartialEq.eq (g.H.NodeSet.keys l.heads)) (is_member g.ID.PartialEq.eq (g.V.NodeSet.keys l.visited))));
    }

abbrev pub decreases-loop-node : goal.decreases-loop-node
decreases-loop-node g l = (2 ^ 64 - length (g.V.NodeSet.keys l.visited)) * 2 ^ 64 + length l.queue.items
