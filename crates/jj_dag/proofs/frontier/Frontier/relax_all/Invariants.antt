-- The nodes so far have the sides.
use Rattle.std.proofs.Common.{◌≡◌, ◌+◌, ◌≤◌, ◌<◌, ◌^◌, ℕ, eqb, map, take}
use Rattle.std.specs.BinaryHeap.{heap_items, heap_len}
use Rattle.jj_dag.specs.Frontiers.{ListsOpen}
use Rattle.jj_dag.specs.NodeStates.{RelaxesNodes, sides_met, state_at}
use Rattle.jj_dag.specs.NumberSets.{entries_of}
use Rattle.jj_dag.specs.Ranks.{rank_in}
use Rattle.jj_dag.proofs.frontier.Frontier.relax_all.Given as goal

abbrev pub invariant-loop-node : goal.invariant-loop-node
invariant-loop-node l =
    let before = l.initial.self in
    record {
      relaxed : RelaxesNodes eqb (λ (entry : ℕ × ℕ) node. node ≡ entry.1) l.fn.sides (state_at eqb (entries_of l.initial.known)) (heap_items before.pending)
          (map (λ node. (rank_in l.ranks node, node)) (take l.node-index l.nodes)) (state_at eqb (entries_of l.known)) (heap_items l.self.pending);
      listed : ListsOpen (state_at eqb (entries_of l.initial.known)) before.left.items before.right.items → ListsOpen (state_at eqb (entries_of l.known)) l.self.left.items l.self.right.items;
      balance : sides_met (entries_of l.initial.known) + heap_len l.self.pending ≤ sides_met (entries_of l.known) + heap_len before.pending;
      small : sides_met (entries_of l.initial.known) < 2 ^ 64 → sides_met (entries_of l.known) < 2 ^ 64;
    }
