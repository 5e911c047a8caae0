use Rattle.std.proofs.Common.{◌≡◌, ◌++◌, [], List, Ok, map, reverse, if◌then◌else◌, length}
use Rattle.std.specs.Fn.{FnReturnsAt}
use Rattle.std.specs.Global.{Global as global}
use Rattle.std.specs.Iterator.{Drains}
use Rattle.std.specs.List.{AllZip, list_any}
use Rattle.std.specs.declared.vec.Vec.{Vec as vec}
use denote.Ref.{Bor}
use Rattle.jj_walks.specs.declared.graph.GraphEdge.{GraphEdge}
use Rattle.jj_walks.specs.ListsByKey.{items_at}
use Rattle.jj_walks.specs.Reversed.{LeadsToId, HasEdgesById, incoming_edges, edge_lists, reversed_edges, with_incoming}
use Rattle.jj_walks.proofs.reversed.reverse_graph.Given as goal

abbrev pub invariant-loop-edge : goal.invariant-loop-edge
invariant-loop-edge g l = record {
  can : (goal.iterator-loop-edge g).can_next l.edge-iterator;
  finite : (goal.iterator-loop-edge g).is_finite l.edge-iterator;
  turned : (id : g.row.N.Denot → g.row.ID.Denot) → ((x : g.row.N.Denot) (r : Bor g.row.ID.Denot) → FnReturnsAt g.F.Fn l.fn.as_id x r → r.now ≡ id x)
      → (before : List (GraphEdge g.row.N.Denot)) (q : g.row.ID.Denot) → AllZip (LeadsToId g.ID.Clone.is_clone id) before (items_at g.ID.PartialEq.eq l.initial.incoming q)
      → AllZip (LeadsToId g.ID.Clone.is_clone id) (before ++ reversed_edges g.ID.PartialEq.eq q l.node l.yielded) (items_at g.ID.PartialEq.eq l.incoming q);
}

abbrev pub invariant-loop-item : goal.invariant-loop-item
invariant-loop-item g l = record {
  can : (goal.iterator-loop-item g).can_next l.item-iterator;
  finite : (goal.iterator-loop-item g).is_finite l.item-iterator;
  sound : (nodes : List (g.row.N.Denot × vec (GraphEdge g.row.ID.Denot) global)) × (l.yielded ≡ map (λ x. Ok x) nodes) × (l.nodes.items ≡ map (λ x. x.0) nodes)
      × ((id : g.row.N.Denot → g.row.ID.Denot) → ((x : g.row.N.Denot) (r : Bor g.row.ID.Denot) → FnReturnsAt g.F.Fn l.fn.as_id x r → r.now ≡ id x)
      → (q : g.row.ID.Denot) → AllZip (LeadsToId g.ID.Clone.is_clone id) (incoming_edges g.ID.PartialEq.eq q (edge_lists nodes)) (items_at g.ID.PartialEq.eq l.incoming q));
}

abbrev pub invariant-loop-node : goal.invariant-loop-node
invariant-loop-node g l =
    (nodes : List (g.row.N.Denot × vec (GraphEdge g.row.ID.Denot) global)) × (later : List g.row.N.Denot) × Drains g.I.Iterator.next_gives l.fn.input (map (λ x. Ok x) nodes)
    × (map (λ x. x.0) nodes ≡ l.nodes.items ++ later)
    × ((id : g.row.N.Denot → g.row.ID.Denot) → ((x : g.row.N.Denot) (r : Bor g.row.ID.Denot) → FnReturnsAt g.F.Fn l.fn.as_id x r → r.now ≡ id x)
    → ((q : g.row.ID.Denot) → AllZip (LeadsToId g.ID.Clone.is_clone id) (if list_any (λ other. g.ID.PartialEq.eq (id other) q) later then [] else incoming_edges g.ID.PartialEq.eq q (edge_lists nodes))
    (items_at g.ID.PartialEq.eq l.incoming q))
    × HasEdgesById g.ID.Clone.is_clone id (reverse (with_incoming g.ID.PartialEq.eq id (edge_lists nodes) later)) (edge_lists l.reversed.items))

abbrev pub decreases-loop-node : goal.decreases-loop-node
decreases-loop-node g l = length l.nodes.items
