use Rattle.std.proofs.Common.{◌≡◌, ◌+◌, ◌≤◌, List}
use Rattle.std.specs.HashMap.{hash_map_len}
use Rattle.std.specs.Iterator.{size}
use Rattle.jj_walks.specs.Grouped.{Entry, History}
use Rattle.jj_walks.specs.GroupedSteps.{CanRead, Item, ReadsTo, read_on}
use Rattle.jj_walks.specs.PendingNodes.{Keeps}
use Rattle.jj_walks.proofs.grouped.TopoGroupedGraph.next_node.Given as goal

abbrev pub invariant-reading : goal.invariant-reading
invariant-reading g l = record {
  can_read : CanRead g.F.Fn g.ID.PartialEq.eq g.ID.Clone.is_clone g.S.Iterator.can_next g.S.Iterator.remaining l.self;
  as_id : l.self.as_id ≡ l.initial.self.as_id;
  left : size (g.S.Iterator.remaining l.self.input) + hash_map_len l.self.pending.nodes ≤ size (g.S.Iterator.remaining l.initial.self.input) + hash_map_len l.initial.self.pending.nodes;
  reads : (items : List (Item g.row.N.Denot g.row.ID.Denot)) × (reads : List (Entry g.row.N.Denot g.row.ID.Denot)) × ReadsTo g.F.Fn g.ID.PartialEq.eq g.S.Iterator.next_gives l.initial.self.as_id l.initial.self.input items reads l.self.input
      × ((h : History g.row.N.Denot g.row.ID.Denot) → Keeps g.ID.PartialEq.eq h l.initial.self.pending → Keeps g.ID.PartialEq.eq (read_on reads h) l.self.pending);
}

abbrev pub decreases-reading : goal.decreases-reading
decreases-reading g l = size (g.S.Iterator.remaining l.self.input)
