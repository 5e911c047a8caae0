use Rattle.std.proofs.Common.{◌≡◌, ◌||◌, ◌&&◌, take}
use Rattle.std.specs.List.{list_any}
use Rattle.jj_walks.specs.Branches.{has_child}
use Rattle.jj_walks.specs.Grouped.{leads_to}
use Rattle.jj_walks.proofs.candidates.Candidates.remember.Given as goal

abbrev pub invariant-loop-edge : goal.invariant-loop-edge
invariant-loop-edge g l = record {
  ids : l.self.ids ≡ l.initial.self.ids;
  heads : l.self.heads ≡ l.initial.self.heads;
  blocked : l.self.blocked ≡ l.initial.self.blocked;
  children : (j i : g.row.ID.Denot) → has_child g.ID.PartialEq.eq l.self.children j i
      ≡ (has_child g.ID.PartialEq.eq l.initial.self.children j i || (list_any (leads_to g.ID.PartialEq.eq j) (take l.edge-index l.edges) && g.ID.PartialEq.eq l.id i));
}
