use Rattle.std.proofs.Common.{◌≡◌, ◌||◌, length}
use Rattle.jj_walks.specs.Candidates.{has_id}
use Rattle.jj_walks.proofs.candidates.Candidates.refill.Given as goal

abbrev pub invariant-loop-child : goal.invariant-loop-child
invariant-loop-child g l = record {
  heads : l.self.heads ≡ l.initial.self.heads;
  children : l.self.children ≡ l.initial.self.children;
  blocked : l.self.blocked ≡ l.initial.self.blocked;
  ids : (i : g.row.ID.Denot) → (has_id g.ID.PartialEq.eq l.self.ids.items i || has_id g.ID.PartialEq.eq l.children.items i) ≡ has_id g.ID.PartialEq.eq l.initial.children.items i;
}

abbrev pub decreases-loop-child : goal.decreases-loop-child
decreases-loop-child g l = length l.children.items
