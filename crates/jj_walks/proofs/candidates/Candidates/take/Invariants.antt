use Rattle.std.proofs.Common.{◌≡◌, Bool, true, false, List, []}
use Rattle.std.specs.HashMap.{get}
use Rattle.std.specs.VecDeque.{deque_items}
use Rattle.jj_walks.specs.Branches.{AreCounts, IsFirstBranch, IsUntaken}
use Rattle.jj_walks.specs.Candidates.{AreToFollow, is_listed, is_zero, rounds_left}
use Rattle.jj_walks.proofs.candidates.Candidates.take.Given as goal

abbrev pub invariant-turns : goal.invariant-turns
invariant-turns g l = record {
  listed : (i : g.row.ID.Denot) → is_zero (get g.ID.PartialEq.eq l.fn.counts i) ≡ true → is_listed g.ID.PartialEq.eq l.initial.self.ids.items (deque_items l.initial.self.heads) i ≡ true
      → is_listed g.ID.PartialEq.eq l.self.ids.items (deque_items l.self.heads) i ≡ true;
  follows : (targets : List g.row.ID.Denot) → AreToFollow g.ID.PartialEq.eq (get g.ID.PartialEq.eq l.fn.counts) targets l.initial.self.ids.items
      → AreToFollow g.ID.PartialEq.eq (get g.ID.PartialEq.eq l.fn.counts) targets l.self.ids.items;
  begun : IsUntaken g.ID.PartialEq.eq (λ _ _. false) [] l.initial.self → IsUntaken g.ID.PartialEq.eq (λ _ _. false) [] l.self;
  branch : (edge : g.row.ID.Denot → g.row.ID.Denot → Bool) (required : g.row.ID.Denot) → AreCounts g.ID.PartialEq.eq edge (get g.ID.PartialEq.eq l.fn.counts) required
      → IsFirstBranch g.ID.PartialEq.eq edge required l.initial.self → IsFirstBranch g.ID.PartialEq.eq edge required l.self;
}

abbrev pub decreases-turns : goal.decreases-turns
decreases-turns g l = rounds_left l.self
