use Rattle.std.proofs.Common.{◌≡◌, ◌++◌, List, take}
use Rattle.jj_walks.specs.Candidates.{AreSameIds}
use Rattle.jj_walks.specs.Grouped.{targets_of}
use Rattle.jj_walks.proofs.candidates.Candidates.push_targets.Given as goal

abbrev pub invariant-loop-edge : goal.invariant-loop-edge
invariant-loop-edge g l = record {
  heads : l.self.heads ≡ l.initial.self.heads;
  ids : (more : List g.row.ID.Denot) × (l.self.ids.items ≡ l.initial.self.ids.items ++ more) × AreSameIds g.ID.PartialEq.eq (targets_of (take l.edge-index l.edges)) more;
}
