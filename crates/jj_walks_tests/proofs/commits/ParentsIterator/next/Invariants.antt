use Rattle.std.proofs.Common.{◌≡◌, length}
use Rattle.jj_walks_tests.specs.Parents.{parents_left}
use Rattle.jj_walks_tests.proofs.commits.ParentsIterator.next.Given as goal

abbrev pub invariant-loop-id : goal.invariant-loop-id
invariant-loop-id l = record {
  left : parents_left l.self ≡ parents_left l.initial.self;
}

abbrev pub decreases-loop-id : goal.decreases-loop-id
decreases-loop-id l = length l.self.ids.now
