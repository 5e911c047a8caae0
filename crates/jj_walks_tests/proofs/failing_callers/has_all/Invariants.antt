use Rattle.std.proofs.Common.{◌≡◌, drop}
use Rattle.jj_walks_tests.specs.Gaps.{has_ids}
use Rattle.jj_walks_tests.proofs.failing_callers.has_all.Given as goal

abbrev pub invariant-loop-id : goal.invariant-loop-id
invariant-loop-id l = record {
  rest : has_ids l.commits l.ids ≡ has_ids l.commits (drop l.id-index l.ids);
}
