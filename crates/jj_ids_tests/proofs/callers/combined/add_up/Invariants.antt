use Rattle.std.proofs.Common.{◌≡◌, take}
use Rattle.jj_ids_tests.specs.Lookups.{sum_of}
use Rattle.jj_ids_tests.proofs.callers.combined.add_up.Given as goal

abbrev pub invariant-loop-one : goal.invariant-loop-one
invariant-loop-one l = l.all ≡ sum_of (take l.one-index l.found)
