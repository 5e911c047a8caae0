use Rattle.jj_merges.proofs.ResolutionScan.{NoneOfLast}
use Rattle.jj_merges.proofs.merge.trivial.contains_from_end.Given as goal

abbrev pub invariant-loop-distance : goal.invariant-loop-distance
invariant-loop-distance g l = NoneOfLast (g.T.PartialEq.eq l.value) l.values l.distance
