use Rattle.std.specs.Option.{option_copied}
use Rattle.jj_merges.proofs.ResolutionScan.{ScanInvariant}
use Rattle.jj_merges.proofs.merge.trivial.resolve_by_counts.Given as goal

abbrev pub invariant-loop-index : goal.invariant-loop-index
invariant-loop-index g l = ScanInvariant g.T.PartialEq.eq l.values l.same_change l.index (option_copied l.added) (option_copied l.removed)
