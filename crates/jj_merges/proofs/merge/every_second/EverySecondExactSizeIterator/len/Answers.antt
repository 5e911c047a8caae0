use Rattle.std.proofs.Common.{ap, arith, length}
use Rattle.jj_merges.proofs.Sides.{length-adds}
use Rattle.jj_merges.proofs.merge.every_second.EverySecondExactSizeIterator.len.Goals as goal

pub returns-clause-value : goal.returns-clause-value
returns-clause-value g c = omega (arith, length-adds c.self.inside.rest.now, ap length c.self.view_is)
