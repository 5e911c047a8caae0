use Rattle.std.proofs.Common.{ap, arith, length}
use Rattle.jj_merges.proofs.Sides.{length-adds, length-removes}
use Rattle.jj_merges.proofs.merge.Merge.num_sides.Goals as goal

pub returns : goal.returns
returns g c = record {
  terms = omega (arith, ap length c.as_slice.ensures.terms, c.as_slice.ensures.odd);
  adds = omega (arith, length-adds c.args.self.now, ap length c.as_slice.ensures.terms, c.as_slice.ensures.odd);
  removes = omega (arith, length-removes c.args.self.now, ap length c.as_slice.ensures.terms, c.as_slice.ensures.odd);
}
