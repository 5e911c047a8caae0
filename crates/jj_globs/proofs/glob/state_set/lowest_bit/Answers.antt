use Rattle.std.proofs.Common.{arith}
use Rattle.std.proofs.lemmas.Nat.Bits.{bit_at-trailing_zeros}
use Rattle.std.specs.Int.{w64}
use Rattle.jj_globs.proofs.glob.state_set.lowest_bit.Goals as goal

pub returns : goal.returns
returns c = bit_at-trailing_zeros w64 c.args.bits (omega (arith, c.requires.some)) c.ranges.bits.fits
