use Rattle.std.proofs.Common.{arith}
use Rattle.jj_globs.proofs.BitSets.{take_out_live}
use Rattle.jj_globs.proofs.glob.state_set.clear_bit.Goals as goal

pub returns-clause-live : goal.returns-clause-live
returns-clause-live c = take_out_live c.args.words.now c.args.index (omega arith)
