use Rattle.std.proofs.Common.{arith}
use Rattle.jj_globs.proofs.BitSets.{put_live}
use Rattle.jj_globs.proofs.glob.state_set.insert.Goals as goal

pub returns-clause-live : goal.returns-clause-live
returns-clause-live c = put_live c.args.words.now c.args.index (omega arith)
