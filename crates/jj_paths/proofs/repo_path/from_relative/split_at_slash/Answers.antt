use Rattle.std.proofs.Common.{arith}
use Rattle.jj_paths.proofs.FsComponents.{names-cut, names-uncut}
use Rattle.jj_paths.proofs.repo_path.from_relative.split_at_slash.Goals as goal

pub returns-then-b-eq47-clause-names : goal.returns-then-b-eq47-clause-names
returns-then-b-eq47-clause-names c = names-cut c.args.path.now c.loop-i.i (omega arith) c.if-b-eq47.true c.loop-i.invariant

pub returns-clause-names : goal.returns-clause-names
returns-clause-names c = names-uncut c.args.path.now c.loop-i.i (omega arith) c.loop-i.invariant
