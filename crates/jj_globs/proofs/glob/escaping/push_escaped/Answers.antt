use Rattle.std.proofs.Common.{arith, rules}
use Rattle.jj_globs.proofs.EscapedCharacters.{escaped_plain}
use Rattle.jj_globs.proofs.glob.escaping.push_escaped.Goals as goal

pub returns-in_default : goal.returns-in_default
returns-in_default c =
    rw (escaped_plain c.args.c (omega arith) (omega arith) (omega arith) (omega arith) (omega arith) (omega arith) (omega arith)) (search rules)
