use Rattle.std.proofs.Common.{rules}
use Rattle.jj_log.proofs.program.layout_of_lines.Goals as goal

pub returns-in-Err-clause-error : goal.returns-in-Err-clause-error
returns-in-Err-clause-error c = c.failure_of.ensures c.args.max_columns c.args.input.now (search rules) (search rules)
