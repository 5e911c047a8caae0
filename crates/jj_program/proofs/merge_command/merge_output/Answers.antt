use Rattle.std.proofs.Common.{[]}
use Rattle.std.proofs.lemmas.Result.{err_from_is_err_and}
use Rattle.jj_program.proofs.merge_command.merge_output.Goals as goal

pub returns-in_err-take_lines-clause-fault : goal.returns-in_err-take_lines-clause-fault
returns-in_err-take_lines-clause-fault c =
    let p = err_from_is_err_and c.from_residual.result c.from_residual.ensures.1 in
    rw (p.1, p.2) (c.in_err-take_lines.ensures [] c.new.ensures.items)

pub returns-clause-done : goal.returns-clause-done
returns-clause-done c = c.in_ok-take_lines.ensures [] c.new.ensures.items
