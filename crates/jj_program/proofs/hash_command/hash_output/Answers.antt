use Rattle.std.proofs.Common.{◌∙◌, [], Ok, ap, sym}
use Rattle.std.proofs.lemmas.Result.{err_from_is_err_and}
use Rattle.jj_program.proofs.hash_command.hash_output.Goals as goal

pub returns-in_err-take_lines-clause-fault : goal.returns-in_err-take_lines-clause-fault
returns-in_err-take_lines-clause-fault c =
    let p = err_from_is_err_and c.from_residual.result c.from_residual.ensures.1 in
    rw (p.1, p.2) (c.in_err-take_lines.ensures [] c.new.ensures.items)

pub returns-clause-done : goal.returns-clause-done
returns-clause-done c =
    let (output, leads, is) = c.in_ok-take_lines.ensures [] c.new.ensures.items in
    leads ∙ ap Ok (sym is)
