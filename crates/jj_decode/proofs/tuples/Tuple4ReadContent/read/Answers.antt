use Rattle.std.proofs.lemmas.Result.{err_from_is_err_and}
use Rattle.jj_decode.proofs.tuples.Tuple4ReadContent.read.Goals as goal

pub returns-in_err-prefix-clause-error : goal.returns-in_err-prefix-clause-error
returns-in_err-prefix-clause-error g c =
    let p = err_from_is_err_and c.from_residual.result c.from_residual.ensures.1 in
    rw (p.1, p.2) c.in_err-prefix.ensures.error
