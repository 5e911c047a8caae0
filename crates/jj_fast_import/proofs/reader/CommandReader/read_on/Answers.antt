use Rattle.std.proofs.lemmas.Result.{err_from_is_err_and}
use Rattle.jj_fast_import.specs.Streams.{is_end_announced, unread_bytes}
use Rattle.jj_fast_import.proofs.Reading.{failure_stop}
use Rattle.jj_fast_import.proofs.reader.CommandReader.read_on.Goals as goal

pub returns-in_err-added-clause-stop : goal.returns-in_err-added-clause-stop
returns-in_err-added-clause-stop g c =
    let p = err_from_is_err_and c.from_residual-in_err-added.result c.from_residual-in_err-added.ensures.1 in
    rw (p.1, p.2) (failure_stop c.in_err-added.field-0.0 (unread_bytes g.R.Source.remaining c.args.self.now) (is_end_announced c.args.self.now) c.in_err-added.ensures.failure)
