use Rattle.jj_fast_import.specs.Streams.{pending_bytes}
use Rattle.jj_fast_import.proofs.Reading.{malformed_at}
use Rattle.jj_fast_import.proofs.reader.CommandReader.recover_stop.Goals as goal

pub returns-in_ok-lines-in-Malformed-clause-stop : goal.returns-in_ok-lines-in-Malformed-clause-stop
returns-in_ok-lines-in-Malformed-clause-stop g c =
    malformed_at c.args.self.now.is_at_end (pending_bytes c.args.self.now) (g.R.Source.remaining c.args.self.now.source) c.in-Malformed.expected c.in-Malformed.left
    (rw c.in-Malformed.is at c.requires)
