use Rattle.std.proofs.Common.{List, subst}
use Rattle.jj_mirror.specs.Entries.{LogEntryValue}
use Rattle.jj_mirror.specs.Replays.{IsReplay}
use Rattle.jj_mirror_tests.proofs.ReadBack.{read_back}
use Rattle.jj_mirror_tests.proofs.logs.read_logged.Goals as goal

pub returns : goal.returns
returns c =
    read_back c.args.log.now c.in_ok-backend.backend c.args.id.now c.in_ok-read.read (subst (λ (l : List LogEntryValue). IsReplay l c.in_ok-backend.backend) c.entries.ensures c.in_ok-backend.ensures.ok)
    c.in_ok-read.ensures.read
