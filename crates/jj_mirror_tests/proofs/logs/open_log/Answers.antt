use Rattle.std.proofs.Common.{List, ap, subst}
use Rattle.jj_trees.specs.MemoryObjects.{MemoryBackendValue}
use Rattle.jj_mirror.specs.Entries.{LogEntryValue}
use Rattle.jj_mirror.specs.Replays.{IsReplay}
use Rattle.jj_mirror_tests.proofs.logs.open_log.Goals as goal

pub beside-requires : goal.beside-requires
beside-requires c = ap (λ (b : MemoryBackendValue). b.id_length) c.in_ok-backend.ensures.ok.ids

pub returns-clause-replay : goal.returns-clause-replay
returns-clause-replay c = rw c.beside.ensures.backend (subst (λ (l : List LogEntryValue). IsReplay l c.in_ok-backend.backend) c.entries.ensures c.in_ok-backend.ensures.ok)
