use Rattle.jj_trees.proofs.SameRecords.{commit-Decides}
use Rattle.jj_trees.proofs.memory_backend.MemoryBackend.insert_commit.Goals as goal

pub insert_and_return-requires-clause-decides : goal.insert_and_return-requires-clause-decides
insert_and_return-requires-clause-decides c = commit-Decides
