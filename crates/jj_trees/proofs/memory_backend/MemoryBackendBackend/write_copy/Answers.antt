use Rattle.jj_trees.proofs.SameRecords.{copy-Decides}
use Rattle.jj_trees.proofs.memory_backend.MemoryBackendBackend.write_copy.Goals as goal

pub insert_object-requires : goal.insert_object-requires
insert_object-requires c = copy-Decides
