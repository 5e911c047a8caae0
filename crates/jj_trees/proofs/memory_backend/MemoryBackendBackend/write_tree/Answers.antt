use Rattle.jj_trees.proofs.SameRecords.{tree-Decides}
use Rattle.jj_trees.proofs.memory_backend.MemoryBackendBackend.write_tree.Goals as goal

pub insert_object-requires : goal.insert_object-requires
insert_object-requires c = tree-Decides
