use Rattle.jj_trees.proofs.SameRecords.{copy-Decides}
use Rattle.jj_mirror.proofs.free_digests.has_copy.Goals as goal

pub was_read-requires : goal.was_read-requires
was_read-requires c = copy-Decides
