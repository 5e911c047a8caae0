-- The file is the one that the older edits make.
use Rattle.std.proofs.Common.{◌≡◌, length}
use Rattle.jj_temp_files_tests.specs.Disk.{contents_of, is_synced_at}
use Rattle.jj_temp_files_tests.proofs.memory_disk.newest_of.Given as goal

abbrev pub invariant-loop-rest : goal.invariant-loop-rest
invariant-loop-rest l = record {
  file : contents_of l.rest l.path ≡ contents_of l.fn.edits l.path;
  synced : is_synced_at l.rest l.path ≡ is_synced_at l.fn.edits l.path;
}

abbrev pub decreases-loop-rest : goal.decreases-loop-rest
decreases-loop-rest l = length l.rest
