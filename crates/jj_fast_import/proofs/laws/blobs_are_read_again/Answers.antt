use Rattle.jj_fast_import.proofs.AgainBlobs.{blob_again}
use Rattle.jj_fast_import.proofs.laws.blobs_are_read_again.Goals as goal

pub returns : goal.returns
returns c = blob_again
