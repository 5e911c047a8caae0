use Rattle.jj_log.proofs.ReadBack.{reads_back}
use Rattle.jj_log.proofs.style.unicode_is_read_back.Goals as goal

pub returns : goal.returns
returns c = reads_back
