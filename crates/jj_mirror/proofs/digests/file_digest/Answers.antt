use Rattle.jj_mirror.proofs.ByteStrings.{bytes_content-is}
use Rattle.jj_mirror.proofs.digests.file_digest.Goals as goal

pub returns : goal.returns
returns c = rw (← bytes_content-is c.args.contents.now) c.string_digest.ensures
