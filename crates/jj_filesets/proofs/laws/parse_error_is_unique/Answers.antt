use Rattle.jj_filesets.proofs.Unique.{parse_error_is_unique}
use Rattle.jj_filesets.proofs.laws.parse_error_is_unique.Goals as goal

pub returns : goal.returns
returns c = parse_error_is_unique
