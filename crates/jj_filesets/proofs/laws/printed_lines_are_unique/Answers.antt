use Rattle.jj_filesets.proofs.Printed.{printed_lines_are_unique}
use Rattle.jj_filesets.proofs.laws.printed_lines_are_unique.Goals as goal

pub returns : goal.returns
returns c = printed_lines_are_unique
