use Rattle.std.proofs.Common.{◌∙◌, sym}
use Rattle.jj_filesets.proofs.Listed.{text_fault-utf8, text_fault-other}
use Rattle.jj_filesets.proofs.listing.text_fault.Goals as goal

pub returns-in-Ok : goal.returns-in-Ok
returns-in-Ok c = c.path_fault.ensures ∙ sym (text_fault-utf8 c.args.path.now c.in-Ok.ensures.cases.1)

pub returns-in-Err : goal.returns-in-Err
returns-in-Err c = sym (text_fault-other c.args.path.now c.in-Err.ensures.cases.0)
