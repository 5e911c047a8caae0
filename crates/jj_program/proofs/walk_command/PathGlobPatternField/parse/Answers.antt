use Rattle.std.proofs.Common.{◌∙◌, ap, sym, Ok}
use Rattle.jj_program.proofs.GlobFields.{glob_at-reads, glob_at-fails}
use Rattle.jj_program.proofs.walk_command.PathGlobPatternField.parse.Goals as goal

pub returns-in-Ok : goal.returns-in-Ok
returns-in-Ok c = glob_at-reads c.args.text.now c.in-Ok.ensures.reads ∙ ap Ok (sym c.in-Ok.ensures.pattern)

pub returns-in_default : goal.returns-in_default
returns-in_default c = glob_at-fails c.args.text.now c.in-Err.error c.in_default.not-Memory c.in-Err.ensures.pattern
