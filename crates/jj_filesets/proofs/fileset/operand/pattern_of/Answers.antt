use Rattle.jj_filesets.proofs.PatternTexts.{text_gives, no_text_fails}
use Rattle.jj_filesets.proofs.fileset.operand.pattern_of.Goals as goal

pub returns-in-Ok : goal.returns-in-Ok
returns-in-Ok c =
    text_gives c.args.kind c.args.at c.args.string.now c.in-Ok.text.now c.relative_pattern.result c.in-Ok.ensures.cases.0 c.in-Ok.ensures.cases.1 c.relative_pattern.ensures

pub returns-in-Err : goal.returns-in-Err
returns-in-Err c = no_text_fails c.args.kind c.args.at c.args.string.now c.new.result c.in-Err.ensures.cases.0 c.new.ensures
