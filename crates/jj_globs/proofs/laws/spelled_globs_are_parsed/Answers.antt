use Rattle.jj_globs.proofs.GrammarParsed.{spelled_globs_are_parsed}
use Rattle.jj_globs.proofs.laws.spelled_globs_are_parsed.Goals as goal

pub returns : goal.returns
returns c = spelled_globs_are_parsed
