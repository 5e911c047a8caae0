use Rattle.jj_globs.proofs.GrammarParsed.{spelling_is_unique}
use Rattle.jj_globs.proofs.laws.spelling_is_unique.Goals as goal

pub returns : goal.returns
returns c = spelling_is_unique
