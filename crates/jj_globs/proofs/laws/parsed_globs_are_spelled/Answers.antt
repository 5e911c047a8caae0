use Rattle.jj_globs.proofs.GrammarSpelled.{parsed_globs_are_spelled}
use Rattle.jj_globs.proofs.laws.parsed_globs_are_spelled.Goals as goal

pub returns : goal.returns
returns c = parsed_globs_are_spelled
