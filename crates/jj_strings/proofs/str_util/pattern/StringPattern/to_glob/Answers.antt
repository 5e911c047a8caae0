use Rattle.jj_strings.specs.PatternViews.{pattern_of}
use Rattle.jj_strings.proofs.EquivalentGlobs.{reads_back_ok}
use Rattle.jj_strings.proofs.str_util.pattern.StringPattern.to_glob.Goals as goal

pub returns-clause-set : goal.returns-clause-set
returns-clause-set c = reads_back_ok (pattern_of c.args.self.now) c.as_glob_text.result c.as_glob_text.ensures
