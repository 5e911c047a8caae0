use Rattle.std.proofs.Common.{rules}
use Rattle.jj_matchers.proofs.matchers.globs_matcher.patterns_at.Goals as goal

pub clone-requires : goal.clone-requires
clone-requires c = search rules

pub default-requires : goal.default-requires
default-requires c = search rules

pub returns-in-Some : goal.returns-in-Some
returns-in-Some c = search rules

pub returns-in-None : goal.returns-in-None
returns-in-None c = search rules
