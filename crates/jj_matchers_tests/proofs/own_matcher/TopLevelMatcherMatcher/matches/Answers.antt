use Rattle.std.proofs.Common.{ap, sym, ◌∙◌}
use Rattle.jj_matchers_tests.specs.TopLevel.{starts_among}
use Rattle.jj_matchers_tests.proofs.own_matcher.TopLevelMatcherMatcher.matches.Goals as goal

pub returns-in-None : goal.returns-in-None
returns-in-None c = sym (ap (starts_among c.args.self.now.names.keys) c.in-None.ensures)

pub returns-in-Some : goal.returns-in-Some
returns-in-Some c = c.has.ensures ∙ sym (ap (starts_among c.args.self.now.names.keys) c.in-Some.ensures)
