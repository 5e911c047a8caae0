use Rattle.std.proofs.Common.{sym, subst}
use Rattle.std.proofs.lemmas.Result.{IfOk-weaker}
use Rattle.jj_paths.specs.Names.{path_of}
use Rattle.jj_matchers.specs.SortedVisits.{sorted_visit_spec}
use Rattle.jj_matchers.specs.MentionedNames.{MentionsOnly, names_of}
use Rattle.jj_matchers.specs.Patterns.{pattern_dirs}
use Rattle.jj_matchers.proofs.PatternSound.{patterns_choose, sound_visit}
use Rattle.jj_matchers.proofs.matchers.globs_matcher.GlobsMatcherMatcher.visit_sorted.Goals as goal

pub returns-clause-sound : goal.returns-clause-sound
returns-clause-sound c =
    IfOk-weaker c.compute_visit.result _ _ (λ visit is. sound_visit c.args.self.now (path_of c.args.dir) (sorted_visit_spec visit) is) c.compute_visit.ensures

pub returns-clause-names : goal.returns-clause-names
returns-clause-names c =
    let set = c.args.self.now in
    let names = patterns_choose set (path_of c.args.dir) in
    IfOk-weaker c.compute_visit.result _ _ (λ visit is. subst (MentionsOnly (names_of (pattern_dirs set))) {y = sorted_visit_spec visit} (sym is) names) c.compute_visit.ensures
