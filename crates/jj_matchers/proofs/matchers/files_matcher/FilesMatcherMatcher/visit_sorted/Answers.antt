use Rattle.std.proofs.Common.{refl}
use Rattle.std.proofs.lemmas.Result.{IfOk-weaker}
use Rattle.jj_paths.specs.Names.{path_of}
use Rattle.jj_matchers.specs.SortedVisits.{sorted_visit_spec}
use Rattle.jj_matchers.proofs.MentionedNames.{files_visit}
use Rattle.jj_matchers.proofs.matchers.files_matcher.FilesMatcherMatcher.visit_sorted.Goals as goal

pub returns-clause-sound : goal.returns-clause-sound
returns-clause-sound c =
    IfOk-weaker _ _ _ (λ visit is. (files_visit c.args.self.now c.args.self.now (path_of c.args.dir) (sorted_visit_spec visit) refl is).1) c.compute_visit.ensures

pub returns-clause-names : goal.returns-clause-names
returns-clause-names c =
    IfOk-weaker _ _ _ (λ visit is. (files_visit c.args.self.now c.args.self.now (path_of c.args.dir) (sorted_visit_spec visit) refl is).2) c.compute_visit.ensures
