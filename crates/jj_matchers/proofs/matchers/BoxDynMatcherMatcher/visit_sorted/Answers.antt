use Rattle.std.proofs.Common.{IfOk, subst}
use Rattle.jj_paths.specs.Names.{path_of}
use Rattle.jj_matchers.specs.MentionedNames.{MentionsOnly}
use Rattle.jj_matchers.specs.SortedVisits.{sorted_visit_spec}
use Rattle.jj_matchers.proofs.matchers.BoxDynMatcherMatcher.visit_sorted.Goals as goal

-- the called matcher is the one in the box
pub returns-clause-names : goal.returns-clause-names
returns-clause-names g c =
    subst (λ held. IfOk c.visit_sorted.result (λ visit. MentionsOnly ((goal.Matcher-dyn g held).mentioned held.1 (path_of c.args.dir)) (sorted_visit_spec visit)))
    c.deref_box-1.ensures.1 c.visit_sorted.ensures.1.1
