use Rattle.std.proofs.Common.{sym, subst}
use Rattle.jj_paths.specs.Names.{path_of}
use Rattle.jj_matchers.specs.VisitSpecs.{IsSound}
use Rattle.jj_matchers.specs.MentionedNames.{MentionsOnly}
use Rattle.jj_matchers.specs.SortedVisits.{sorted_visit_spec}
use Rattle.jj_matchers.proofs.Combined.{less, difference_sound}
use Rattle.jj_matchers.proofs.MentionedNames.{difference_chooses}
use Rattle.jj_matchers.proofs.matchers.difference_matcher.DifferenceMatcherMatcher.visit_sorted.Goals as goal

pub returns-clause-sound : goal.returns-clause-sound
returns-clause-sound g c =
    let dir = path_of c.args.dir in
    let m = c.args.self.now in
    let accepts = less (g.M1.Matcher.accepts m.wanted) (g.M2.Matcher.accepts m.unwanted) in
    subst (IsSound accepts (g.M1.Matcher.opens m.wanted) dir) (sym c.difference_visit.ensures)
    (difference_sound (g.M1.Matcher.accepts m.wanted) (g.M2.Matcher.accepts m.unwanted) (g.M1.Matcher.opens m.wanted) (g.M2.Matcher.opens m.unwanted) dir (sorted_visit_spec c.in_ok-wanted.wanted) (sorted_visit_spec c.in_ok-unwanted.unwanted)
    c.in_ok-wanted.ensures.sound c.in_ok-unwanted.ensures.sound)

pub returns-clause-names : goal.returns-clause-names
returns-clause-names g c =
    let names = g.M1.Matcher.mentioned c.args.self.now.wanted (path_of c.args.dir) in
    subst (MentionsOnly names) (sym c.difference_visit.ensures)
    (difference_chooses names (sorted_visit_spec c.in_ok-wanted.wanted) (sorted_visit_spec c.in_ok-unwanted.unwanted) c.in_ok-wanted.ensures.names)
