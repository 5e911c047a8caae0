use Rattle.std.proofs.Common.{◌≡◌, ◌++◌, List, sym, subst, ap, ◌∙◌}
use Rattle.std.proofs.lemmas.Result.{IfOk-weaker}
use Rattle.jj_paths.specs.Names.{path_of}
use Rattle.jj_paths.specs.Paths.{Name}
use Rattle.jj_matchers.specs.declared.matchers.sorted_visits.SortedVisit.{SortedVisit}
use Rattle.jj_matchers.specs.VisitSpecs.{IsSound, VisitSpec}
use Rattle.jj_matchers.specs.Combined.{intersection_spec}
use Rattle.jj_matchers.specs.MentionedNames.{MentionsOnly}
use Rattle.jj_matchers.specs.SortedVisits.{sorted_visit_spec}
use Rattle.jj_matchers.proofs.Combined.{both, intersection_sound}
use Rattle.jj_matchers.proofs.MentionedNames.{chosen_left, chosen_right, intersection_chooses}
use Rattle.jj_matchers.proofs.matchers.intersection_matcher.IntersectionMatcherMatcher.visit_sorted.Goals as goal

-- the visit is the intersection, for all names that both mention
abbrev IsCombined : VisitSpec → VisitSpec → VisitSpec → Type 0
IsCombined first second visit = (names : List Name) → MentionsOnly names first → MentionsOnly names second → visit ≡ intersection_spec names first second

pub returns : goal.returns
returns g c =
    let dir = path_of c.args.dir in
    let one = c.args.self.now.input1 in
    let two = c.args.self.now.input2 in
    let ours = g.M1.Matcher.mentioned one dir in
    let theirs = g.M2.Matcher.mentioned two dir in
    let names = ours ++ theirs in
    let first = sorted_visit_spec c.in_ok-first.first in
    let second = sorted_visit_spec c.in_ok-second.second in
    let a = c.in_ok-first.ensures in
    let b = c.in_ok-second.ensures in
    let from_first = chosen_left ours theirs first a.names in
    let from_second = chosen_right ours theirs second b.names in
    let accepts = both (g.M1.Matcher.accepts one) (g.M2.Matcher.accepts two) in
    let opens = both (g.M1.Matcher.opens one) (g.M2.Matcher.opens two) in
    let is : (visit : SortedVisit) → IsCombined first second (sorted_visit_spec visit) → sorted_visit_spec visit ≡ intersection_spec names first second = λ visit combined. combined names from_first from_second in
    let sound = intersection_sound (g.M1.Matcher.accepts one) (g.M2.Matcher.accepts two) (g.M1.Matcher.opens one) (g.M2.Matcher.opens two) dir names first second a.sound b.sound from_first from_second in
    let weaker = IfOk-weaker c.intersection_visit.result (λ visit. IsCombined first second (sorted_visit_spec visit)) in
    record {
      visit = weaker _ (λ visit h. is visit h ∙ ap (λ x. intersection_spec names x second) a.visit ∙ ap (intersection_spec names (g.M1.Matcher.visits one dir)) b.visit) c.intersection_visit.ensures;
      sound = weaker (λ visit. IsSound accepts opens dir (sorted_visit_spec visit)) (λ visit h. subst (IsSound accepts opens dir) (sym (is visit h)) sound) c.intersection_visit.ensures;
      names = weaker (λ visit. MentionsOnly names (sorted_visit_spec visit)) (λ visit h. subst (MentionsOnly names) (sym (is visit h)) (intersection_chooses names first second from_first from_second)) c.intersection_visit.ensures;
    }
