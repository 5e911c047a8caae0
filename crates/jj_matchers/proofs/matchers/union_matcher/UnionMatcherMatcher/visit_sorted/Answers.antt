use Rattle.std.proofs.Common.{◌++◌, sym, subst}
use Rattle.std.proofs.lemmas.Result.{IfOk-weaker}
use Rattle.jj_paths.specs.Names.{path_of}
use Rattle.jj_matchers.specs.VisitSpecs.{IsSound}
use Rattle.jj_matchers.specs.MentionedNames.{MentionsOnly}
use Rattle.jj_matchers.specs.SortedVisits.{sorted_visit_spec}
use Rattle.jj_matchers.proofs.Combined.{either, union_sound}
use Rattle.jj_matchers.proofs.MentionedNames.{chosen_left, chosen_right, union_chooses}
use Rattle.jj_matchers.proofs.matchers.union_matcher.UnionMatcherMatcher.visit_sorted.Goals as goal

pub returns-clause-sound : goal.returns-clause-sound
returns-clause-sound g c =
    let dir = path_of c.args.dir in
    let one = c.args.self.now.input1 in
    let two = c.args.self.now.input2 in
    let accepts = either (g.M1.Matcher.accepts one) (g.M2.Matcher.accepts two) in
    let opens = either (g.M1.Matcher.opens one) (g.M2.Matcher.opens two) in
    let sound = union_sound (g.M1.Matcher.accepts one) (g.M2.Matcher.accepts two) (g.M1.Matcher.opens one) (g.M2.Matcher.opens two) dir (sorted_visit_spec c.in_ok-first.first) (sorted_visit_spec c.in_ok-second.second)
    c.in_ok-first.ensures.sound c.in_ok-second.ensures.sound in
    IfOk-weaker c.union_visit.result _ _ (λ visit is. subst (IsSound accepts opens dir) (sym is) sound) c.union_visit.ensures

pub returns-clause-names : goal.returns-clause-names
returns-clause-names g c =
    let dir = path_of c.args.dir in
    let ours = g.M1.Matcher.mentioned c.args.self.now.input1 dir in
    let theirs = g.M2.Matcher.mentioned c.args.self.now.input2 dir in
    let first = sorted_visit_spec c.in_ok-first.first in
    let second = sorted_visit_spec c.in_ok-second.second in
    let names = union_chooses (ours ++ theirs) first second (chosen_left ours theirs first c.in_ok-first.ensures.names) (chosen_right ours theirs second c.in_ok-second.ensures.names) in
    IfOk-weaker c.union_visit.result _ _ (λ visit is. subst (MentionsOnly (ours ++ theirs)) (sym is) names) c.union_visit.ensures
