use Rattle.std.proofs.Common.{◌≡◌, ◌∙◌, ap, subst, sym}
use Rattle.std.proofs.lemmas.Result.{IfOk-weaker}
use Rattle.jj_paths.specs.Names.{path_of}
use Rattle.jj_matchers.specs.VisitSpecs.{IsSound}
use Rattle.jj_matchers.specs.MentionedNames.{MentionsOnly}
use Rattle.jj_matchers.specs.declared.matchers.sorted_visits.SortedVisit.{SortedVisit}
use Rattle.jj_matchers.specs.SortedVisits.{sorted_visit_spec}
use Rattle.jj_program.specs.SetCode.{made_by}
use Rattle.jj_program.specs.WalkCommand.{spec_of}
use Rattle.jj_program.proofs.SetVisits.{visited}
use Rattle.jj_program.proofs.file_set.matcher.SetMatcherMatcher.visit_sorted.Goals as goal

pub returns : goal.returns
returns c =
    let set = made_by c.args.self.now.code.items in
    let spec = spec_of set in
    let dir = path_of c.args.dir in
    let result = c.visit_by.result in
    let is : (visit : SortedVisit) → sorted_visit_spec visit ≡ (spec_of (made_by c.deref.result.now)).visits dir → sorted_visit_spec visit ≡ spec.visits dir = λ visit h. h ∙ ap (λ l. (spec_of (made_by l)).visits dir) c.deref.ensures.value in
    let weaker = IfOk-weaker result (λ visit. sorted_visit_spec visit ≡ (spec_of (made_by c.deref.result.now)).visits dir) in
    record {
      visit = weaker (λ visit. sorted_visit_spec visit ≡ spec.visits dir) is c.visit_by.ensures;
      sound = weaker (λ visit. IsSound spec.accepts spec.opens dir (sorted_visit_spec visit)) (λ visit h. subst (IsSound spec.accepts spec.opens dir) (sym (is visit h)) (visited dir set).0) c.visit_by.ensures;
      names = weaker (λ visit. MentionsOnly spec.names (sorted_visit_spec visit)) (λ visit h. subst (MentionsOnly spec.names) (sym (is visit h)) (visited dir set).1) c.visit_by.ensures;
    }
