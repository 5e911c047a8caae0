use Rattle.std.proofs.Common.{◌∙◌, ap, sym}
use Rattle.std.proofs.lemmas.Result.{IfOk-weaker}
use Rattle.jj_matchers.specs.SortedVisits.{sorted_visit_spec}
use Rattle.jj_program.specs.WalkCommand.{combined_spec, spec_of}
use Rattle.jj_program.proofs.SetVisits.{met}
use Rattle.jj_program.proofs.file_set.matcher.combined_visit.Goals as goal

pub returns-in-Intersection : goal.returns-in-Intersection
returns-in-Intersection c =
    IfOk-weaker c.intersection_visit.result _ _
    (λ visit combined dir one two is_first is_second.
    met dir one two (sorted_visit_spec c.args.first) (sorted_visit_spec c.args.second) (sorted_visit_spec visit) is_first is_second combined
    ∙ sym (ap (λ k. (combined_spec k (spec_of one) (spec_of two)).visits dir) c.in-Intersection.is))
    c.intersection_visit.ensures
