use Rattle.jj_program.proofs.SetVisits.{combine_two}
use Rattle.jj_program.proofs.file_set.matcher.combine_top.Goals as goal

pub returns-in_ok-push : goal.returns-in_ok-push
returns-in_ok-push c = λ dir earlier h.
    combine_two dir c.args.combination earlier c.in-Some.second c.in-Some-pop.first c.in_ok-combined_visit.field-0 c.args.visits.now.items c.pop.new.self.items c.pop-in-Some.new.self.items c.push.new.self.items c.in-Some.ensures.items
    c.in-Some-pop.ensures.items c.in_ok-push.ensures.items c.in_ok-combined_visit.ensures h
