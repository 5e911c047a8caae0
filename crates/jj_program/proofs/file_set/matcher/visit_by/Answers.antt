use Rattle.std.proofs.Common.{◌≡◌, ◌∙◌, ◌∷◌, ◌<◌, ◌-◌, suc, ap, sym, arith, drop, drop-cons, length}
use Rattle.std.proofs.lemmas.List.{nil_from_length}
use Rattle.jj_paths.specs.Names.{path_of}
use Rattle.jj_program.specs.SetCode.{visits_at}
use Rattle.jj_program.proofs.SetVisits.{visit_top, visit_none}
use Rattle.jj_program.proofs.file_set.matcher.visit_by.Goals as goal

pub loop-left-preserved : goal.loop-left-preserved
loop-left-preserved c =
    let code = c.args.code.now in
    let dir = path_of c.args.dir in
    let left = c.loop-left.left - 1 in
    let op = c.index-code-left.result in
    let more = c.loop-left-test.true in
    let bound = c.loop-left.invariant.within in
    let within : left < length code = omega (arith, bound, more) in
    let next : c.loop-left.left ≡ suc left = omega (arith, more) in
    let whole : op ∷ drop (suc left) code ≡ drop left code = ap (λ x. x ∷ drop (suc left) code) c.index-code-left.is ∙ sym (drop-cons code left op within) in
    record {
      within = omega (arith, bound, more);
      visits = c.in_ok-visit_step.ensures (drop (suc left) code) (c.loop-left.invariant.visits ∙ ap (λ n. visits_at dir (drop n code)) next) ∙ ap (visits_at dir) whole;
    }

pub returns-in-Some : goal.returns-in-Some
returns-in-Some c =
    let code = c.args.code.now in
    let dir = path_of c.args.dir in
    let done = c.loop-left-test.false in
    let none : c.loop-left.left ≡ 0 = omega (arith, done) in
    visit_top dir code c.loop-left.visits.items c.pop.new.self.items c.in-Some.visit c.in-Some.ensures.items (c.loop-left.invariant.visits ∙ ap (λ n. visits_at dir (drop n code)) none)

pub returns : goal.returns
returns c =
    let code = c.args.code.now in
    let dir = path_of c.args.dir in
    let done = c.loop-left-test.false in
    let none : c.loop-left.left ≡ 0 = omega (arith, done) in
    visit_none dir code c.loop-left.visits.items (nil_from_length c.loop-left.visits.items (sym c.loop-left.visits.ok.0 ∙ c.in-None.ensures.cases.0)) (c.loop-left.invariant.visits ∙ ap (λ n. visits_at dir (drop n code)) none)
