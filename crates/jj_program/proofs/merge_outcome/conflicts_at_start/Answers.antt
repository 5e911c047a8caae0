use Rattle.std.proofs.Common.{◌∙◌, ◌<◌, [], arith, get_or, sym}
use Rattle.std.proofs.lemmas.Bool.{ltb-true}
use Rattle.jj_merges.proofs.ResolutionScan.{is_keep}
use Rattle.jj_program.specs.Lines.{Text}
use Rattle.jj_program.proofs.SideDecisions.{kept_removed, two_added}
use Rattle.jj_program.proofs.merge_outcome.conflicts_at_start.Goals as goal

-- the default value out of range
abbrev no_text : Text
no_text = record { ref_ptr = (0, 0); now = [] }

pub returns-then-adds-removes : goal.returns-then-adds-removes
returns-then-adds-removes c _ =
    let terms = c.args.terms.now in
    kept_removed terms c.args.same_change (get_or terms 1 no_text) (is_keep c.args.same_change (sym c.eq.ensures ∙ c.if-eq.true))
    (omega (arith, c.if-adds-removes.true, c.count_of-adds.ensures.adds, c.count_of-adds.ensures.removes))

pub returns : goal.returns
returns c more =
    let terms = c.args.terms.now in
    let next : c.count_of-next_adds.result.1 < c.count_of-next_adds.result.0 = ltb-true _ _ more in
    two_added terms c.args.same_change (get_or terms 0 no_text) (get_or terms 2 no_text)
    (sym c.eq-2.ensures ∙ c.if-eq-2.false)
    (omega (arith, c.if-first_adds-first_removes.false, c.count_of-first_adds.ensures.adds, c.count_of-first_adds.ensures.removes))
    (omega (arith, next, c.count_of-next_adds.ensures.adds, c.count_of-next_adds.ensures.removes))
