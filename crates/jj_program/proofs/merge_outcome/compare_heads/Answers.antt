use Rattle.std.proofs.Common.{◌∙◌, [], arith, get_or, sym}
use Rattle.jj_program.specs.Lines.{Text}
use Rattle.jj_program.proofs.SortedSides.{unmatched_below, matched, above_from_greater}
use Rattle.jj_program.proofs.merge_outcome.compare_heads.Goals as goal

-- the default value out of range
abbrev no_text : Text
no_text = record { ref_ptr = (0, 0); now = [] }

pub returns-clause-less : goal.returns-clause-less
returns-clause-less c less =
    unmatched_below c.args.adds.now c.args.i c.args.removes.now c.args.j no_text (omega arith)
    c.requires.removes (sym c.cmp.ensures ∙ less)

pub returns-clause-equal : goal.returns-clause-equal
returns-clause-equal c level =
    matched c.args.adds.now c.args.i c.args.removes.now c.args.j no_text (omega arith) (omega arith)
    (sym c.cmp.ensures ∙ level)

pub returns-clause-greater : goal.returns-clause-greater
returns-clause-greater c greater =
    let adds = c.args.adds.now in
    let removes = c.args.removes.now in
    unmatched_below removes c.args.j adds c.args.i no_text (omega arith) c.requires.adds
    (above_from_greater (get_or adds c.args.i no_text) (get_or removes c.args.j no_text)
    (sym c.cmp.ensures ∙ greater))
