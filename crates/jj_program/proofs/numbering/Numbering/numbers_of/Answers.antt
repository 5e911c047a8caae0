use Rattle.std.proofs.Common.{arith, ◌<◌, ◌∙◌, length}
use Rattle.std.specs.List.{Contains}
use Rattle.std.proofs.lemmas.List.Elements.{All-get_or}
use Rattle.jj_program.specs.Parts.{id_of}
use Rattle.jj_program.proofs.NumberedWalks.{id_within, named_more}
use Rattle.jj_program.proofs.numbering.Numbering.numbers_of.Goals as goal

pub loop-id-preserved : goal.loop-id-preserved
loop-id-preserved c =
    let names = c.args.self.now.ids.items in
    let i = c.loop-id.id-index in
    let within : i < length c.args.ids.now = omega arith in
    let (inside, at) = c.number-number.ensures (All-get_or (Contains names) c.args.ids.now i 0 within c.requires) in
    named_more (id_of names) c.loop-id.numbers.items c.push.new.self.items c.number-number.result c.args.ids.now i within c.loop-id.invariant c.in_ok-push.ensures.items (id_within names c.number-number.result inside ∙ at)
