use Rattle.std.proofs.Common.{refl, arith}
use Rattle.jj_program.proofs.LineFields.{found_in, none_in, rest_of}
use Rattle.jj_program.proofs.lines.field_len_from.Goals as goal

pub returns-in-Some : goal.returns-in-Some
returns-in-Some c =
    let bytes = c.args.bytes.now in
    let found = c.in-Some.ensures in
    found_in bytes c.args.near c.requires.within c.requires.none _ (rest_of bytes bytes c.args.near refl) c.in-Some.index found.0.high (λ j less. found.0.before j (omega arith) less) found.1

pub returns-in-None : goal.returns-in-None
returns-in-None c =
    let bytes = c.args.bytes.now in
    none_in bytes c.args.near c.requires.within c.requires.none _ (rest_of bytes bytes c.args.near refl) (λ j less. c.in-None.ensures j (omega arith) less)
