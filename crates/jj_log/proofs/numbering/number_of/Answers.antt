use Rattle.std.proofs.Common.{rules, ◌≡◌, None}
use Rattle.std.specs.BTreeMap.{get}
use Rattle.jj_log.specs.Numbering.{name_cmp}
use Rattle.jj_log.proofs.Interning.{interns_new}
use Rattle.jj_log.proofs.numbering.number_of.Goals as goal

pub returns : goal.returns
returns c =
    let old = c.args.numbers.now in
    let none : get name_cmp old c.args.name ≡ None = search rules in
    interns_new old c.insert.new.self c.args.name c.len-number.result none (search rules) (search rules) (search rules)
