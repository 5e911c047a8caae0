use Rattle.std.proofs.Common.{rules}
use Rattle.std.specs.Prelude.{string_bytes}
use Rattle.jj_log.proofs.Interning.{parents_more}
use Rattle.jj_log.proofs.numbering.number_parents.Goals as goal

pub loop-name-preserved : goal.loop-name-preserved
loop-name-preserved c =
    parents_more string_bytes c.args.numbers.now c.loop-name.numbers c.number_of.new.numbers c.args.names.now c.loop-name.name-index c.name-item.result c.as_str.result.now c.loop-name.parents.items
    c.push.new.self.items c.in_ok-number_of.field-0 c.loop-name-test.true c.name-item.is (search rules) (search rules) c.loop-name.invariant c.in_ok-number_of.ensures
