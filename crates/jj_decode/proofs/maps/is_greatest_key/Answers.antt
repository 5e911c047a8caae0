use Rattle.std.proofs.Common.{◌-◌, length, ap, ◌∙◌}
use Rattle.std.specs.Ordering.{is_lt}
use Rattle.jj_decode.proofs.AscendingItems.{greater_by_last}
use Rattle.jj_decode.proofs.maps.is_greatest_key.Goals as goal

pub returns-in-Some : goal.returns-in-Some
returns-in-Some g c =
    greater_by_last g.met.K.Ord.total c.args.map.now.entries
    (c.in-Some.last.now, c.in-Some.field-0-1.now) c.args.key.now (length c.args.map.now.entries - 1)
    c.is_lt.result
    c.in-Some.ensures.last c.in-Some.ensures.all_up_to (c.is_lt.ensures ∙ ap is_lt c.cmp.ensures)
