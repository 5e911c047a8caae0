use Rattle.std.proofs.Common.{sym, ap, ◌∙◌}
use Rattle.std.specs.Ordering.{is_lt}
use Rattle.jj_decode.proofs.AscendingItems.{greatest_by_last}
use Rattle.jj_decode.proofs.hash_tables.is_greatest_member.Goals as goal

pub returns-in-Some : goal.returns-in-Some
returns-in-Some g c =
    greatest_by_last g.met.K.Ord.total c.args.members.now c.in-Some.last.now c.args.member.now
    c.is_lt.result (sym c.in-Some.ensures.value) c.requires (c.is_lt.ensures ∙ ap is_lt c.cmp.ensures)
