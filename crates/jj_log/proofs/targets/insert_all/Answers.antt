use Rattle.std.proofs.Common.{take, get_or, ◌+◌}
use Rattle.std.proofs.lemmas.List.{take_more}
use Rattle.jj_log.proofs.Adding.{adds_more, adds_put}
use Rattle.jj_log.proofs.targets.insert_all.Goals as goal

pub loop-number-preserved : goal.loop-number-preserved
loop-number-preserved c =
    let numbers = c.args.numbers.now in
    let i = c.loop-number.number-index in
    adds_more (take (i + 1) numbers) (take i numbers) _ _ _ _ (take_more numbers i 0 c.loop-number-test.true) c.loop-number.invariant
    (adds_put c.loop-number.set c.insert.new.self (get_or numbers i 0) c.in_ok-insert.field-0 c.in_ok-insert.ensures.added c.in_ok-insert.ensures.keys)
