use Rattle.std.proofs.Common.{◌≡◌}
use Rattle.rows_walks.proofs.lazy.all_of.Goals as goal

pub loop-item-init : goal.loop-item-init
loop-item-init g c =
    let source : c.into_iter-item-iterator.result ≡ c.args.order = c.into_iter-item-iterator.ensures.into_iter_gives in
    record { can = rw source c.requires.callable; finite = rw source c.requires.finite }
