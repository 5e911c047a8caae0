use Rattle.jj_store_walks.proofs.LogOrders.{grouped_history_of, history_whole}
use Rattle.jj_store_walks.proofs.grouped.grouped_history.Goals as goal

pub group-requires : goal.group-requires
group-requires g c = record { child_first = history_whole (g.B.Backend.objects c.args.store.now) c.args.ids.now c.in_ok-commits.commits.items c.in_ok-commits.ensures.order }

pub returns-clause-order : goal.returns-clause-order
returns-clause-order g c =
    grouped_history_of (g.B.Backend.objects c.args.store.now) c.args.ids.now c.in_ok-commits.commits.items c.in_ok-commits.ensures.order _ c.in_ok-group.ensures
