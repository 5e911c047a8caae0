use Rattle.contracts_walks.proofs.acyclic.preorder.Goals as goal

pub loop-item-init : goal.loop-item-init
loop-item-init g c = record { can = rw c.into_iter-item-iterator.ensures.into_iter_gives c.in_ok-walk.ensures.can_walk; nodes = rw c.new-nodes.ensures.items }

pub returns : goal.returns
returns g c =
    let run = rw (c.into_iter-item-iterator.ensures.into_iter_gives, c.loop-item.invariant.nodes) at c.loop-item.yielded_by in
    c.dfs_yields_preorder.ensures c.args.start c.args.id_fn c.args.neighbors_fn c.in_ok-walk.walk c.loop-item.nodes.items
    c.in_ok-walk.ensures.walk (c.next.new.self, (c.loop-item.item-iterator, run, c.in-None.ensures.steps))
