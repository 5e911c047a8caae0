use Rattle.jj_decode.proofs.ListItems.{ItemsRead}
use Rattle.jj_decode.proofs.lists.read_items.Given as goal

abbrev pub invariant-loop : goal.invariant-loop
invariant-loop g l = ItemsRead g.T.ContentHash.is_value g.T.ContentHash.content l.bytes l.start
    l.offset l.counter l.items.items
