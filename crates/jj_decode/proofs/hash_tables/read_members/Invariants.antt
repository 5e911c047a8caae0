use Rattle.std.specs.List.Sorted.{IsStrictlySortedBy}
use Rattle.jj_decode.proofs.ListItems.{ItemsRead}
use Rattle.jj_decode.proofs.hash_tables.read_members.Given as goal

abbrev pub invariant-loop : goal.invariant-loop
invariant-loop g l = record {
  items_read : ItemsRead g.K.ContentHash.is_value g.K.ContentHash.content l.bytes l.start l.offset
      l.counter l.members.items;
  ordered : IsStrictlySortedBy g.K.Ord.cmp l.members.items;
}
