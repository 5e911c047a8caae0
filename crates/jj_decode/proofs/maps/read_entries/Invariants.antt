use Rattle.std.specs.List.Sorted.{IsStrictlySortedBy}
use Rattle.std.specs.Map.{keys_of}
use Rattle.jj_content.specs.Content.{entry_content}
use Rattle.jj_decode.specs.Decoding.{AreBoth}
use Rattle.jj_decode.proofs.ListItems.{ItemsRead}
use Rattle.jj_decode.proofs.maps.read_entries.Given as goal

abbrev pub invariant-loop : goal.invariant-loop
invariant-loop g l = record {
  items_read : ItemsRead (AreBoth g.K.ContentHash.is_value g.V.ContentHash.is_value)
      (entry_content g.K.ContentHash.content g.V.ContentHash.content) l.bytes l.start l.offset
      l.counter l.map.entries;
  ordered : IsStrictlySortedBy g.K.Ord.cmp (keys_of l.map.entries);
}
