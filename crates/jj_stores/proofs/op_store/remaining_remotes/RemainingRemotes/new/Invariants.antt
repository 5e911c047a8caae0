-- The heap contains the first names of the remotes so far.
use Rattle.std.proofs.Common.{map, take}
use Rattle.std.specs.BinaryHeap.{heap_items, IsHeap}
use Rattle.jj_stores.specs.FirstNameHeap.{AreFirstNames, earlier_cmp, name_and_index}
use Rattle.jj_stores.proofs.op_store.remaining_remotes.RemainingRemotes.new.Given as goal

abbrev pub invariant-loop-remote_index : goal.invariant-loop-remote_index
invariant-loop-remote_index l = record {
  firsts : AreFirstNames (take l.remote_index l.remotes.items) (map name_and_index (heap_items l.firsts));
  heap : IsHeap (λ a b. earlier_cmp (name_and_index a) (name_and_index b)) (heap_items l.firsts);
}
