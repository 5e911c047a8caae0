-- The results of the ids so far.
use Rattle.std.proofs.Common.{take}
use Rattle.std.specs.List.{AllZip}
use Rattle.jj_store_walks.specs.ReadResults.{IsReadOf}
use Rattle.jj_store_walks.proofs.reads.read_each.Given as goal

abbrev pub invariant-loop-id : goal.invariant-loop-id
invariant-loop-id g l = record {
  reads : AllZip (IsReadOf (g.B.Backend.may_fail l.store) (g.B.Backend.objects l.store)) (take l.id-index l.ids) l.results.items;
}
