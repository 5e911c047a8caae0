use Rattle.jj_stores_tests.proofs.IdMaps.{by_id-one}
use Rattle.jj_stores_tests.proofs.memory_op_store.MemoryOpStore.new.Goals as goal

pub invariant_of-result : goal.invariant_of-result
invariant_of-result c = record {
  has_root = rw c.root_operation_id.view_is (rw c.in_ok-clone.ensures.cases at (by_id-one _ _ _ c.in_ok-operations.ensures));
}
