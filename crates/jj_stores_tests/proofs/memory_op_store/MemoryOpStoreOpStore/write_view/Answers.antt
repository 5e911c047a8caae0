use Rattle.jj_stores_tests.specs.MemoryStores.{by_id}
use Rattle.jj_stores_tests.proofs.IdMaps.{by_id-insert}
use Rattle.jj_stores_tests.proofs.Sweeping.{time_set}
use Rattle.jj_stores_tests.proofs.memory_op_store.MemoryOpStoreOpStore.write_view.Goals as goal

pub returns-clause-time : goal.returns-clause-time
returns-clause-time c =
    time_set c.insert_object.result c.in_ok-id.id (by_id c.args.self.now.view_times.entries) (by_id c.insert.new.self.entries) c.args.self.now.now c.insert_object.ensures.same_id
    (rw c.in_ok-clone.ensures.cases at (by_id-insert c.args.self.now.view_times c.insert.new.self c.in_ok-clone.field-0 c.args.self.now.now c.in_ok-insert.ensures.updates))
