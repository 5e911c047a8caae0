use Rattle.jj_stores.specs.OperationLaws.{operation_eq}
use Rattle.jj_stores_tests.proofs.KeptValues.{missing_fails}
use Rattle.jj_stores_tests.proofs.callers.read_collected.Goals as goal

pub returns : goal.returns
returns g c = missing_fails operation_eq (g.S.OpStore.may_fail c.gc.new.self) (g.S.OpStore.operations c.gc.new.self c.args.id.now) c.read_operation.result (c.in_ok-gc.ensures.only_operations c.args.id.now c.requires)
    c.read_operation.ensures
