use Rattle.std.proofs.Common.{inr}
use Rattle.std.proofs.lemmas.List.Elements.{Contains-push}
use Rattle.std.proofs.lemmas.Result.{IfErr-weaker}
use Rattle.std.specs.Prelude.{Contains}
use Rattle.jj_stores.specs.OperationLaws.{operation_eq}
use Rattle.jj_stores.specs.contracts.op_store.operation.OperationEq.TheImpl.Laws.{laws-law}
use Rattle.jj_stores.specs.declared.op_store.operation.Operation.{Operation}
use Rattle.jj_stores_tests.proofs.KeptValues.{equal_read, failed_read, parent_kept, stored_at}
use Rattle.jj_stores_tests.proofs.callers.parent_after_gc.Goals as goal

pub returns-clause-parent : goal.returns-clause-parent
returns-clause-parent g c =
    let operations = g.S.OpStore.operations in
    let id = c.in_ok-parent_id.parent_id in
    let written = c.in_ok-parent_id.ensures.ok in
    let child : Operation = record c.args.child { parents = c.push.new.self } in
    let among : Contains child.parents.items id = rw (c.in_ok-push.ensures.items, c.in_ok-clone.ensures.cases) (Contains-push c.args.child.parents.items id) in
    let there = stored_at operation_eq (operations c.args.store.now) (operations c.write_operation.new.self) id c.args.parent.now written in
    let kept = parent_kept (operations c.write_operation.new.self) (operations c.write_operation-2.new.self) c.in_ok-id.id child c.in_ok-id.ensures.ok
    (g.S.OpStore.fixed c.write_operation-2.new.self).root_operation_id c.from_ref.result.now c.from_ref.ensures.value (g.S.OpStore.operation_times c.write_operation-2.new.self) c.args.keep_newer
    (operations c.gc.new.self) c.gc.ensures.kept_operations id written.0 among there in
    equal_read operation_eq (g.S.OpStore.may_fail c.gc.new.self) (operations c.gc.new.self id) written.0 kept laws-law c.args.parent.now written.1
    c.read_operation.result c.read_operation.ensures

pub returns-clause-error : goal.returns-clause-error
returns-clause-error g c =
    let operations = g.S.OpStore.operations in
    let id = c.in_ok-parent_id.parent_id in
    let written = c.in_ok-parent_id.ensures.ok in
    let child : Operation = record c.args.child { parents = c.push.new.self } in
    let among : Contains child.parents.items id = rw (c.in_ok-push.ensures.items, c.in_ok-clone.ensures.cases) (Contains-push c.args.child.parents.items id) in
    let there = stored_at operation_eq (operations c.args.store.now) (operations c.write_operation.new.self) id c.args.parent.now written in
    let kept = parent_kept (operations c.write_operation.new.self) (operations c.write_operation-2.new.self) c.in_ok-id.id child c.in_ok-id.ensures.ok
    (g.S.OpStore.fixed c.write_operation-2.new.self).root_operation_id c.from_ref.result.now c.from_ref.ensures.value (g.S.OpStore.operation_times c.write_operation-2.new.self) c.args.keep_newer
    (operations c.gc.new.self) c.gc.ensures.kept_operations id written.0 among there in
    IfErr-weaker c.read_operation.result (g.S.OpStore.may_fail c.gc.new.self) _ (λ e h. inr (c.gc.new.self, h))
    (failed_read operation_eq (g.S.OpStore.may_fail c.gc.new.self) (operations c.gc.new.self id) written.0 kept c.read_operation.result c.read_operation.ensures)
