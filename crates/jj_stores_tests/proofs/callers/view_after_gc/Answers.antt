use Rattle.std.proofs.Common.{◌≡◌, inr, subst, ap, ◌∙◌}
use Rattle.std.proofs.lemmas.Result.{IfErr-weaker}
use Rattle.jj_stores.specs.ViewLaws.{view_eq}
use Rattle.jj_stores.specs.contracts.op_store.view.ViewEq.TheImpl.Laws.{laws-law}
use Rattle.jj_stores.specs.declared.op_store.operation.Operation.{Operation}
use Rattle.jj_stores_tests.proofs.KeptValues.{equal_read, failed_read, stored_at, view_kept}
use Rattle.jj_stores_tests.proofs.callers.view_after_gc.Goals as goal

pub returns-clause-view : goal.returns-clause-view
returns-clause-view g c =
    let operations = g.S.OpStore.operations in
    let views = g.S.OpStore.views in
    let id = c.in_ok-view_id.view_id in
    let written = c.in_ok-view_id.ensures.ok in
    let operation : Operation = record c.args.operation { view_id = c.in_ok-operation.field-0 } in
    let there = stored_at view_eq (views c.args.store.now) (views c.write_view.new.self) id c.args.view.now written in
    let kept = view_kept (operations c.write_view.new.self) (operations c.write_operation.new.self) c.in_ok-id.id operation c.in_ok-id.ensures.ok
    (g.S.OpStore.fixed c.write_operation.new.self).root_operation_id c.from_ref.result.now c.from_ref.ensures.value (g.S.OpStore.view_times c.write_operation.new.self) c.args.keep_newer (views c.write_operation.new.self) (views c.gc.new.self) c.gc.ensures.kept_views in
    let still = subst (λ i. views c.gc.new.self i ≡ views c.write_operation.new.self i) c.in_ok-operation.ensures.cases kept
    ∙ ap (λ m. m id) c.in_ok-id.ensures.same_views ∙ there in
    equal_read view_eq (g.S.OpStore.may_fail c.gc.new.self) (views c.gc.new.self id) written.0 still laws-law c.args.view.now written.1 c.read_view.result c.read_view.ensures

pub returns-clause-error : goal.returns-clause-error
returns-clause-error g c =
    let operations = g.S.OpStore.operations in
    let views = g.S.OpStore.views in
    let id = c.in_ok-view_id.view_id in
    let written = c.in_ok-view_id.ensures.ok in
    let operation : Operation = record c.args.operation { view_id = c.in_ok-operation.field-0 } in
    let there = stored_at view_eq (views c.args.store.now) (views c.write_view.new.self) id c.args.view.now written in
    let kept = view_kept (operations c.write_view.new.self) (operations c.write_operation.new.self) c.in_ok-id.id operation c.in_ok-id.ensures.ok
    (g.S.OpStore.fixed c.write_operation.new.self).root_operation_id c.from_ref.result.now c.from_ref.ensures.value (g.S.OpStore.view_times c.write_operation.new.self) c.args.keep_newer (views c.write_operation.new.self) (views c.gc.new.self) c.gc.ensures.kept_views in
    let still = subst (λ i. views c.gc.new.self i ≡ views c.write_operation.new.self i) c.in_ok-operation.ensures.cases kept
    ∙ ap (λ m. m id) c.in_ok-id.ensures.same_views ∙ there in
    IfErr-weaker c.read_view.result (g.S.OpStore.may_fail c.gc.new.self) _ (λ e h. inr (c.gc.new.self, h))
    (failed_read view_eq (g.S.OpStore.may_fail c.gc.new.self) (views c.gc.new.self id) written.0 still c.read_view.result c.read_view.ensures)
