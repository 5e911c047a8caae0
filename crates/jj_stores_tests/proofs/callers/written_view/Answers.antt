use Rattle.std.proofs.Common.{inr}
use Rattle.std.proofs.lemmas.Result.{IfErr-weaker}
use Rattle.jj_stores.specs.ViewLaws.{view_eq}
use Rattle.jj_stores.specs.contracts.op_store.view.ViewEq.TheImpl.Laws.{laws-law}
use Rattle.jj_stores_tests.proofs.KeptValues.{equal_read, failed_read, stored_at}
use Rattle.jj_stores_tests.proofs.callers.written_view.Goals as goal

pub returns-clause-view : goal.returns-clause-view
returns-clause-view g c =
    let views = g.S.OpStore.views in
    let id = c.in_ok-id.id in
    let written = c.in_ok-id.ensures.ok in
    let there = stored_at view_eq (views c.args.store.now) (views c.write_view.new.self) id c.args.view.now written in
    equal_read view_eq (g.S.OpStore.may_fail c.write_view.new.self) (views c.write_view.new.self id) written.0 there laws-law c.args.view.now written.1
    c.read_view.result c.read_view.ensures

pub returns-clause-error : goal.returns-clause-error
returns-clause-error g c =
    let views = g.S.OpStore.views in
    let id = c.in_ok-id.id in
    let written = c.in_ok-id.ensures.ok in
    let there = stored_at view_eq (views c.args.store.now) (views c.write_view.new.self) id c.args.view.now written in
    IfErr-weaker c.read_view.result (g.S.OpStore.may_fail c.write_view.new.self) _ (λ e. inr)
    (failed_read view_eq (g.S.OpStore.may_fail c.write_view.new.self) (views c.write_view.new.self id) written.0 there c.read_view.result c.read_view.ensures)
