use Rattle.std.proofs.Common.{arith, subst}
use Rattle.jj_stores_tests.specs.MemoryStores.{by_id, has_id}
use Rattle.jj_stores_tests.proofs.Marking.{Marking, all_marked, all_views_marked, marking_next, marking_none, no_ids, nothing_left, visit_less}
use Rattle.jj_stores_tests.proofs.garbage.mark.Goals as goal

pub loop-id-init : goal.loop-id-init
loop-id-init c =
    marking_none (by_id c.args.operations.now.entries) c.args.pending.items (has_id c.new.result) (has_id c.new-2.result) (no_ids c.new.result c.new.ensures.empty) (no_ids c.new-2.result c.new-2.ensures.empty)

pub loop-id-smaller : goal.loop-id-smaller
loop-id-smaller c =
    visit_less c.args.operations.now.entries c.loop-id.pending.items c.pop.new.self.items c.visit.new.pending.items c.in-Some.id (has_id c.loop-id.marked.operations) (has_id c.visit.new.marked.operations)
    (has_id c.loop-id.marked.views) (has_id c.visit.new.marked.views) c.in-Some.ensures.items c.in_ok-visit.ensures

pub loop-id-preserved : goal.loop-id-preserved
loop-id-preserved c =
    marking_next (by_id c.args.operations.now.entries) c.args.pending.items c.loop-id.pending.items c.pop.new.self.items c.visit.new.pending.items c.in-Some.id (has_id c.loop-id.marked.operations)
    (has_id c.visit.new.marked.operations) (has_id c.loop-id.marked.views) (has_id c.visit.new.marked.views) c.in-Some.ensures.items c.in_ok-visit.ensures c.loop-id.invariant

pub returns-clause-operations : goal.returns-clause-operations
returns-clause-operations c =
    let operations = by_id c.args.operations.now.entries in
    all_marked operations c.args.pending.items (has_id c.loop-id.marked.operations) (has_id c.loop-id.marked.views)
    (subst (λ l. Marking operations c.args.pending.items l (has_id c.loop-id.marked.operations) (has_id c.loop-id.marked.views)) (nothing_left c.loop-id.pending.items (omega (arith, c.loop-id.pending.ok.0, c.in_default.ensures.cases.0))) c.loop-id.invariant)

pub returns-clause-views : goal.returns-clause-views
returns-clause-views c =
    let operations = by_id c.args.operations.now.entries in
    all_views_marked operations c.args.pending.items (has_id c.loop-id.marked.operations) (has_id c.loop-id.marked.views)
    (subst (λ l. Marking operations c.args.pending.items l (has_id c.loop-id.marked.operations) (has_id c.loop-id.marked.views)) (nothing_left c.loop-id.pending.items (omega (arith, c.loop-id.pending.ok.0, c.in_default.ensures.cases.0))) c.loop-id.invariant)
