use Rattle.std.proofs.Common.{rules, [], refl, subst}
use Rattle.jj_store_walks.specs.Logs.{AreLogItems}
use Rattle.jj_walks.proofs.Callers.{vec_drained}
use Rattle.jj_store_walks.proofs.LogOrders.{items_push}
use Rattle.jj_store_walks.proofs.grouped.log_items.Goals as goal

pub loop-commit-init : goal.loop-commit-init
loop-commit-init c = record { can = search rules; finite = search rules; items = ([], c.new-items.ensures.items, refl) }

pub loop-commit-preserved : goal.loop-commit-preserved
loop-commit-preserved c =
    record {
      can = search rules;
      finite = search rules;
      items = items_push c.loop-commit.yielded c.loop-commit.items.items _ c.in-Some.commit c.in_ok-edges.edges c.in_ok-push.ensures.items c.in_ok-edges.ensures c.loop-commit.invariant.items;
    }

pub returns : goal.returns
returns c =
    let all = vec_drained c.args.commits c.loop-commit.yielded (c.into_iter-commit-iterator.result, (search rules, search rules), (c.next.new.self, (c.loop-commit.commit-iterator, c.loop-commit.yielded_by, c.in-None.ensures.steps))) in
    subst (λ l. AreLogItems l c.loop-commit.items.items) all c.loop-commit.invariant.items
