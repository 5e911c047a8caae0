use Rattle.std.proofs.Common.{sym, subst}
use Rattle.jj_log.specs.Orders.{IsCommitOrder}
use Rattle.jj_log.proofs.VisibleItems.{visible_log}
use Rattle.jj_log.proofs.grouping.log_nodes.Goals as goal

pub group-requires : goal.group-requires
group-requires c = record {
  child_first = (
    c.in_ok-items.ensures.nodes,
    c.in_ok-items.ensures.are,
    visible_log c.args.commits.now c.deref.result.now c.in_ok-items.items.items (subst (IsCommitOrder c.args.commits.now) (sym c.deref.ensures.value) c.in_ok-order.ensures.order) c.in_ok-items.ensures,
  );
}
