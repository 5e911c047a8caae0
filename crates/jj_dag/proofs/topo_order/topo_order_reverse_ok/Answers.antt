use Rattle.std.proofs.Common.{sym, subst}
use Rattle.jj_dag.specs.Orders.{IsWholePostorder}
use Rattle.jj_dag.proofs.Walking.{numbers, numbers-turned}
use Rattle.jj_dag.proofs.topo_order.topo_order_reverse_ok.Goals as goal

pub returns-clause-order : goal.returns-clause-order
returns-clause-order g c =
    let found = c.in_ok-order.ensures.order in
    record {
      starts = found.starts;
      yielded = found.yielded;
      holds = λ walk implemented nodes.
          subst (IsWholePostorder walk.graph (numbers walk found.starts)) (sym (numbers-turned walk c.in_ok-order.order.items c.reverse.new.self.items c.reverse.ensures.items)) (found.holds walk implemented nodes);
    }
