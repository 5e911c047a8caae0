use Rattle.std.proofs.Common.{rules, subst, sym, ◌≡◌, eqb, arith}
use Rattle.std.specs.List.{Contains, IsDistinct}
use Rattle.jj_dag.specs.ArrayGraphs.{graph_of}
use Rattle.jj_dag.proofs.RankedNodes.{distinct_postorder, positions_rank}
use Rattle.jj_dag.proofs.ranks.Ranks.new.Goals as goal

pub positions_in-requires : goal.positions_in-requires
positions_in-requires c =
    let order : c.deref-2.result.now ≡ c.in_ok-order.order.items = search rules in
    subst (IsDistinct eqb) (sym order) (distinct_postorder (graph_of c.args.graph.now) c.deref.result.now c.in_ok-order.order.items c.in_ok-order.ensures.order)

pub returns-clause-ranks : goal.returns-clause-ranks
returns-clause-ranks c =
    let starts : c.deref.result.now ≡ c.in_ok-starts.starts.items = search rules in
    positions_rank c.args.graph.now c.deref.result.now c.in_ok-order.order.items c.in_ok-positions.positions.items c.in_ok-order.ensures.order
    (λ k less. subst (λ l. Contains l k) (sym starts) (c.in_ok-starts.ensures k (omega (arith, less, c.len.ensures)))) (search rules) (search rules)
