use Rattle.std.proofs.Common.{rules, of_calls, arith}
use Rattle.std.proofs.lemmas.Grind.{common_steps}
use Rattle.jj_dag.proofs.Walkable.{walkable_by}
use Rattle.jj_walks_tests.proofs.chunks.next_chunk.Goals as goal

pub topo_order_reverse_chunked-requires : goal.topo_order_reverse_chunked-requires
topo_order_reverse_chunked-requires c = (
  search rules,
  (
    walkable_by (search rules) (first_of (search (rules, of_calls), search of_calls, grind (arith, common_steps))) (λ a r f h. (λ it b. (search rules, search rules), search (rules, of_calls, h))),
    search rules,
  ),
)
