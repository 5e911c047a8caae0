use Rattle.std.proofs.Common.{rules, of_calls, ◌≡◌, ℕ, Result, Ok, Err, true, refl, subst}
use Rattle.std.specs.Prelude.{IfErr}
use Rattle.std.proofs.lemmas.Fn.{always_returns_same}
use Rattle.std.proofs.lemmas.Iterator.{YieldsList-from_slice}
use Rattle.std.proofs.lemmas.Iterator.Consumers.{YieldsList-from_copied}
use Rattle.std.proofs.lemmas.List.{map-id}
use Rattle.std.proofs.lemmas.Result.{IfOk-weaker}
use Rattle.jj_dag.proofs.Walkable.{walkable_by}
use Rattle.jj_dag.proofs.Walking.{drained_are}
use Rattle.jj_dag.specs.Graph.{Graph, IsTopologicalOrder}
use Rattle.jj_dag.specs.Outcomes.{IfFails}
use Rattle.jj_dag.specs.Walk.{GraphModel}
use Rattle.jj_dag.specs.declared.walk_error.WalkError.{WalkError}
use Rattle.jj_dag.specs.declared.walk_error.WalkError.TheVariants.{Memory, Node}
use Rattle.contracts_walks.specs.Adjacency.{graph_of_rows}
use Rattle.contracts_walks.proofs.acyclic.order_of_rows.Goals as goal

only_memory : {V E : Type 0} (r : Result V (WalkError E)) → IfFails r (λ _. ⊥) → IfErr r (λ e. e ≡ Memory)
only_memory (Ok v) fails = tt
only_memory (Err Memory) fails = refl
only_memory (Err (Node e)) fails = absurd fails

pub children_first-order-requires-clause-graph : goal.children_first-order-requires-clause-graph
children_first-order-requires-clause-graph c = walkable_by (search rules) (search (rules, of_calls)) (λ a r f h. (λ it b. (search rules, search rules), search (rules, of_calls, h)))

pub returns : goal.returns
returns c =
    let rows : Graph = graph_of_rows c.args.rows.now in
    let walk : GraphModel ℕ ℕ = record { graph = rows; is_node = λ a. true; node = λ x. x; id = λ i. i } in
    let law = c.children_first-order.ensures walk c.args.starts.now
    (record {
      implements = record {
        closed = λ a s b h. refl;
        apart = λ i j a b. refl;
        ids_match = λ x i is h. search (rules, h.says.met, h.shows);
        neighbors = always_returns_same _ _ _ (λ a r f h. (
          λ xs here d. drained_are (λ s k. k ≡ s) _ r xs (λ x. x) (rows a.0.now) (λ it b. YieldsList-from_copied (YieldsList-from_slice _ (search (rules, of_calls, h, b)))) d,
          search (rules, of_calls, h),
        ));
      };
      never_fails = λ x e reached failed. failed.2;
    })
    (record {
      nodes = λ a h. refl;
      yields = λ xs d. drained_are (λ s r. r ≡ s) _ c.copied.result xs (λ x. x) c.args.starts.now (λ it b. YieldsList-from_copied (YieldsList-from_slice _ (search (rules, c.copied.ensures, c.iter.ensures, b)))) d;
      never_fails = λ e failed. failed;
    })
    c.requires in
    record {
      order = IfOk-weaker c.children_first-order.result _ _ (λ v ordered. subst (λ nodes. IsTopologicalOrder rows c.args.starts.now nodes) (map-id v.items) ordered) law.0;
      error = only_memory c.children_first-order.result law.1;
    }
