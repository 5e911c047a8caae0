use Rattle.std.proofs.Common.{rules, arith, ◌≡◌, ◌≤◌, ◌++◌, ◌∷◌, [], refl, sym, ◌∙◌, true, ap, map, length, inl, inr}
use Rattle.std.proofs.lemmas.Grind.{common_steps}
use Rattle.std.proofs.lemmas.List.{length-map}
use Rattle.std.proofs.lemmas.Result.{err_from_is_err_and}
use Rattle.jj_walks.proofs.Chunks.{none_next, one_next, many_next}
use Rattle.jj_dag.proofs.Errors.{node_weaker}
use Rattle.jj_dag.proofs.Plain.{lone}
use Rattle.jj_walks.proofs.topo_order_chunked.topo_order_reverse_chunked.Goals as goal

pub returns-in_err-nodes-clause-error : goal.returns-in_err-nodes-clause-error
returns-in_err-nodes-clause-error g c =
    let taken : c.replace-taken.result.items ≡ c.args.start.now.items = ap (λ v. v.items) c.replace-taken.ensures.value in
    let p = err_from_is_err_and c.from_residual.result c.from_residual.ensures.1 in
    rw (p.1, p.2) (node_weaker c.in_err-nodes.field-0.0 _ _ (λ error p. inl (record {
      node = p.0;
      fails = p.1;
      reached = record { starts = c.replace-taken.result.items; yielded = taken; holds = p.2 };
    })) c.in_err-nodes.ensures.failed)

pub returns-in-Some-clause-error : goal.returns-in-Some-clause-error
returns-in-Some-clause-error g c =
    let taken : c.replace-taken.result.items ≡ c.args.start.now.items = ap (λ v. v.items) c.replace-taken.ensures.value in
    inr (record {
      node = c.in-Some.node;
      made_of = c.cycle_fn.ensures;
      holds = record {
        starts = c.replace-taken.result.items;
        yielded = taken;
        holds = λ walk implemented nodes. rw c.in-Some.is at (c.in_ok-nodes.ensures.chunk walk implemented nodes);
      };
    })

pub returns-in-None-clause-chunk : goal.returns-in-None-clause-chunk
returns-in-None-clause-chunk g c =
    let taken : c.replace-taken.result.items ≡ c.args.start.now.items = ap (λ v. v.items) c.replace-taken.ensures.value in
    let ok = c.replace-taken.result.ok in
    let many : 2 ≤ length c.replace-taken.result.items = omega arith in
    record {
      starts = c.replace-taken.result.items;
      yielded = taken;
      holds = λ walk implemented nodes.
          let starts = map walk.node c.replace-taken.result.items in
          let size : length starts ≡ length c.replace-taken.result.items = length-map c.replace-taken.result.items walk.node in
          let two : 2 ≤ length starts = omega arith in
          rw (c.from_vec.ensures.items) (many_next walk.graph starts _ _ two (rw c.in-None.is at (c.in_ok-nodes.ensures.chunk walk implemented nodes)).0);
    }

pub returns-in_default-clause-chunk : goal.returns-in_default-clause-chunk
returns-in_default-clause-chunk g c =
    let taken : c.replace-taken.result.items ≡ c.args.start.now.items = ap (λ v. v.items) c.replace-taken.ensures.value in
    let empty : c.replace-taken.result.items ≡ [] = first_of (search rules, grind (arith, common_steps)) in
    let left : c.replace-taken.new.dest.items ≡ [] = ap (λ v. v.items) c.replace-taken.ensures.after ∙ c.new.ensures.items in
    record {
      starts = [];
      yielded = sym empty ∙ taken;
      holds = λ walk implemented nodes. rw (c.new-in_default.ensures.items, left) (none_next walk.graph);
    }

pub returns-clause-chunk : goal.returns-clause-chunk
returns-clause-chunk g c =
    let node = c.in-Some-pop.node in
    let taken : c.replace-taken.result.items ≡ c.args.start.now.items = ap (λ v. v.items) c.replace-taken.ensures.value in
    let ok = c.replace-taken.result.ok in
    let few : length c.replace-taken.result.items ≤ 1 = omega arith in
    let one : c.replace-taken.result.items ≡ node ∷ [] = lone c.replace-taken.result.items c.pop.new.self.items node few c.in-Some-pop.ensures.items in
    let pushed : c.push.new.self.items ≡ node ∷ [] = c.in_ok-push.ensures.ok ∙ ap (λ l. l ++ node ∷ []) c.new-chunk.ensures.items in
    record {
      starts = node ∷ [];
      yielded = sym one ∙ taken;
      holds = λ walk implemented nodes.
          let is_node : walk.is_node (walk.node node) ≡ true = nodes (walk.node node) (0, omega arith, refl) in
          let listed = c.in_ok-neighbors.ensures.listed walk implemented is_node in
          rw (pushed, listed) (one_next walk.graph (walk.node node));
    }

pub returns-in_err-neighbors-clause-error : goal.returns-in_err-neighbors-clause-error
returns-in_err-neighbors-clause-error g c =
    let node = c.in-Some-pop.node in
    let taken : c.replace-taken.result.items ≡ c.args.start.now.items = ap (λ v. v.items) c.replace-taken.ensures.value in
    let ok = c.replace-taken.result.ok in
    let few : length c.replace-taken.result.items ≤ 1 = omega arith in
    let one : c.replace-taken.result.items ≡ node ∷ [] = lone c.replace-taken.result.items c.pop.new.self.items node few c.in-Some-pop.ensures.items in
    let p = err_from_is_err_and c.from_residual-in_err-neighbors.result c.from_residual-in_err-neighbors.ensures.1 in
    rw (p.1, p.2) (node_weaker c.in_err-neighbors.field-0.0 _ _ (λ error failure. inl (record {
      node = node;
      fails = failure;
      reached = record { starts = node ∷ []; yielded = sym one ∙ taken; holds = λ walk implemented nodes. (walk.node node, (0, omega arith, refl), (0, refl)) };
    })) c.in_err-neighbors.ensures.failed)
