use Rattle.std.proofs.Common.{rules, of_calls, arith, ◌≡◌, ◌++◌, ◌∷◌, [], length, sym, ◌∙◌, ap}
use Rattle.std.proofs.lemmas.Grind.{common_steps}
use Rattle.std.proofs.lemmas.Result.{err_from_is_err_and}
use Rattle.std.specs.Vec.Iter.{into_iter_items, into_iter_len}
use Rattle.jj_walks.specs.Grouped.{Prioritized}
use Rattle.jj_walks_tests.proofs.Grouping.{left-none, left-some, run-begins, run-done, run-failed, run-gave}
use Rattle.jj_walks_tests.proofs.branches.grouped_commits.Goals as goal

pub loop-item-init : goal.loop-item-init
loop-item-init c =
    let begun = c.into_iter-item-iterator.ensures.into_iter_gives in
    let graph : c.into_iter-item-iterator.result.graph ≡ c.prioritize_branch.new.self = ap (λ s. s.graph) begun ∙ c.stream-item-items.ensures.graph in
    let input : c.into_iter-item-iterator.result.graph.input ≡ c.into_iter.result = ap (λ s. s.input) graph ∙ c.prioritize_branch.ensures.input ∙ c.new-graph.ensures.input in
    let items : into_iter_items c.into_iter-item-iterator.result.graph.input ≡ c.in_ok-input.input.items = ap (λ s. into_iter_items s) input ∙ c.into_iter.ensures.rest in
    let shown = c.in_ok-input.ensures in
    record {
      can = first_of (search rules, search (rules, of_calls), grind (arith, common_steps));
      finite = first_of (search rules, search (rules, of_calls), grind (arith, common_steps));
      goes_on = ap (λ s. s.has_ended) begun ∙ c.stream-item-items.ensures.has_ended;
      good = ap (λ s. into_iter_len s) input ∙ c.into_iter.ensures.len ∙ c.in_ok-input.input.ok.0 ∙ sym (ap length items);
      run = (
        Prioritized c.args.required ∷ [],
        rw graph (c.in_ok-prioritize_branch.ensures.prioritized [] c.new-graph.ensures.pending),
        rw items (run-begins c.args.commits.now c.args.required shown.0 c.in_ok-input.input.items c.new-order.result.items shown.1 shown.2 c.new-order.ensures.items),
      );
    }

pub loop-item-preserved : goal.loop-item-preserved
loop-item-preserved c =
    let before = c.loop-item.invariant in
    let step = rw (before.goes_on, c.in_ok-commit.was) at c.in-Some.ensures.steps in
    let gives = step.1 before.run.0 before.run.1 in
    let run = run-gave c.args.commits.now c.args.required gives.3 into_iter_items (λ s. into_iter_len s ≡ length (into_iter_items s))
    (λ s t x good step. (step.0, left-some _ _ _ _ _ good step.0 step.1)) (λ s t good step. left-none _ _ good step.0) (λ x i h. search (rules, h.says.met, h.shows))
    before.good before.run.0 c.loop-item.order.items before.run.2 gives.2 c.in_ok-commit.commit (ap (λ p. p.0) gives.4) gives.5.history.is_history in
    let pushed : c.push.new.self.items ≡ c.loop-item.order.items ++ c.in_ok-commit.commit ∷ [] = c.in_ok-push.ensures.items in
    record {
      can = first_of (search rules, search (rules, of_calls), grind (arith, common_steps));
      finite = first_of (search rules, search (rules, of_calls), grind (arith, common_steps));
      goes_on = step.0;
      good = run.1;
      run = (_, gives.5, rw pushed run.0);
    }

pub returns-in_err-commit-clause-error : goal.returns-in_err-commit-clause-error
returns-in_err-commit-clause-error c =
    let before = c.loop-item.invariant in
    let step = rw (before.goes_on, c.in_err-commit.was) at c.in-Some.ensures.steps in
    let gives = step.1 before.run.0 before.run.1 in
    let p = err_from_is_err_and c.from_residual-in_err-commit.result c.from_residual-in_err-commit.ensures.1 in
    rw (p.1, p.2) (run-failed c.args.commits.now c.args.required gives.3 into_iter_items (λ s. into_iter_len s ≡ length (into_iter_items s))
    (λ s t x good step. (step.0, left-some _ _ _ _ _ good step.0 step.1)) (λ s t good step. left-none _ _ good step.0) (λ x i h. search (rules, h.says.met, h.shows))
    before.good before.run.0 c.loop-item.order.items before.run.2 c.next.new.self.graph.input c.in_err-commit.field-0.0 gives.4 gives.5)

pub returns-clause-order : goal.returns-clause-order
returns-clause-order c =
    let before = c.loop-item.invariant in
    let step = rw before.goes_on at c.in-None.ensures.steps in
    let gives = step.1 before.run.0 before.run.1 in
    run-done c.args.commits.now c.args.required gives.3 into_iter_items (λ s. into_iter_len s ≡ length (into_iter_items s))
    (λ s t x good step. (step.0, left-some _ _ _ _ _ good step.0 step.1)) (λ s t good step. left-none _ _ good step.0) (λ x i h. search (rules, h.says.met, h.shows))
    before.good before.run.0 c.loop-item.order.items before.run.2 c.next.new.self.graph.input gives.4 gives.5 gives.6
