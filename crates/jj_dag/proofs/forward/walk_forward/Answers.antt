use Rattle.std.proofs.Common.{◌≡◌, ◌++◌, ◌∙◌, Ok, false, map, ap, inl, inr}
use Rattle.std.proofs.lemmas.Result.{IfErr-weaker, IfOk-weaker, err_from_is_err_and}
use Rattle.jj_dag.specs.Walk.{DrainsTo}
use Rattle.jj_dag.proofs.Calling.{cycle_weaker, failed_weaker}
use Rattle.jj_dag.proofs.forward.walk_forward.Goals as goal

pub returns : goal.returns
returns g c =
    let k = c.in_ok-push_all.ensures.nodes in
    let queued : c.push_all.new.stack.items ≡ map (λ x. (x, false)) k.0 = k.2 ∙ ap (λ l. l ++ map (λ x. (x, false)) k.0) c.new-stack.ensures.items in
    let drained : DrainsTo g.II.IntoIterator.into_iter_gives g.II.IntoIter.Iterator.next_gives c.args.start (map (λ x. Ok x) k.0) = (c.into_iter.result, c.into_iter.ensures.into_iter_gives, k.1) in
    record {
      order = IfOk-weaker c.unwind.result _ _ (λ v from. record { starts = k.0; yielded = drained; holds = from k.0 queued }) c.unwind.ensures.order;
      failed = IfErr-weaker c.unwind.result _ _ (λ stop. failed_weaker stop _ _ (λ error from. inr (record { node = from.0; fails = from.1; reached = record { starts = k.0; yielded = drained; holds = from.2 k.0 queued } }))) c.unwind.ensures.failed;
      cycle = IfErr-weaker c.unwind.result _ _ (λ stop. cycle_weaker stop _ _ (λ x from. record { starts = k.0; yielded = drained; holds = from k.0 queued })) c.unwind.ensures.cycle;
    }

pub returns-in_err-push_all : goal.returns-in_err-push_all
returns-in_err-push_all g c =
    let p = err_from_is_err_and c.from_residual.result c.from_residual.ensures.1 in
    rw (p.1, p.2) (record {
      order = tt;
      failed = failed_weaker c.in_err-push_all.field-0.0 _ _ (λ error k. inl (k.0, (c.into_iter.result, c.into_iter.ensures.into_iter_gives, (k.1, k.2)))) c.in_err-push_all.ensures.failed;
      cycle = cycle_weaker c.in_err-push_all.field-0.0 _ _ (λ x never. absurd never) c.in_err-push_all.ensures.acyclic;
    })
