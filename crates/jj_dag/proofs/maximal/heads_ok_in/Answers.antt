use Rattle.std.proofs.Common.{inl, inr}
use Rattle.std.proofs.lemmas.Result.{IfErr-weaker, err_from_is_err_and, on_ok_weaker}
use Rattle.jj_dag.proofs.Errors.{node_weaker}
use Rattle.jj_dag.proofs.maximal.heads_ok_in.Goals as goal

pub returns-in_err-add_starts-clause-error : goal.returns-in_err-add_starts-clause-error
returns-in_err-add_starts-clause-error g c =
    let p = err_from_is_err_and c.from_residual.result c.from_residual.ensures.1 in
    rw (p.1, p.2) (node_weaker c.in_err-add_starts.field-0.0 _ _ (λ error failed. inl failed) c.in_err-add_starts.ensures.failed)

pub returns-clause-heads : goal.returns-clause-heads
returns-clause-heads g c =
    let starts = c.in_ok-add_starts.ensures.starts in
    on_ok_weaker c.expand_all.result (λ found. record {
      starts = starts.nodes;
      yielded = starts.drained;
      holds = λ walk implemented nodes acyclic stands. found walk starts.nodes implemented nodes starts.queued
          (λ same. starts.started walk (record { apart = implemented.apart; ids_match = implemented.ids_match }) same nodes) acyclic stands;
    }) c.expand_all.ensures.found

pub returns-clause-error : goal.returns-clause-error
returns-clause-error g c =
    let starts = c.in_ok-add_starts.ensures.starts in
    IfErr-weaker c.expand_all.result _ _ (λ failure. node_weaker failure _ _ (λ error failed.
    inr (record {
      node = failed.0;
      fails = failed.1;
      reached = record {
        starts = starts.nodes;
        yielded = starts.drained;
        holds = λ walk implemented nodes. failed.2 walk starts.nodes implemented nodes starts.queued
            (λ same. starts.started walk (record { apart = implemented.apart; ids_match = implemented.ids_match }) same nodes);
      };
    }))) c.expand_all.ensures.error
