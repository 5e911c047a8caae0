use Rattle.std.proofs.Common.{◌∙◌, ◌++◌, ◌∷◌, [], Ok, Err, ap, append-nil, sym}
use Rattle.jj_dag.specs.FallibleGraphs.{ok_items}
use Rattle.jj_dag.proofs.FailingWalks.{ok_items-append}
use Rattle.jj_store_walks.specs.Histories.{found_errors}
use Rattle.jj_store_walks.proofs.FailedReads.{errors_append}
use Rattle.jj_store_walks.proofs.ReadResults.{Item}
use Rattle.jj_store_walks.proofs.readable.part.Goals as goal

pub loop-item-preserved-in-Continue-1 : goal.loop-item-preserved-in-Continue-1
loop-item-preserved-in-Continue-1 c =
    let xs = c.loop-item.yielded in
    let more = ap (λ (x : Item). xs ++ x ∷ []) c.in-Ok.is in
    record {
      can = tt;
      finite = tt;
      commits = c.in_ok-push-in-Ok.ensures.items ∙ ap (λ l. l ++ c.in-Ok.commit ∷ []) c.loop-item.invariant.commits ∙ sym (ok_items-append xs (Ok c.in-Ok.commit ∷ [])) ∙ ap ok_items (sym more);
      errors = c.loop-item.invariant.errors ∙ sym (append-nil (found_errors xs)) ∙ sym (errors_append xs (Ok c.in-Ok.commit ∷ [])) ∙ ap found_errors (sym more);
    }

pub loop-item-preserved : goal.loop-item-preserved
loop-item-preserved c =
    let xs = c.loop-item.yielded in
    let more = ap (λ (x : Item). xs ++ x ∷ []) c.in-Err.is in
    record {
      can = tt;
      finite = tt;
      commits = c.loop-item.invariant.commits ∙ sym (append-nil (ok_items xs)) ∙ sym (ok_items-append xs (Err c.in-Err.error ∷ [])) ∙ ap ok_items (sym more);
      errors = c.in_ok-push-in-Err.ensures.items ∙ ap (λ l. l ++ c.in-Err.error ∷ []) c.loop-item.invariant.errors ∙ sym (errors_append xs (Err c.in-Err.error ∷ [])) ∙ ap found_errors (sym more);
    }
