use Rattle.std.proofs.Common.{ap, ⊎_elim}
use Rattle.std.proofs.lemmas.Result.{IfErr-weaker}
use Rattle.jj_stores.specs.OpStores.{is_not_found}
use Rattle.jj_stores_tests.proofs.callers.view_kept_in_memory.Goals as goal

pub returns-clause-error : goal.returns-clause-error
returns-clause-error c =
    IfErr-weaker c.view_after_gc.result _ _ (λ e. ⊎_elim (λ memory. ap is_not_found memory) (λ failed. failed.1)) c.view_after_gc.ensures.error
