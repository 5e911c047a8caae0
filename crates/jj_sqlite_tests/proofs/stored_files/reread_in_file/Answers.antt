use Rattle.std.proofs.lemmas.Result.{IfOk-weaker}
use Rattle.jj_sqlite_tests.proofs.stored_files.reread_in_file.Goals as goal

pub returns-clause-commit : goal.returns-clause-commit
returns-clause-commit c = IfOk-weaker c.reread_in_store.result _ _ (λ reread reads clean.
    let is = c.in_ok-store.ensures.ok in
    (is.0, is.1, λ entries had. reads clean entries (is.2.kept entries had) (λ now. is.2.entries now entries had))) c.reread_in_store.ensures.commit
