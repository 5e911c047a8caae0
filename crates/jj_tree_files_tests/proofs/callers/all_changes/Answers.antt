use Rattle.std.proofs.Common.{refl}
use Rattle.std.proofs.lemmas.Result.{IfOk-weaker}
use Rattle.jj_tree_files_tests.proofs.callers.all_changes.Goals as goal

pub returns : goal.returns
returns c = IfOk-weaker c.changed_files.result _ _ (λ changes listed change. (
  (λ found. let is = (listed change).0 found in (is.0, is.1, is.2)),
  (λ is. (listed change).1 (is.0, is.1, is.2, refl)),
)) c.changed_files.ensures.changes
