use Rattle.std.proofs.Common.{refl}
use Rattle.std.proofs.lemmas.Result.{IfOk-weaker}
use Rattle.jj_tree_files_tests.proofs.callers.all_files.Goals as goal

pub returns : goal.returns
returns c = IfOk-weaker c.files_matching.result _ _ (λ files listed path value. (
  (λ found. ((listed path value).0 found).0),
  (λ is_file. (listed path value).1 (is_file, refl)),
)) c.files_matching.ensures.files
