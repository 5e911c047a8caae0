use Rattle.std.proofs.Common.{true}
use Rattle.std.proofs.lemmas.Result.{IfOk-weaker}
use Rattle.jj_globs_tests.proofs.callers.pattern_of.Goals as goal

pub returns : goal.returns
returns c = IfOk-weaker c.escape.result _ _ (λ pattern alone. alone true) c.escape.ensures.alone
