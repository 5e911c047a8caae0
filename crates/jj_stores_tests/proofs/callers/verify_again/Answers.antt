use Rattle.std.proofs.Common.{◌≡◌, Result, Ok, Err}
use Rattle.std.specs.Prelude.{IfOk}
use Rattle.std.specs.Result.{MatchResult}
use Rattle.jj_stores_tests.proofs.callers.verify_again.Goals as goal

-- projects a result that equals the value out of a conjunction
this_value : {A E : Type 0} (r : Result A E) (v : A) (More : A → Type 0) (Refused : E → Type 0) → MatchResult r (λ x. (x ≡ v) × More x) Refused → IfOk r (λ x. x ≡ v)
this_value (Ok x) v More Refused h = h.0
this_value (Err e) v More Refused h = tt

pub returns : goal.returns
returns g c = this_value _ _ _ _ (c.verify.ensures.cached _ c.requires)
