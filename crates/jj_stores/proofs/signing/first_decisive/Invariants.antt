-- The decision of the remaining backends is that of all backends.
use Rattle.std.proofs.Common.{Option, drop}
use Rattle.jj_stores.specs.FirstDecisive.{IsFirstDecisive, VerifyResult}
use Rattle.jj_stores.proofs.signing.first_decisive.Given as goal

abbrev pub invariant-loop-backend : goal.invariant-loop-backend
invariant-loop-backend g l =
    let reads = λ (b : g.row.B.Denot). g.B.SigningBackend.reads b l.signature in
    let may_verify = λ (b : g.row.B.Denot). g.B.SigningBackend.may_verify b l.data l.signature in
    (decision : Option VerifyResult) → IsFirstDecisive reads may_verify (drop l.backend-index l.backends) decision → IsFirstDecisive reads may_verify l.backends decision
