use Rattle.std.proofs.Common.{ap, arith, length, refl}
use Rattle.std.proofs.lemmas.Bool.{false≢true}
use Rattle.jj_merges.proofs.merge.options.Merge+Option+T.is_absent.Goals as goal

pub returns-in-Some-None : goal.returns-in-Some-None
returns-in-Some-None g c = (λ h. rw c.in-Some-None.field-0-is at c.in-Some-None.ensures, λ h. refl)

pub returns-in_default : goal.returns-in_default
returns-in_default g c = (λ h. absurd (false≢true h), λ e. let one = rw c.in_default.is at c.as_resolved.ensures in cc)

pub returns-in_default-2 : goal.returns-in_default-2
returns-in_default-2 g c =
    let several = rw c.in_default.is at c.as_resolved.ensures in
    (λ h. absurd (false≢true h), λ e. absurd (omega (arith, several, ap length e)))
