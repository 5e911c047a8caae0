-- The model of a verification.
-- Cited by contracts of public items: Verdict, status_name, unknown_verdict.
use Rattle.std.specs.Prelude.{ℕ, List, Option, None, Bool, true, false, codes}
use Rattle.jj_stores.specs.declared.signing.SigStatus.{SigStatus}
use Rattle.jj_stores.specs.declared.signing.SigStatus.TheVariants.{Good, Unknown, Bad}

-- the status of a signature, and the key and the signer's display name if known
pub record Verdict : Type 0 where
  pub status : SigStatus
  pub key : Option (List ℕ)
  pub display : Option (List ℕ)

-- the status is Unknown
abbrev pub is_unknown : SigStatus → Bool
is_unknown Unknown = true
is_unknown Good = false
is_unknown Bad = false

-- the verification without a decisive result: Unknown, with no key and no name to display
abbrev pub unknown_verdict : Verdict
unknown_verdict = record { status = Unknown; key = None; display = None }

-- the name of a status
abbrev pub status_name : SigStatus → List ℕ
status_name Good = codes "good"
status_name Unknown = codes "unknown"
status_name Bad = codes "bad"
