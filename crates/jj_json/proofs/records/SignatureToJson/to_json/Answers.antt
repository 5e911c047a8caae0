use Rattle.std.proofs.Common.{subst}
use Rattle.serde_json.specs.View.{view}
use Rattle.jj_backend.specs.Records.{SignatureValue}
use Rattle.jj_dates.specs.Times.{IsDate}
use Rattle.jj_json.proofs.records.SignatureToJson.to_json.Goals as goal

pub returns : goal.returns
returns c =
    let InRange : SignatureValue → Type 0 = λ s. IsDate s.timestamp in
    let time = c.in_ok-timestamp.ensures in (
      subst InRange c.self.view_is time.0,
      (view c.in_ok-timestamp.timestamp, time.1, c.in_ok-signature_object.ensures),
    )
