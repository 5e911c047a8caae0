use Rattle.std.proofs.Common.{ap, ◌∙◌}
use Rattle.serde_json.specs.Data.{object}
use Rattle.serde_json.specs.View.{view}
use Rattle.serde_json.proofs.Views.{view-Object}
use Rattle.jj_json.proofs.operations.OperationMetadataToJson.to_json.Goals as goal

pub returns : goal.returns
returns c =
    let time = c.in_ok-time.ensures in
    let members = c.in_ok-metadata_members in (
      time.0,
      (
        view c.in_ok-time.time,
        time.1,
        view-Object members.field-0 ∙ ap object members.ensures,
      ),
    )
