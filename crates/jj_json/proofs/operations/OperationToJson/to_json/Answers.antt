use Rattle.std.proofs.Common.{ap, ap₂, ◌∙◌, codes}
use Rattle.serde_json.specs.Data.{object, put}
use Rattle.serde_json.specs.View.{view}
use Rattle.serde_json.proofs.Views.{view-Object}
use Rattle.jj_json.specs.Records.{ids_json}
use Rattle.jj_json.proofs.operations.OperationToJson.to_json.Goals as goal

pub returns : goal.returns
returns c =
    let time = c.in_ok-time.ensures in
    let parents = c.in_ok-parents.ensures ∙ ap ids_json c.as_slice.ensures.value in
    let members = c.in_ok-members.ensures in (
      time.0,
      (
        view c.in_ok-time.time,
        time.1,
        view-Object c.put.new.map
            ∙ ap object (c.in_ok-put.ensures.ok ∙ ap₂ (put (codes "parents")) parents members),
      ),
    )
