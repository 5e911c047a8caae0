use Rattle.serde_json.specs.View.{view}
use Rattle.jj_json.proofs.operations.TimestampRangeToJson.to_json.Goals as goal

pub returns : goal.returns
returns c =
    let start = c.in_ok-start.ensures in
    let end = c.in_ok-end.ensures in (
      (start.0, end.0),
      (
        view c.in_ok-start.start,
        view c.in_ok-end.end,
        start.1,
        end.1,
        c.in_ok-range_object.ensures,
      ),
    )
