use Rattle.std.proofs.Common.{All, take, map}
use Rattle.std.specs.List.{AllZip}
use Rattle.serde_json.specs.View.{view}
use Rattle.jj_json.proofs.to_json.RefSliceToJson.to_json.Given as goal

abbrev pub invariant-loop-item : goal.invariant-loop-item
invariant-loop-item g l = record {
  in_range : All g.T.ToJson.is_in_range (take l.item-index l.item-items);
  made : AllZip g.T.ToJson.is_json (take l.item-index l.item-items) (map view l.values.items);
}
