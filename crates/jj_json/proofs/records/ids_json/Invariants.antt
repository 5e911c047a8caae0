-- The strings of the ids so far.
use Rattle.std.proofs.Common.{◌≡◌, take, map}
use Rattle.serde_json.specs.Data.{string}
use Rattle.serde_json.specs.View.{view}
use Rattle.jj_content.specs.Hex.{hex}
use Rattle.jj_json.proofs.records.ids_json.Given as goal

abbrev pub invariant-loop-id : goal.invariant-loop-id
invariant-loop-id g l =
    map view l.strings.items ≡ map (λ id. string (hex id)) (take l.id-index l.ids)
