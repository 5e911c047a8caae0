-- The strings of the ids so far.
use Rattle.std.proofs.Common.{◌≡◌, take, map}
use Rattle.serde_json.specs.Data.{string}
use Rattle.serde_json.specs.View.{view}
use Rattle.jj_content.specs.Hex.{hex}
use Rattle.jj_json.proofs.operations.parents_json.Given as goal

abbrev pub invariant-loop-parent : goal.invariant-loop-parent
invariant-loop-parent l =
    map view l.strings.items ≡ map (λ id. string (hex id)) (take l.parent-index l.parents)
