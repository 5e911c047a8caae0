use Rattle.std.proofs.Common.{rules, arith, ◌≡◌, ◌∙◌, Some, ap, get_or, sym}
use Rattle.std.proofs.lemmas.Map.Entries.{length-keys_of}
use Rattle.jj_dag.proofs.DenseMaps.{has, missing}
use Rattle.jj_dag.proofs.dense_map.DenseMapNodeMapUsize.get.Goals as goal

pub returns-in-Some : goal.returns-in-Some
returns-in-Some g c =
    let map = c.args.self.now in
    let es = map.entries.items in
    let (inside, is) = c.in-Some.ensures in
    let d = c.index.result.now in
    let at : get_or es c.in-Some.index d ≡ d = search rules in
    sym (has es map.indices.items map.indexed c.args.key.now c.in-Some.index (omega (arith, inside, length-keys_of es)) is d inside ∙ ap (λ e. Some e.1) at)

pub returns-in-None : goal.returns-in-None
returns-in-None g c = sym (missing c.args.self.now.entries.items c.args.key.now c.in-None.ensures)
