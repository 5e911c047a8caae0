use Rattle.std.proofs.Common.{rules, arith, ◌≡◌, ◌<◌, ◌∙◌, get_or, length}
use Rattle.std.specs.Map.{keys_of}
use Rattle.std.proofs.lemmas.Grind.{get_or_default_zero}
use Rattle.std.proofs.lemmas.Map.Entries.{length-keys_of}
use Rattle.jj_dag.proofs.DenseMaps.{key_at}
use Rattle.jj_dag.proofs.DenseSets.{another, beyond, elsewhere}
use Rattle.jj_dag.proofs.dense_map.DenseMap.index_of.Goals as goal

pub returns-then-len-number : goal.returns-then-len-number
returns-then-len-number g c =
    let map = c.args.self.now in
    beyond (keys_of map.entries.items) map.indices.items map.indexed c.args.number (search rules)

pub returns-then-len-index : goal.returns-then-len-index
returns-then-len-index g c =
    let map = c.args.self.now in
    let indices = map.indices.items in
    let index = c.index-index.result.now in
    let inside : c.args.number < length indices = search rules in
    let at : get_or indices c.args.number 0 ≡ index = search (rules, get_or_default_zero indices c.args.number index inside) in
    elsewhere (keys_of map.entries.items) indices map.indexed c.args.number index at (omega (arith, length-keys_of map.entries.items, c.if-len-index.true))

pub returns-then-index-number : goal.returns-then-index-number
returns-then-index-number g c =
    let map = c.args.self.now in
    let indices = map.indices.items in
    let index = c.index-index.result.now in
    let inside : c.args.number < length indices = search rules in
    let at : get_or indices c.args.number 0 ≡ index = search (rules, get_or_default_zero indices c.args.number index inside) in
    let within : index < length map.entries.items = search rules in
    another (keys_of map.entries.items) indices map.indexed c.args.number index at (λ same.
    let key = key_at map.entries.items index c.index.result.now within in search (rules, key, same))

pub returns : goal.returns
returns g c =
    let map = c.args.self.now in
    let index = c.index-index.result.now in
    let within : index < length map.entries.items = search rules in
    (within, key_at map.entries.items index c.index.result.now within ∙ search rules)
