use Rattle.std.proofs.Common.{rules, ◌≡◌, ◌<◌, get_or, length}
use Rattle.std.proofs.lemmas.Grind.{get_or_default_zero}
use Rattle.jj_dag.proofs.DenseSets.{another, beyond, elsewhere}
use Rattle.jj_dag.proofs.dense_set.DenseSet.index_of.Goals as goal

pub returns-then-len-number : goal.returns-then-len-number
returns-then-len-number c = rw (← c.self.view_is) (beyond c.self.inside.members.items c.self.inside.indices.items c.self.invariant c.args.number (search rules))

pub returns-then-len-index : goal.returns-then-len-index
returns-then-len-index c =
    let indices = c.self.inside.indices.items in
    let index = c.index-index.result.now in
    let inside : c.args.number < length indices = search rules in
    let at : get_or indices c.args.number 0 ≡ index = search (rules, get_or_default_zero indices c.args.number index inside) in
    rw (← c.self.view_is) (elsewhere c.self.inside.members.items indices c.self.invariant c.args.number index at (search rules))

pub returns-then-index-number : goal.returns-then-index-number
returns-then-index-number c =
    let indices = c.self.inside.indices.items in
    let index = c.index-index.result.now in
    let inside : c.args.number < length indices = search rules in
    let at : get_or indices c.args.number 0 ≡ index = search (rules, get_or_default_zero indices c.args.number index inside) in
    let members = c.self.inside.members.items in
    let within : index < length members = search rules in
    rw (← c.self.view_is) (another members indices c.self.invariant c.args.number index at (search (rules, get_or_default_zero members index c.index.result.now within)))
