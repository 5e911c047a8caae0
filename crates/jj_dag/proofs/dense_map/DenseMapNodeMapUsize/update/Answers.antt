use Rattle.std.proofs.Common.{arith, ◌<◌, ◌∙◌, ap, eqb, is_some, length, subst, sym, true≢false}
use Rattle.std.specs.Map.{keys_of}
use Rattle.std.proofs.lemmas.Map.Entries.{length-keys_of}
use Rattle.jj_dag.specs.DenseSets.{IsSparseSet}
use Rattle.jj_dag.specs.NodeMaps.{UpdatesEntry}
use Rattle.jj_dag.proofs.DenseMaps.{keys_same, missing, set_value-missing, sets, updates_set}
use Rattle.jj_dag.proofs.dense_map.DenseMapNodeMapUsize.update.Goals as goal

pub invariant_of-self : goal.invariant_of-self
invariant_of-self g c =
    let map = c.args.self.now in
    let es = map.entries.items in
    let (inside, is) = c.in-Some.ensures in
    let within : c.in-Some.index < length (keys_of es) = omega (arith, inside, length-keys_of es) in
    record { indexed = subst (λ ks. IsSparseSet ks map.indices.items) (sym (keys_same es map.indices.items map.indexed c.args.key.now c.in-Some.index within is c.args.value inside)) map.indexed }

pub returns-in-Some-clause-updates : goal.returns-in-Some-clause-updates
returns-in-Some-clause-updates g c = λ some.
    let map = c.args.self.now in
    let es = map.entries.items in
    let (inside, is) = c.in-Some.ensures in
    let within : c.in-Some.index < length (keys_of es) = omega (arith, inside, length-keys_of es) in
    subst (λ l. UpdatesEntry eqb es l c.args.key.now c.args.value) (sym (sets es map.indices.items map.indexed c.args.key.now c.in-Some.index within is c.args.value inside)) (updates_set es c.args.key.now c.args.value some)

pub returns-in-Some-clause-entries : goal.returns-in-Some-clause-entries
returns-in-Some-clause-entries g c =
    let map = c.args.self.now in
    let es = map.entries.items in
    let (inside, is) = c.in-Some.ensures in
    let within : c.in-Some.index < length (keys_of es) = omega (arith, inside, length-keys_of es) in
    sets es map.indices.items map.indexed c.args.key.now c.in-Some.index within is c.args.value inside

pub returns-in_default-clause-updates : goal.returns-in_default-clause-updates
returns-in_default-clause-updates g c = λ some. absurd (true≢false (sym some ∙ ap is_some (missing c.args.self.now.entries.items c.args.key.now c.in_default.ensures)))

pub returns-in_default-clause-entries : goal.returns-in_default-clause-entries
returns-in_default-clause-entries g c =
    let es = c.args.self.now.entries.items in
    sym (set_value-missing (eqb c.args.key.now) es c.args.value (missing es c.args.key.now c.in_default.ensures))
