use Rattle.std.proofs.Common.{rules, arith, ◌≡◌, ◌++◌, ◌∷◌, [], ◌<◌, ◌∙◌, Some, ap, eqb, get_or, is_some, length, subst, sym}
use Rattle.std.specs.Map.{keys_of}
use Rattle.std.specs.Prelude.{is_ok}
use Rattle.std.specs.List.Sorted.{IsPermutation}
use Rattle.std.proofs.lemmas.Map.Entries.{length-keys_of}
use Rattle.jj_dag.specs.DenseSets.{IsSparseSet}
use Rattle.jj_dag.specs.NodeMaps.{UpdatesEntry}
use Rattle.jj_dag.proofs.DenseMaps.{has, keys_same, missing, indexed_kept, indexed_pushed, sets, updates_pushed, updates_set}
use Rattle.jj_dag.proofs.DenseSets.{pushed}
use Rattle.jj_dag.proofs.dense_map.DenseMapNodeMapUsize.insert.Goals as goal

pub invariant_of-self : goal.invariant_of-self
invariant_of-self g c =
    let map = c.args.self.now in
    let es = map.entries.items in
    let (inside, is) = c.in-Some.ensures in
    let within : c.in-Some.index < length (keys_of es) = omega (arith, inside, length-keys_of es) in
    record { indexed = subst (λ ks. IsSparseSet ks map.indices.items) (sym (keys_same es map.indices.items map.indexed c.args.key c.in-Some.index within is c.args.value inside)) map.indexed }

pub returns-in-Some-clause-old : goal.returns-in-Some-clause-old
returns-in-Some-clause-old g c =
    let map = c.args.self.now in
    let es = map.entries.items in
    let (inside, is) = c.in-Some.ensures in
    let d = c.index.result.now in
    let at : get_or es c.in-Some.index d ≡ d = search rules in
    sym (has es map.indices.items map.indexed c.args.key c.in-Some.index (omega (arith, inside, length-keys_of es)) is d inside ∙ ap (λ e. Some e.1) at)

pub returns-in-Some-clause-updates : goal.returns-in-Some-clause-updates
returns-in-Some-clause-updates g c =
    let map = c.args.self.now in
    let es = map.entries.items in
    let (inside, is) = c.in-Some.ensures in
    let within : c.in-Some.index < length (keys_of es) = omega (arith, inside, length-keys_of es) in
    let some = ap is_some (has es map.indices.items map.indexed c.args.key c.in-Some.index within is (0, c.args.value) inside) in
    subst (λ l. UpdatesEntry eqb es l c.args.key c.args.value) (sym (sets es map.indices.items map.indexed c.args.key c.in-Some.index within is c.args.value inside)) (updates_set es c.args.key c.args.value some)

pub returns-in-Some-clause-entries : goal.returns-in-Some-clause-entries
returns-in-Some-clause-entries g c =
    let map = c.args.self.now in
    let es = map.entries.items in
    let (inside, is) = c.in-Some.ensures in
    let within : c.in-Some.index < length (keys_of es) = omega (arith, inside, length-keys_of es) in
    sets es map.indices.items map.indexed c.args.key c.in-Some.index within is c.args.value inside

pub invariant_of-self-2 : goal.invariant_of-self-2
invariant_of-self-2 g c =
    let map = c.args.self.now in
    let es = map.entries.items in
    let room = c.make_room.new.indices.items in
    let indexed = indexed_kept (keys_of es) map.indices.items room map.indexed c.make_room.ensures.kept in
    let count : c.len.result ≡ length es = search rules in
    record { indexed = indexed_pushed es c.push.new.self.items room c.args.key c.len.result c.args.value (is_ok c.push.result) c.push.ensures.items indexed c.in_default.ensures c.in_ok-make_room.ensures.room count }

pub returns-clause-old : goal.returns-clause-old
returns-clause-old g c = sym (missing c.args.self.now.entries.items c.args.key c.in_default.ensures)

pub returns-clause-updates : goal.returns-clause-updates
returns-clause-updates g c =
    let es = c.args.self.now.entries.items in
    let grown : c.push.new.self.items ≡ es ++ (c.args.key, c.args.value) ∷ [] = c.in_ok-push.ensures.items in
    subst (λ l. UpdatesEntry eqb es l c.args.key c.args.value) (sym grown) (updates_pushed es c.args.key c.args.value c.in_default.ensures)

pub returns-clause-entries : goal.returns-clause-entries
returns-clause-entries g c =
    let es = c.args.self.now.entries.items in
    let grown : c.push.new.self.items ≡ es ++ (c.args.key, c.args.value) ∷ [] = c.in_ok-push.ensures.items in
    subst (λ l. IsPermutation ((c.args.key, c.args.value) ∷ es) l) (sym grown) (pushed es (c.args.key, c.args.value))
