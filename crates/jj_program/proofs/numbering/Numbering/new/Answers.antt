use Rattle.std.proofs.Common.{◌<◌, ◌≤◌, ℕ, List, IfOk, Result, Ok, Err, get_or, subst, sym, ⊎_elim}
use Rattle.std.specs.Prelude.{All}
use Rattle.std.specs.List.{Contains}
use Rattle.std.specs.List.Sorted.{IsStrictlyIncreasing}
use Rattle.std.proofs.lemmas.Bool.{cases_lt}
use Rattle.std.proofs.lemmas.List.Elements.{All-contains, All-from_get_or, All-get_or, Contains-get_or}
use Rattle.jj_program.specs.declared.numbering.Numbering.{Numbering}
use Rattle.jj_program.proofs.numbering.Numbering.new.Goals as goal

pub from_parts-requires-clause-ascending : goal.from_parts-requires-clause-ascending
from_parts-requires-clause-ascending c = subst IsStrictlyIncreasing (sym c.deref.ensures.value) c.sort.ensures.ascending

pub from_parts-requires-clause-above : goal.from_parts-requires-clause-above
from_parts-requires-clause-above c =
    let size = c.max-size.result in
    let collected = c.push_others-2.new.others.items in
    let sorted = c.sort.new.ids.items in
    subst (All (λ id. size ≤ id)) (sym c.deref.ensures.value)
    (All-from_get_or (λ id. size ≤ id) sorted 0 (λ i within.
    let id = get_or sorted i 0 in
    All-contains (λ id. size ≤ id) collected id c.in_ok-push_others-2.ensures.above ((c.sort.ensures.same id).0 (Contains-get_or sorted i 0 within))))

-- ids whose greater ones were collected are numbered
numbered : {E : Type 0} (r : Result Numbering E) (ids collected others : List ℕ) (size : ℕ) → All (λ id. size ≤ id → Contains collected id) ids
    → ((id : ℕ) → Contains collected id → Contains others id)
    → IfOk r (λ n. (id : ℕ) → id < size → Contains n.ids.items id) → IfOk r (λ n. (id : ℕ) → Contains others id → Contains n.ids.items id)
    → IfOk r (λ n. All (Contains n.ids.items) ids)
numbered (Ok n) ids collected others size pushed sorted below joined =
    All-from_get_or (Contains n.ids.items) ids 0 (λ i within.
    let id = get_or ids i 0 in
    ⊎_elim (below id) (λ above. joined id (sorted id (All-get_or (λ id. size ≤ id → Contains collected id) ids i 0 within pushed above))) (cases_lt id size))
numbered (Err e) ids collected others size pushed sorted below joined = tt

pub returns-clause-requested : goal.returns-clause-requested
returns-clause-requested c =
    numbered c.from_parts.result c.args.requested.now c.push_others.new.others.items c.deref.result.now c.max-size.result c.in_ok-push_others.ensures.pushed
    (λ id among. subst (λ xs. Contains xs id) (sym c.deref.ensures.value) ((c.sort.ensures.same id).1 (c.in_ok-push_others-2.ensures.kept id among)))
    c.from_parts.ensures.below c.from_parts.ensures.others

pub returns-clause-targets : goal.returns-clause-targets
returns-clause-targets c =
    numbered c.from_parts.result c.args.targets.now c.push_others-2.new.others.items c.deref.result.now c.max-size.result c.in_ok-push_others-2.ensures.pushed
    (λ id among. subst (λ xs. Contains xs id) (sym c.deref.ensures.value) ((c.sort.ensures.same id).1 among))
    c.from_parts.ensures.below c.from_parts.ensures.others
