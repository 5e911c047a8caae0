use Rattle.std.proofs.lemmas.Bool.{and_from}
use Rattle.std.specs.List.{each_same}
use Rattle.jj_stores.proofs.ClonedEntries.{ids_cloned, set_cloned}
use Rattle.jj_stores.proofs.op_store.view.View.clone.Goals as goal

pub returns : goal.returns
returns c =
    let view = c.args.self.now in
    let heads = set_cloned view.head_ids c.in_ok-clone.field-0
    (each_same view.head_ids.keys c.in_ok-clone.field-0.keys c.in_ok-clone.ensures.cases) in
    let ids = ids_cloned view.wc_commit_ids.entries c.in_ok-clone-2.field-0.entries
    c.in_ok-clone-2.ensures.cases in
    and_from _ _ heads (and_from _ _ c.in_ok-clone_map.ensures (and_from _ _ c.in_ok-clone_map-2.ensures
    (and_from _ _ c.in_ok-clone_map-3.ensures (and_from _ _ c.in_ok-clone_map-4.ensures
    (and_from _ _ c.in_ok-clone_map-5.ensures ids)))))
