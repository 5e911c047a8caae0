use Rattle.std.proofs.Common.{◌≡◌, ◌∙◌, ◌∷◌, ◌++◌, [], OnOk, ap, drop, map, subst}
use Rattle.std.specs.List.{slice_range}
use Rattle.std.proofs.lemmas.List.{drop-append-le}
use Rattle.jj_dag.specs.PackedLists.{lists_of}
use Rattle.jj_dag.proofs.PackedLists.{lists_kept}
use Rattle.jj_dag.proofs.packed_lists.PackedLists.push_list.Goals as goal

pub returns-clause-lists : goal.returns-clause-lists
returns-clause-lists c =
    let packed = c.args.self.now in
    let list = c.args.list.now in
    let grown = c.in_ok-extend_from_slice.ensures.items in
    let kept = ap (λ l. map (λ part. slice_range l part.0 part.1) packed.parts.items) grown
    ∙ lists_kept packed.numbers.items list packed.parts.items packed.open_start packed.open_within packed.within in
    let open_list = ap (drop packed.open_start) grown ∙ drop-append-le packed.open_start packed.numbers.items list packed.open_within ∙ ap (λ o. o ++ list) c.requires in
    subst (λ lists. OnOk c.finish_list.result (lists_of c.finish_list.new.self ≡ lists)) (λ i. kept i ++ open_list i ∷ []) c.finish_list.ensures.lists
