use Rattle.std.proofs.Common.{◌∙◌, ◌∷◌, [], ap, map}
use Rattle.std.specs.List.{slice_range}
use Rattle.jj_dag.proofs.PackedLists.{lists_kept}
use Rattle.jj_dag.proofs.packed_lists.PackedLists.push.Goals as goal

pub returns-clause-lists : goal.returns-clause-lists
returns-clause-lists c =
    let packed = c.args.self.now in
    ap (λ l. map (λ part. slice_range l part.0 part.1) packed.parts.items) c.in_ok-push.ensures.items
    ∙ lists_kept packed.numbers.items (c.args.number ∷ []) packed.parts.items packed.open_start packed.open_within packed.within
