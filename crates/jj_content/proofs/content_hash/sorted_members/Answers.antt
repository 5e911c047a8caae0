use Rattle.std.proofs.Common.{map, ◌∙◌, ◌≡◌}
use Rattle.std.specs.Map.Iter.{deref}
use Rattle.std.specs.Vec.Iter.{into_iter_items}
use Rattle.std.proofs.lemmas.Result.{IfOk-weaker}
use Rattle.jj_content.specs.Content.{insertion_sort}
use Rattle.jj_content.specs.SortingProofs.{sorted_unique_mapped}
use Rattle.jj_content.specs.HashTableProofs.{distinct_by_order}
use Rattle.jj_content.proofs.content_hash.sorted_members.Goals as goal

pub returns-clause-members : goal.returns-clause-members
returns-clause-members g c =
    let key : g.row.K.Denot → g.row.K.Denot = λ k. k in
    let keys = c.args.set.now.keys in
    let distinct = distinct_by_order key g.K.Ord.cmp g.K.PartialEq.eq g.met.K.Ord.matches_eq keys c.iter.ensures.unique in
    IfOk-weaker c.sorted_unstable.result _ (λ it. map deref (into_iter_items it) ≡ insertion_sort g.K.Ord.cmp keys)
    (λ it run. let sorts = run.3 in
    sorted_unique_mapped g.met.K.Ord.total deref keys run.0.items (into_iter_items it)
    ((c.iter.ensures.runs run.0 run.0.seen).4 run.2 ∙ run.1 ∙ c.iter.ensures.rest) distinct sorts.0 sorts.1)
    c.sorted_unstable.ensures.sorted
