use Rattle.std.proofs.Common.{map, rules, ◌∙◌, ◌≡◌}
use Rattle.std.specs.Map.Iter.{deref_pair}
use Rattle.std.specs.Ordering.{on}
use Rattle.std.specs.Vec.Iter.{into_iter_items}
use Rattle.std.proofs.lemmas.Cmp.{on_total}
use Rattle.std.proofs.lemmas.List.Sorted.{answers_always}
use Rattle.std.proofs.lemmas.Result.{IfOk-weaker}
use Rattle.jj_content.specs.Content.{insertion_sort}
use Rattle.jj_content.specs.SortingProofs.{sorted_unique_mapped}
use Rattle.jj_content.specs.HashTableProofs.{distinct_items, distinct_by_order}
use Rattle.jj_content.proofs.content_hash.sorted_pairs.Goals as goal

pub returns-clause-pairs : goal.returns-clause-pairs
returns-clause-pairs g c =
    let key : g.row.K.Denot × g.row.V.Denot → g.row.K.Denot = λ e. e.0 in
    let entries = c.args.map.now.entries in
    let distinct = distinct_by_order key g.K.Ord.cmp g.K.PartialEq.eq g.met.K.Ord.matches_eq entries (distinct_items key g.K.PartialEq.eq entries c.iter.ensures.unique) in
    IfOk-weaker c.sorted_unstable_by_key.result _ (λ it. map deref_pair (into_iter_items it) ≡ insertion_sort (on key g.K.Ord.cmp) entries)
    (λ it run. let sorts = run.3 in
    sorted_unique_mapped (on_total key g.met.K.Ord.total) deref_pair entries run.0.items (into_iter_items it)
    ((c.iter.ensures.runs run.0 run.0.seen).4 run.2 ∙ run.1 ∙ c.iter.ensures.rest) distinct sorts.0
    (sorts.1 (λ p. p.0) (answers_always _ _ _ (λ f a r h k. search rules))))
    c.sorted_unstable_by_key.ensures.sorted
