-- Iterators of lists.
use Rattle.std.proofs.Common.{◌≡◌, ◌∙◌, List, ◌++◌, ap, sym}
use Rattle.std.specs.Global.{Global}
use Rattle.std.specs.Vec.Iter.{into_iter_items, into_iter_len, into_iter_steps}
use Rattle.std.specs.declared.vec.IntoIter.{IntoIter}
use Rattle.std.specs.declared.vec.Vec.{Vec}
use Rattle.std.proofs.lemmas.Iterator.Adapters.{YieldsList-from_vec}
use Rattle.std.proofs.lemmas.List.{map-id}
use Rattle.jj_dag.specs.FallibleGraphs.{BeginsWith}
use Rattle.jj_dag.specs.Walk.{DrainsTo}
use Rattle.jj_dag.proofs.FailingWalks.{begun_are}
use Rattle.jj_dag.proofs.Walking.{drained_are}

abbrev becomes : {X : Type 0} → Vec X Global → IntoIter X Global → Type 0
becomes v it = (into_iter_items it ≡ v.items) × (into_iter_len it ≡ v.len)

-- such an iterator yields the items of the list
pub vec_drained : {X : Type 0} (v : Vec X Global) (xs : List X) → DrainsTo becomes into_iter_steps v xs → xs ≡ v.items
vec_drained v xs d = sym (map-id xs) ∙ drained_are becomes into_iter_steps v xs (λ y. y) v.items (λ it b. YieldsList-from_vec {s = it} v.items b.0 (b.1 ∙ v.ok.0)) d

-- and a part of a run yields the first of them
pub vec_begun : {X : Type 0} (v : Vec X Global) (xs : List X) → BeginsWith becomes into_iter_steps v xs → (rest : List X) × (v.items ≡ xs ++ rest)
vec_begun v xs d =
    let begun = begun_are becomes into_iter_steps v xs (λ y. y) v.items (λ it b. YieldsList-from_vec {s = it} v.items b.0 (b.1 ∙ v.ok.0)) d in
    (begun.0, begun.1 ∙ ap (λ l. l ++ begun.0) (map-id xs))
