-- The items that the iterator of a vector yields, and the terms of a merge of one difference.
use Rattle.std.proofs.Common.{◌≡◌, ◌∙◌, ◌<◌, ◌≤◌, List, [], ◌∷◌, ◌++◌, length, get_or, map, ap, sym, refl, arith}
use Rattle.std.specs.Global.{Global}
use Rattle.std.specs.Iterator.{Drains}
use Rattle.std.specs.Vec.Iter.{into_iter_items, into_iter_len, into_iter_steps}
use Rattle.std.specs.declared.vec.IntoIter.{IntoIter}
use Rattle.std.proofs.lemmas.Iterator.Adapters.{YieldsList-from_vec}
use Rattle.std.proofs.lemmas.List.{map-id}
use Rattle.jj_merges.specs.Sources.{diff_terms}
use Rattle.jj_merges.specs.declared.merge.diffs.Diff.{Diff}
use Rattle.jj_dag.proofs.Walking.{drained_are}

pub listed_items : {X : Type 0} (items : List X) (s : IntoIter X Global) (xs : List X) → into_iter_items s ≡ items → into_iter_len s ≡ length items → Drains into_iter_steps s xs → xs ≡ items
listed_items items s xs same len d =
    sym (map-id xs)
    ∙ drained_are (λ a b. b ≡ a) into_iter_steps s xs (λ y. y) items (λ it b. YieldsList-from_vec {s = it} items (ap into_iter_items b ∙ same) (ap into_iter_len b ∙ len)) (s, refl, d)

-- the terms of one difference after a first side
pub one_difference : {T : Type 0} (first base second : T) (d : Diff T) (ds : List (Diff T)) → ds ≡ d ∷ [] → d.before ≡ base → d.after ≡ second → first ∷ diff_terms ds ≡ first ∷ base ∷ second ∷ []
one_difference {T} first base second d ds is before after =
    ap (λ (l : List (Diff T)). first ∷ diff_terms l) is
    ∙ ap (λ (b : T). first ∷ b ∷ d.after ∷ []) before
    ∙ ap (λ (a : T). first ∷ base ∷ a ∷ []) after

pub pushed_first : {X : Type 0} (items new : List X) (x : X) → items ≡ [] → new ≡ items ++ x ∷ [] → new ≡ x ∷ []
pushed_first items new x none is = is ∙ ap (λ l. l ++ x ∷ []) none

-- the list that has this element only
pub single : {X : Type 0} (xs : List X) (x : X) → 1 ≤ length xs → length xs < 2 → x ≡ get_or xs 0 x → xs ≡ x ∷ []
single [] x more less is = absurd (omega arith)
single (y ∷ []) x more less is = ap (λ z. z ∷ []) (sym is)
single (y ∷ z ∷ xs) x more less is = absurd (omega arith)
