-- Failed items of orders over items that may fail.
use Rattle.std.proofs.Common.{◌≡◌, Bool, false, List, [], ◌∷◌, ◌++◌, map, refl, sym, ◌∙◌, ap, subst, Option, Result, Ok, Err, Some, None}
use Rattle.std.proofs.lemmas.List.{map-append}
use Rattle.std.specs.Iterator.{Yields}
use Rattle.jj_dag.specs.FallibleGraphs.{BeginsWith}
use Rattle.jj_dag.specs.Walk.{DrainsTo}

-- ---- one graph for another

-- ---- one more item

pub Yields-push : {S A : Type 0} (steps : S → Option A → S → Type 0) (xs : List A) (x : A) (s t u : S) → Yields steps s xs t → steps t (Some x) u → Yields steps s (xs ++ x ∷ []) u
Yields-push {S} steps [] x s t u same step = (u, subst (λ (v : S). steps v (Some x) u) (sym same) step, refl)
Yields-push steps (y ∷ xs) x s t u (j, first, more) step = (j, first, Yields-push steps xs x j t u more step)

pub ok-push : {T E : Type 0} (ys : List (Result T E)) (xs : List T) (x : T) → ys ≡ map (λ z. Ok z) xs → ys ++ Ok x ∷ [] ≡ map (λ z. Ok z) (xs ++ x ∷ [])
ok-push {T} {E} ys xs x e = ap (λ l. l ++ Ok x ∷ []) e ∙ sym (map-append ok xs (x ∷ []))
  where
    ok : T → Result T E
    ok z = Ok z

-- a run that has ended yielded all items
pub drained_nodes : {U S T E : Type 0} (becomes : U → S → Type 0) (steps : S → Option (Result T E) → S → Type 0) (value : U) (xs : List T) {s t u : S} {ys : List (Result T E)}
    → becomes value s → Yields steps s ys t → steps t None u → ys ≡ map (λ z. Ok z) xs → DrainsTo becomes steps value (map (λ z. Ok z) xs)
drained_nodes {T = T} {E} becomes steps value xs {s} {t} {u} {ys} is run last same = subst (λ (l : List (Result T E)). DrainsTo becomes steps value l) same (s, is, (u, (t, run, last)))

-- a run up to a failed item yielded the nodes before it
pub begins_failed : {U S T E : Type 0} (becomes : U → S → Type 0) (steps : S → Option (Result T E) → S → Type 0) (value : U) (xs : List T) (e : E) {s t u : S} {ys : List (Result T E)} {x : Result T E}
    → becomes value s → Yields steps s ys t → steps t (Some x) u → ys ≡ map (λ z. Ok z) xs → x ≡ Err e → BeginsWith becomes steps value (map (λ z. Ok z) xs ++ Err e ∷ [])
begins_failed {T = T} {E} becomes steps value xs e {s} {t} {u} {ys} {x} is run last same failed =
    let all : ys ++ x ∷ [] ≡ map (λ z. Ok z) xs ++ Err e ∷ [] = ap (λ z. ys ++ z ∷ []) failed ∙ ap (λ l. l ++ Err e ∷ []) same in
    (s, is, (u, subst (λ (l : List (Result T E)). Yields steps s l u) all (Yields-push steps ys x s t u run last)))

pub pending-push : {T : Type 0} (xs : List T) (x : T) → map {B = T × Bool} (λ z. (z, false)) (xs ++ x ∷ []) ≡ map (λ z. (z, false)) xs ++ (x, false) ∷ []
pending-push {T} xs x = map-append {B = T × Bool} (λ (z : T). (z, false)) xs (x ∷ [])
