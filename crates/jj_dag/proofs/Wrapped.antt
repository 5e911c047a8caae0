-- From items to items in an `Ok`.
use Rattle.std.proofs.Common.{◌≡◌, ℕ, List, [], ◌∷◌, ◌++◌, map, Option, Result, Ok, Err, refl, sym, ap, subst}
use Rattle.std.specs.Fn.{Shared, Mut, Called, AlwaysReturns, ReturnsEach}
use Rattle.std.specs.Iterator.{IsFinite, IsFiniteIterable, Yields}
use Rattle.std.specs.declared.iter.IntoIterator as into
use Rattle.std.specs.declared.iter.Iterator as iter
use denote.Param.Always.{always_mut, mut_by, mut_next}
use denote.Ref.{Bor}
use Rattle.jj_dag.specs.AllOk.{StepsOk}
use Rattle.jj_dag.specs.FallibleGraphs.{BeginsWith, ok_items}
use Rattle.jj_dag.specs.ClosureGraph.{IsWalkable}
use Rattle.jj_dag.specs.Stops.{IfFailed, IfCycle}
use Rattle.jj_dag.specs.Walk.{DrainsTo}
use Rattle.jj_dag.specs.declared.all_ok.AllOk.{AllOk}
use Rattle.jj_dag.specs.declared.forward.Stop.{Stop}
use Rattle.jj_dag.specs.declared.forward.Stop.TheVariants.{Failed, Cycle}

-- from the results of the inner closure to those of the outer one
pub AlwaysReturns-through : {F G X R S : Type 0} (outer : Mut F X R) (inner : Mut G X S) (P : X → S → Type 0) (Q : X → R → Type 0) (of : F → G)
    → ((f : F) (a : X) (r : R) (f' : F) → Called outer f a r f' → (s : S) × Called inner (of f) a s (of f') × (P a s → Q a r))
    → (f : F) → AlwaysReturns inner P (of f) → AlwaysReturns outer Q f
AlwaysReturns-through {F} {G} {X} {R} {S} outer inner P Q of step f k = record { at = λ xs. each xs f k.at }
  where
    each : (xs : List X) (f : F) → ((ys : List X) → ReturnsEach inner P (of f) ys) → ReturnsEach outer Q f xs
    each [] f k = tt
    each (a ∷ xs) f k = λ r f' h.
        let s = step f a r f' h in
        (s.2 (k (a ∷ []) s.0 (of f') s.1).0, each xs f' (λ ys. (k (a ∷ ys) s.0 (of f') s.1).1))

-- where the inner closure may always be called, the outer one may
pub always_mut-through : {F G X R S : Type 0} (outer : Mut F X R) (inner : Mut G X S) (of : F → G) → ((f : F) (a : X) → always_mut inner (of f) → outer.pre f a)
    → ((f : F) (a : X) (r : R) (f' : F) → Called outer f a r f' → (s : S) × Called inner (of f) a s (of f')) → (f : F) → always_mut inner (of f) → always_mut outer f
always_mut-through outer inner of asks calls f k =
    mut_by outer (λ f. always_mut inner (of f)) asks (λ f a r after k h. let s = calls f a r after h in mut_next inner (of f) a s.0 (of after) (of after) s.1 refl k) f k

module _ {I T E : Type 0} (steps : I → Option T → I → Type 0) where
  abbrev pub wrapped : AllOk I E → Option (Result T E) → AllOk I E → Type 0
  wrapped s r t = StepsOk steps s.items r t.items

  -- a run of the wrapped items is one of the items
  pub unwrapped : (ys : List (Result T E)) (s t : AllOk I E) → Yields wrapped s ys t → (xs : List T) × (ys ≡ map (λ x. Ok x) xs) × Yields steps s.items xs t.items
  unwrapped [] s t e = ([], refl, ap (λ u. u.items) e)
  unwrapped (Ok y ∷ ys) s t (u, first, more) = let r = unwrapped ys u t more in (y ∷ r.0, ap (λ l. Ok y ∷ l) r.1, (u.items, first, r.2))
  unwrapped (Err e ∷ ys) s t (u, first, more) = absurd first

pub all_sound : (K : Type 0) (ns : List ℕ) → ns ≡ ok_items (map {B = Result ℕ K} (λ n. Ok n) ns)
all_sound K [] = refl
all_sound K (n ∷ ns) = ap (λ l. n ∷ l) (all_sound K ns)

pub ok_same : {T : Type 0} (E : Type 0) (xs ys : List T) → map {B = Result T E} (λ x. Ok x) xs ≡ map (λ x. Ok x) ys → xs ≡ ys
ok_same E [] [] e = refl
ok_same E [] (y ∷ ys) e = cc
ok_same E (x ∷ xs) [] e = cc
ok_same E (x ∷ xs) (y ∷ ys) e =
    let tail : map {B = Result _ E} (λ z. Ok z) xs ≡ map (λ z. Ok z) ys = cc in
    let rest : xs ≡ ys = ok_same E xs ys tail in
    let head : x ≡ y = cc in
    cc (head, rest)

-- no item of such a list failed
pub no_error : {T E : Type 0} (front : List (Result T E)) (e : E) (back : List (Result T E)) (ys : List T) → front ++ Err e ∷ back ≡ map (λ y. Ok y) ys → ⊥
no_error [] e back [] h = cc
no_error [] e back (y ∷ ys) h = cc
no_error (x ∷ front) e back [] h = cc
no_error (x ∷ front) e back (y ∷ ys) h =
    let tail : front ++ Err e ∷ back ≡ map (λ z. Ok z) ys = cc in
    no_error front e back ys tail

module _ {U I T E : Type 0} (becomes : U → I → Type 0) (steps : I → Option T → I → Type 0) where
  -- the items in an `Ok` of an iterator that this value becomes are its items
  pub drains_unwrapped : (value : U) (s : AllOk I E) → becomes value s.items → (ys : List (Result T E)) → DrainsTo (λ v k. k ≡ v) (wrapped steps) s ys
      → (xs : List T) × (ys ≡ map (λ x. Ok x) xs) × DrainsTo becomes steps value xs
  drains_unwrapped value s b ys (k, same, (u, (t, run, none))) =
      let r = unwrapped steps ys k t run in
      (r.0, r.1, (s.items, b, (u.items, (t.items, subst (λ i. Yields steps i r.0 t.items) (ap (λ v. v.items) same) r.2, none))))

  -- none of them fails
  pub none_fails : (s : AllOk I E) (front : List (Result T E)) (e : E) → BeginsWith (λ v k. k ≡ v) (wrapped steps) s (front ++ Err e ∷ []) → ⊥
  none_fails s front e (k, same, (t, run)) = let r = unwrapped steps (front ++ Err e ∷ []) k t run in no_error front e [] r.0 r.1

-- where all of them come in an `Ok`
pub drains_ok : {U I T : Type 0} (E : Type 0) (becomes : U → I → Type 0) (steps : I → Option T → I → Type 0) (value : U) (s : AllOk I E) → becomes value s.items → (xs : List T)
    → DrainsTo (λ v k. k ≡ v) (wrapped {E = E} steps) s (map (λ x. Ok x) xs) → DrainsTo becomes steps value xs
drains_ok E becomes steps value s b xs d =
    let r = drains_unwrapped becomes steps value s b (map (λ x. Ok x) xs) d in
    subst (λ (l : List _). DrainsTo becomes steps value l) (sym (ok_same E xs r.0 r.1)) r.2

-- where a walk may call the inner closure, it may call the outer one
pub walkable_wrapped : {T ID E F N G U I : Type 0} (ids : Shared F (Bor T × Unit {0}) ID) (lists : Mut N (Bor T × Unit {0}) U) (value : into.Ghosts U T I) (items : iter.Ghosts I T)
    (outer : Mut G (Bor T × Unit {0}) (AllOk I E)) (inner : G → N) (ends : AllOk I E → Type 0)
    → ((f : G) (a : Bor T × Unit {0}) (r : AllOk I E) (f' : G) → Called outer f a r f' → (n : U) × Called lists (inner f) a n (inner f') × value.into_iter_gives n r.items)
    → ((f : G) (a : Bor T × Unit {0}) → always_mut lists (inner f) → outer.pre f a)
    → ((r : AllOk I E) → IsFiniteIterable (λ v k. k ≡ v) (λ k. items.can_next k.items) (λ k. items.remaining k.items) r → ends r)
    → (id_fn : F) (f : G) → IsWalkable ids lists (IsFiniteIterable value.into_iter_gives items.can_next items.remaining) id_fn (inner f) → IsWalkable ids outer ends id_fn f
walkable_wrapped ids lists value items outer inner ends hands_on asks finite id_fn f k = record {
  id_fn = k.id_fn;
  neighbors_fn = always_mut-through outer lists inner asks (λ f a r after h. let q = hands_on f a r after h in (q.0, q.1)) f k.neighbors_fn;
  lists = AlwaysReturns-through outer lists _ _ inner (λ f a r after h.
      let q = hands_on f a r after h in (q.0, q.1, λ left. finite r (λ it is. subst (λ v. items.can_next v.items × IsFinite (items.remaining v.items)) (sym is) (left r.items q.2)))) f k.lists;
}

-- from a property of the node on a cycle to the result
pub cycle_says : {T E : Type 0} (P : T → Type 0) (stop : Stop T E) (x : T) → stop ≡ Cycle x → IfCycle stop P → P x
cycle_says P stop x is h = subst (λ s. IfCycle s P) is h

-- and of a failed item's error
pub failed_says : {T E : Type 0} (P : E → Type 0) (stop : Stop T E) (e : E) → stop ≡ Failed e → IfFailed stop P → P e
failed_says P stop e is h = subst (λ s. IfFailed s P) is h
