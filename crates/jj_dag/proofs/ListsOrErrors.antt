-- Runs of an iterator over the items of a list, or over one error.
use Rattle.std.proofs.Common.{◌≡◌, List as list, [], ◌∷◌, ◌++◌, map, Option, None, Some, Result, Ok, Err, IfOk, is_some, true≢false, refl, sym, ◌∙◌, ap, subst}
use Rattle.std.specs.Fn.{Mut, Called, AlwaysReturns}
use Rattle.std.specs.Iterator.{Count, Drains, IsFinite, IsFiniteIterable, Yields}
use denote.Param.Always.{always_mut}
use denote.Ref.{Bor}
use Rattle.jj_dag.specs.FallibleGraphs.{FailsAfterNodes}
use Rattle.jj_dag.specs.ListOrError.{CanList, StepsListed, IteratesOver, listed_left}
use Rattle.jj_dag.specs.Walk.{DrainsTo}
use Rattle.jj_dag.specs.declared.list_or_error.ListOrError.{ListOrError}
use Rattle.jj_dag.specs.declared.list_or_error.ListOrError.TheVariants.{List, Error}
use Rattle.jj_dag.specs.ClosureGraph.{YieldsOk}
use Rattle.jj_dag.proofs.Wrapped.{AlwaysReturns-through, always_mut-through, no_error, ok_same}

module _ {I T E : Type 0} (steps : I → Option T → I → Type 0) where
  -- the items of a list come in an `Ok`
  from_list : (ys : list (Result T E)) (it : I) (t : ListOrError I E) → Yields (StepsListed steps) (List it) ys t
      → (xs : list T) × (after : I) × (ys ≡ map (λ x. Ok x) xs) × (t ≡ List after) × Yields steps it xs after
  from_list [] it t e = ([], it, refl, sym e, refl)
  from_list (y ∷ ys) it t (Error o, first, more) = absurd first
  from_list (Err e ∷ ys) it t (List next, first, more) = absurd first
  from_list (Ok y ∷ ys) it t (List next, first, more) = let r = from_list ys next t more in (y ∷ r.0, r.1, ap (λ l. Ok y ∷ l) r.2, r.3, (next, first, r.4))

  -- nothing comes after the error
  nothing_after : (ys : list (Result T E)) (t : ListOrError I E) → Yields (StepsListed steps) (Error None) ys t → ys ≡ []
  nothing_after [] t e = refl
  nothing_after (y ∷ ys) t (List it, first, more) = absurd first
  nothing_after (y ∷ ys) t (Error o, first, more) = let no : Some y ≡ None = first.0 in absurd cc

  from_error : (y : Result T E) (ys : list (Result T E)) (e : E) (t : ListOrError I E) → Yields (StepsListed steps) (Error (Some e)) (y ∷ ys) t → y ∷ ys ≡ Err e ∷ []
  from_error y ys e t (List it, first, more) = absurd first
  from_error y ys e t (Error o, first, more) =
      let same : Some y ≡ Some (Err e) = first.0 in
      let is : y ≡ Err e = cc in
      ap (λ z. z ∷ ys) is ∙ ap (λ l. Err e ∷ l) (nothing_after ys t (subst (λ p. Yields (StepsListed steps) (Error p) ys t) first.1 more))

  -- the error comes before the end
  no_end : (e : E) (u : ListOrError I E) → StepsListed steps (Error (Some e)) None u → ⊥
  no_end e (List it) h = h
  no_end e (Error o) h = absurd (true≢false (sym (ap (is_some {T = Result T E}) h.0)))

  drained_error : (ys : list (Result T E)) (e : E) → Drains (StepsListed steps) (Error (Some e)) ys → ys ≡ Err e ∷ []
  drained_error [] e (u, (t, run, end)) = absurd (no_end e u (subst (λ s. StepsListed steps s None u) (sym run) end))
  drained_error (y ∷ ys) e (u, (t, run, end)) = from_error y ys e t run

  begun_error : (front : list (Result T E)) (x e : E) (t : ListOrError I E) → Yields (StepsListed steps) (Error (Some e)) (front ++ Err x ∷ []) t → front ++ Err x ∷ [] ≡ Err e ∷ []
  begun_error [] x e t run = from_error (Err x) [] e t run
  begun_error (y ∷ front) x e t run = from_error y (front ++ Err x ∷ []) e t run

last_error : {T E : Type 0} (xs : list T) (x e : E) → map {B = Result T E} (λ y. Ok y) xs ++ Err x ∷ [] ≡ Err e ∷ [] → x ≡ e
last_error [] x e is = cc
last_error (y ∷ ys) x e is = absurd cc

module _ {U I T E : Type 0} (becomes : U → I → Type 0) (steps : I → Option T → I → Type 0) where
  -- a complete list of the iterator over a result is one of the result
  pub list_yielded : (outcome : Result U E) (s : ListOrError I E) → IteratesOver becomes outcome s → (xs : list T) → DrainsTo (λ v k. k ≡ v) (StepsListed steps) s (map (λ x. Ok x) xs)
      → YieldsOk (DrainsTo becomes steps) outcome xs
  unfolding IteratesOver
  list_yielded (Ok value) (Error o) h xs d = absurd h
  list_yielded (Err e) (List it) h xs d = absurd h
  list_yielded (Err e) (Error o) h xs (j, same, d) =
      let all = drained_error steps (map (λ x. Ok x) xs) e (subst (λ v. Drains (StepsListed steps) v (map (λ x. Ok x) xs)) (same ∙ ap (λ p. Error p) h) d) in
      absurd (no_error [] e [] xs (sym all))
  list_yielded (Ok value) (List it) h xs (j, same, (u, (t, run, end))) =
      let r = from_list steps (map (λ x. Ok x) xs) it t (subst (λ v. Yields (StepsListed steps) v (map (λ x. Ok x) xs) t) same run) in
      (it, h, subst (λ (l : list T). Drains steps it l) (sym (ok_same E xs r.0 r.2)) (ended r.0 r.1 u r.4 (subst (λ v. StepsListed steps v None u) r.3 end)))
    where
      ended : (xs : list T) (after : I) (u : ListOrError I E) → Yields steps it xs after → StepsListed steps (List after) None u → Drains steps it xs
      ended xs after (List last) run end = (last, (after, run, end))
      ended xs after (Error o) run end = absurd end

  -- and its error is that of the result
  pub error_yielded : (outcome : Result U E) (s : ListOrError I E) → IteratesOver becomes outcome s → (x : E) → FailsAfterNodes (λ v k. k ≡ v) (StepsListed steps) s x → outcome ≡ Err x
  unfolding IteratesOver
  error_yielded (Ok value) (Error o) h x k = absurd h
  error_yielded (Err e) (List it) h x k = absurd h
  error_yielded (Ok value) (List it) h x (xs, (j, same, (t, run))) =
      let r = from_list steps (map (λ y. Ok y) xs ++ Err x ∷ []) it t (subst (λ v. Yields (StepsListed steps) v (map (λ y. Ok y) xs ++ Err x ∷ []) t) same run) in
      absurd (no_error (map (λ y. Ok y) xs) x [] r.0 r.2)
  error_yielded (Err e) (Error o) h x (xs, (j, same, (t, run))) =
      ap (λ z. Err z) (sym (last_error xs x e (begun_error steps (map (λ y. Ok y) xs) x e t (subst (λ v. Yields (StepsListed steps) v (map (λ y. Ok y) xs ++ Err x ∷ []) t) (same ∙ ap (λ p. Error p) h) run))))

-- the items of a list that ends, or one error, end
pub finite_listed : {U I E : Type 0} (becomes : U → I → Type 0) (can : I → Type 0) (left : I → Count) (outcome : Result U E) (s : ListOrError I E) → IteratesOver becomes outcome s
    → IfOk outcome (IsFiniteIterable becomes can left) → IsFiniteIterable (λ v k. k ≡ v) (CanList can) (listed_left left) s
unfolding IteratesOver
finite_listed {U} {I} {E} becomes can left outcome s h ends it is = subst (λ v. CanList can v × IsFinite (listed_left left v)) (sym is) (ends_of outcome s h ends)
  where
    ends_of : (n : Result U E) (r : ListOrError I E) → IteratesOver becomes n r → IfOk n (IsFiniteIterable becomes can left) → CanList can r × IsFinite (listed_left left r)
    ends_of (Ok value) (List it) h ends = ends it h
    ends_of (Ok value) (Error o) h ends = absurd h
    ends_of (Err e) (List it) h ends = absurd h
    ends_of (Err e) (Error None) h ends = (tt, tt)
    ends_of (Err e) (Error (Some x)) h ends = (tt, tt)

-- A closure that returns the iterators over the results of another one.
module _ {T E N G U I : Type 0} (lists : Mut N (Bor T × Unit {0}) (Result U E)) (becomes : U → I → Type 0) (steps : I → Option T → I → Type 0)
    (outer : Mut G (Bor T × Unit {0}) (ListOrError I E)) (inner : G → N)
    (hands_on : (f : G) (a : Bor T × Unit {0}) (r : ListOrError I E) (f' : G) → Called outer f a r f' → (n : Result U E) × Called lists (inner f) a n (inner f') × IteratesOver becomes n r) where
  -- the outer closure may be called
  pub callable_listed : ((f : G) (a : Bor T × Unit {0}) → always_mut lists (inner f) → outer.pre f a) → (f : G) → always_mut lists (inner f) → always_mut outer f
  callable_listed asks = always_mut-through outer lists inner asks (λ f a r after h. let q = hands_on f a r after h in (q.0, q.1))

  -- its iterators end
  pub ends_listed : (can : I → Type 0) (left : I → Count) (f : G) → AlwaysReturns lists (λ a r. IfOk r (IsFiniteIterable becomes can left)) (inner f)
      → AlwaysReturns outer (λ a r. IsFiniteIterable (λ v k. k ≡ v) (CanList can) (listed_left left) r) f
  ends_listed can left f k = AlwaysReturns-through outer lists _ _ inner (λ f a r after h.
      let q = hands_on f a r after h in (q.0, q.1, finite_listed becomes can left q.0 r q.2)) f k
