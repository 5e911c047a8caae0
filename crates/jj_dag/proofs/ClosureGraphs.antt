-- Lemmas about the graphs that closures implement.
use Rattle.std.proofs.Common.{◌≡◌, inl, inr, ℕ, Bool, true, List, map, Result, Ok, refl, subst}
use Rattle.std.specs.Fn.{Shared, Mut, Called, CalledAt, AlwaysReturns}
use Rattle.std.specs.declared.alloc.AllocError.{AllocError}
use denote.Ref.{Bor}
use Rattle.jj_dag.specs.ClosureGraph.{CallsLead, ClosureGraph, Implements, InEachModel, IsInputError, IsNeighborsError, Listing, MayReturn, ReturnsId}
use Rattle.jj_dag.specs.ClosureGraph.CallsLead.{none, more}
use Rattle.jj_dag.specs.ClosureGraph.MayReturn.{at_once, later}
use Rattle.jj_dag.specs.Walk.{GraphModel}
use Rattle.jj_dag.proofs.Walking.{AlwaysReturns-call}
use Rattle.jj_dag.proofs.Wrapped.{AlwaysReturns-through}

-- one call more
pub leads_on : {F T R : Type 0} {g : Mut F (Bor T × Unit {0}) R} {first f f' : F} {x : T} {r : R} → CallsLead g first f → CalledAt g f x r f' → CallsLead g first f'
leads_on k did = more k did.called

-- each value that the closure may return has a property that each call's result has
pub may_return_says : {F T R : Type 0} (g : Mut F (Bor T × Unit {0}) R) (P : T → R → Type 0) {first : F} {x : T} {r : R} → AlwaysReturns g (λ a r. P a.0.now r) first → MayReturn g first x r → P x r
may_return_says g P {r = r} k (at_once did) = subst (λ y. P y r) did.shows (AlwaysReturns-call g (λ a r. P a.0.now r) k did.called).0
may_return_says g P k (later called may) = may_return_says g P (AlwaysReturns-call g (λ a r. P a.0.now r) k called).1 may

-- a value that the closure may return after calls
pub may_return_later : {F T R : Type 0} {g : Mut F (Bor T × Unit {0}) R} {first f : F} {x : T} {r : R} → CallsLead g first f → MayReturn g f x r → MayReturn g first x r
may_return_later none may = may
may_return_later (more before called) may = may_return_later before (later called may)

-- a call of `id_fn` at a reference that returned an id
pub returns_id : {T ID F : Type 0} (ids : Shared F (Bor T × Unit {0}) (Result ID AllocError)) {f : F} {p : Bor T} {r : Result ID AllocError} {i : ID} → ids.post f (p, tt) r → r ≡ Ok i → ReturnsId ids f p.now i
returns_id ids {f} {p} h is = record { shown = p; shows = refl; says = record { met = subst (λ s. ids.post f (p, tt) s) is h } }

-- the closures implement the same models after a call, and the call returned the neighbors of its
-- node
pub implements_after : {T ID F N R : Type 0} (w : GraphModel T ID) (eq : ID → ID → Bool) (ids : Shared F (Bor T × Unit {0}) (Result ID AllocError)) (lists : Mut N (Bor T × Unit {0}) R) (yields : R → List T → Type 0) {id_fn : F} {f f' : N} {x : T} {r : R}
    → Implements w eq ids lists yields id_fn f → CalledAt lists f x r f'
    → Implements w eq ids lists yields id_fn f' × ((xs : List T) → w.is_node (w.node x) ≡ true → yields r xs → map w.node xs ≡ w.graph (w.node x))
implements_after w eq ids lists yields {r = r} k did =
    let turn = AlwaysReturns-call lists _ k.neighbors did.called in (
      record { closed = k.closed; apart = k.apart; ids_match = k.ids_match; neighbors = turn.1 },
      subst (λ y. (xs : List _) → w.is_node (w.node y) ≡ true → yields r xs → map w.node xs ≡ w.graph (w.node y)) did.shows turn.0,
    )

-- P of each model of one graph and of its starts is P of each model of a graph that has no others
pub each_model : {T ID E K : Type 0} {graph : ClosureGraph T ID E} {start : Listing T E} {graph2 : ClosureGraph T ID K} {start2 : Listing T K} {P : GraphModel T ID → List ℕ → Type 0} → InEachModel graph start P
    → ((w : GraphModel T ID) → graph2.implements w → graph.implements w) → ((xs : List T) → start.yields xs → start2.yields xs) → InEachModel graph2 start2 P
each_model k models yields = record { starts = k.starts; yielded = yields k.starts k.yielded; holds = λ w implemented nodes. k.holds w (models w implemented) nodes }

pub neighbors_error : {T ID E : Type 0} {graph : ClosureGraph T ID E} {start : Listing T E} {graph2 : ClosureGraph T ID E} {start2 : Listing T E} {e : E} → IsNeighborsError graph start e
    → ((w : GraphModel T ID) → graph2.implements w → graph.implements w) → ((x : T) → graph.fails x e → graph2.fails x e)
    → ((xs : List T) → start.yields xs → start2.yields xs) → IsNeighborsError graph2 start2 e
neighbors_error k models fails yields = record { node = k.node; fails = fails k.node k.fails; reached = each_model k.reached models yields }

pub input_error : {T ID E : Type 0} {graph : ClosureGraph T ID E} {start : Listing T E} {graph2 : ClosureGraph T ID E} {start2 : Listing T E} {e : E} → IsInputError graph start e
    → ((w : GraphModel T ID) → graph2.implements w → graph.implements w) → ((x : T) → graph.fails x e → graph2.fails x e)
    → ((xs : List T) → start.yields xs → start2.yields xs) → (start.fails e → start2.fails e) → IsInputError graph2 start2 e
input_error (inl h) models fails yields fails_too = inl (fails_too h)
input_error (inr k) models fails yields fails_too = inr (neighbors_error k models fails yields)

-- A closure that hands on what another one returns.
module _ {T G N R S : Type 0} (outer : Mut G (Bor T × Unit {0}) R) (inner : Mut N (Bor T × Unit {0}) S) (of : G → N) (Hands : S → R → Type 0)
    (hands_on : (f : G) (a : Bor T × Unit {0}) (r : R) (f' : G) → Called outer f a r f' → (s : S) × Called inner (of f) a s (of f') × Hands s r) where
  -- it implements the models of the other one, where its lists are lists of the other one
  pub implements_outside : {ID F : Type 0} (eq : ID → ID → Bool) (ids : Shared F (Bor T × Unit {0}) (Result ID AllocError)) (yields : R → List T → Type 0) (yields_inside : S → List T → Type 0)
      → ((s : S) (r : R) (xs : List T) → Hands s r → yields r xs → yields_inside s xs)
      → (w : GraphModel T ID) (id_fn : F) (f : G) → Implements w eq ids inner yields_inside id_fn (of f) → Implements w eq ids outer yields id_fn f
  implements_outside eq ids yields yields_inside inside w id_fn f k = record {
    closed = k.closed;
    apart = k.apart;
    ids_match = k.ids_match;
    neighbors = AlwaysReturns-through outer inner _ _ of (λ f a r after h. let q = hands_on f a r after h in (q.0, q.1, λ listed xs is d. listed xs is (inside q.0 r xs q.2 d))) f k.neighbors;
  }

  -- a result of the outer closure comes from one of the inner closure
  pub may_return_inside : (first : G) (x : T) (r : R) → MayReturn outer first x r → (s : S) × MayReturn inner (of first) x s × Hands s r
  may_return_inside first x r (at_once {f' = f'} did) =
      let q = hands_on first (did.shown, tt) r f' did.called in
      (q.0, at_once (record { shown = did.shown; shows = did.shows; called = q.1 }), q.2)
  may_return_inside first x r (later {f' = f'} {a = a} {s = s} called may) =
      let q = hands_on first a s f' called in
      let rest = may_return_inside f' x r may in
      (rest.0, later q.1 rest.1, rest.2)
