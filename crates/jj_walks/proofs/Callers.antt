-- Lemmas that proofs of callers share: closures that implement a graph, and the items of lists.
use Rattle.std.proofs.Common.{◌≡◌, ◌⊎◌, inl, inr, ℕ, ◌==◌, Bool, true, not, List, [], ◌∷◌, ◌++◌, map, Option, Result, Ok, Err, refl, sym, ◌∙◌, ap, subst, eqb}
use Rattle.std.specs.Prelude.{IsOkAnd}
use Rattle.std.specs.Bool.{one_answer}
use Rattle.std.specs.Fn.{Called, Mut, Shared}
use Rattle.std.specs.Global.{Global}
use Rattle.std.specs.Str.{bytes_eq}
use Rattle.std.specs.Vec.Iter.{into_iter_items, into_iter_len, into_iter_steps}
use Rattle.std.specs.declared.alloc.AllocError.{AllocError}
use Rattle.std.specs.declared.vec.IntoIter.{IntoIter}
use Rattle.std.specs.declared.vec.Vec.{Vec}
use Rattle.std.proofs.lemmas.Bool.Decides.{Decides-eqb}
use Rattle.std.proofs.lemmas.Fn.{always_returns_same}
use Rattle.std.proofs.lemmas.Iterator.{YieldsList}
use Rattle.std.proofs.lemmas.Iterator.Adapters.{YieldsList-from_vec}
use Rattle.std.proofs.lemmas.List.{map-id}
use Rattle.std.proofs.lemmas.Slice.Eq.{bytes_eq-Decides}
use denote.Ref.{Bor}
use Rattle.jj_dag.specs.ClosureGraph.{ClosureGraph, Implements, InEachModel, InEachModelOfTwo, IsCycleError, IsInputError, IsMadeBesideCycle, Listing, ReturnsId, YieldsOk}
use Rattle.jj_dag.specs.FallibleGraphs.{BeginsWith, FailsAfterNodes}
use Rattle.jj_dag.specs.Graph.{Graph, OnCycleFrom, ReachedFrom, ReachesCycle}
use Rattle.jj_dag.specs.Walk.{AreNodes, DrainsTo, GraphModel}
use Rattle.jj_dag.proofs.FailingWalks.{begun_are}
use Rattle.jj_dag.proofs.ListNumbers.{list_of_number, list_of_number-number, number, number-not_zero}
use Rattle.jj_dag.proofs.Walking.{drained_are}
use Rattle.jj_dag.proofs.Wrapped.{ok_same}
use Rattle.jj_walks.proofs.OkLists.{no_error_in}

-- ---- lists

-- a list that is drained has the items that its iterator yields
pub drained : {X S U : Type 0} (becomes : U → S → Type 0) (steps : S → Option X → S → Type 0) (value : U) (items xs : List X) → ((it : S) → becomes value it → YieldsList steps (λ y. y) it items) → DrainsTo becomes steps value xs → xs ≡ items
drained becomes steps value items xs yields d = sym (map-id xs) ∙ drained_are becomes steps value xs (λ y. y) items yields d

-- as the list of a result
pub drained_list : {X S U E : Type 0} (P : U → Type 0) (becomes : U → S → Type 0) (steps : S → Option X → S → Type 0) (value : Result U E) (items xs : List X) → ((u : U) → P u → (it : S) → becomes u it → YieldsList steps (λ y. y) it items)
    → IsOkAnd value P → YieldsOk (DrainsTo becomes steps) value xs → xs ≡ items
drained_list P becomes steps (Ok u) items xs yields is d = drained becomes steps u items xs (yields u is) d
drained_list P becomes steps (Err e) items xs yields is d = absurd d

-- a list of items of which none fails
module _ {T E S U : Type 0} (becomes : U → S → Type 0) (steps : S → Option (Result T E) → S → Type 0) (value : U) (nodes : List T) (yields : (it : S) → becomes value it → YieldsList steps (λ y. y) it (map (λ x. Ok x) nodes)) where
  pub ok_drained : (xs : List T) → DrainsTo becomes steps value (map (λ x. Ok x) xs) → xs ≡ nodes
  ok_drained xs d = ok_same E xs nodes (drained becomes steps value (map (λ x. Ok x) nodes) (map (λ x. Ok x) xs) yields d)

  pub never_fails : (e : E) → FailsAfterNodes becomes steps value e → ⊥
  never_fails e (xs, d) =
      let items : List (Result T E) = map (λ x. Ok x) xs ++ Err e ∷ [] in
      let begun = begun_are becomes steps value items (λ y. y) (map (λ x. Ok x) nodes) yields d in
      no_error_in (map (λ x. Ok x) xs) e begun.0 nodes (begun.1 ∙ ap (λ l. l ++ begun.0) (map-id items))

-- a `Vec`
abbrev vec_becomes : {X : Type 0} → Vec X Global → IntoIter X Global → Type 0
vec_becomes v it = (into_iter_items it ≡ v.items) × (into_iter_len it ≡ v.len)

pub vec_drained : {X : Type 0} (v : Vec X Global) (xs : List X) → DrainsTo vec_becomes into_iter_steps v xs → xs ≡ v.items
vec_drained v xs d = drained vec_becomes into_iter_steps v v.items xs (λ it b. YieldsList-from_vec {s = it} v.items b.0 (b.1 ∙ v.ok.0)) d

-- a part of a run over it yields the first of its items
pub vec_begun : {X : Type 0} (v : Vec X Global) (xs : List X) → BeginsWith vec_becomes into_iter_steps v xs → (rest : List X) × (v.items ≡ xs ++ rest)
vec_begun v xs d =
    let begun = begun_are vec_becomes into_iter_steps v xs (λ y. y) v.items (λ it b. YieldsList-from_vec {s = it} v.items b.0 (b.1 ∙ v.ok.0)) d in
    (begun.0, begun.1 ∙ ap (λ l. l ++ begun.0) (map-id xs))

-- ---- ids that are byte strings

pub number_is_node : (id : List ℕ) → not (number id == 0) ≡ true
number_is_node id = ap not (number-not_zero id)

-- ids are equal just where their numbers are
pub number_eq : (x y : List ℕ) → bytes_eq x y ≡ (number x == number y)
number_eq x y =
    let numbers = Decides-eqb (number x) (number y) in
    one_answer (bytes_eq x y) (number x == number y) (bytes_eq-Decides x y)
    ((λ h. sym (list_of_number-number x) ∙ ap list_of_number (numbers.0 h) ∙ list_of_number-number y), λ same. numbers.1 (ap number same))

-- ---- closures without state

-- Closures implement a model if each complete list that `neighbors_fn` returns for a node has the
-- node's neighbors.
pub implements_by : {T ID F N R : Type 0} (g : GraphModel T ID) (eq : ID → ID → Bool) (ids : Shared F (Bor T × Unit {0}) (Result ID AllocError)) (lists : Mut N (Bor T × Unit {0}) R) (yields : R → List T → Type 0) (id_fn : F) (neighbors_fn : N)
    → ((a : ℕ) → g.is_node a ≡ true → AreNodes g (g.graph a))
    → ((i j : ID) → g.is_node (g.id i) ≡ true → g.is_node (g.id j) ≡ true → eq i j ≡ (g.id i == g.id j))
    → ((x : T) (i : ID) → g.is_node (g.node x) ≡ true → ReturnsId ids id_fn x i → g.id i ≡ g.node x)
    → ((a : Bor T × Unit {0}) (r : R) (f : N) → Called lists neighbors_fn a r f → ((xs : List T) → g.is_node (g.node a.0.now) ≡ true → yields r xs → map g.node xs ≡ g.graph (g.node a.0.now)) × (f ≡ neighbors_fn))
    → Implements g eq ids lists yields id_fn neighbors_fn
implements_by g eq ids lists yields id_fn neighbors_fn closed apart ids_match lists_neighbors = record {
  closed = closed;
  apart = apart;
  ids_match = ids_match;
  neighbors = always_returns_same lists _ neighbors_fn lists_neighbors;
}

-- ---- nodes that are numbers

-- each number is a node and its own id
abbrev pub number_model : Graph → GraphModel ℕ ℕ
number_model graph = record { graph = graph; is_node = λ _. true; node = λ n. n; id = λ i. i }

pub implements_numbers : {F N R : Type 0} (graph : Graph) (ids : Shared F (Bor ℕ × Unit {0}) (Result ℕ AllocError)) (lists : Mut N (Bor ℕ × Unit {0}) R) (yields : R → List ℕ → Type 0) (id_fn : F) (neighbors_fn : N)
    → ((n i : ℕ) → ReturnsId ids id_fn n i → i ≡ n)
    → ((a : Bor ℕ × Unit {0}) (r : R) (f : N) → Called lists neighbors_fn a r f → ((xs : List ℕ) → yields r xs → xs ≡ graph a.0.now) × (f ≡ neighbors_fn))
    → Implements (number_model graph) eqb ids lists yields id_fn neighbors_fn
implements_numbers graph ids lists yields id_fn neighbors_fn same_id listed =
    implements_by (number_model graph) eqb ids lists yields id_fn neighbors_fn (λ a is b at. refl) (λ i j a b. refl) (λ x i is h. same_id x i h) (λ a r f h. let k = listed a r f h in (λ xs is d. map-id xs ∙ k.0 xs d, k.1))

module _ {E : Type 0} {graph : ClosureGraph ℕ ℕ E} {start : Listing ℕ E} (numbers : Graph) (starts : List ℕ) (yields : (xs : List ℕ) → start.yields xs → xs ≡ starts) where
  -- P of each model is P of the graph of the numbers
  pub of_numbers : {P : GraphModel ℕ ℕ → List ℕ → Type 0} → InEachModel graph start P → graph.implements (number_model numbers) → P (number_model numbers) starts
  of_numbers {P} k implemented =
      subst (λ (l : List ℕ). P (number_model numbers) l) (map-id k.starts ∙ yields k.starts k.yielded) (k.holds (number_model numbers) implemented (λ a at. refl))

-- of two sets
pub of_two_sets : {E : Type 0} {graph : ClosureGraph ℕ ℕ E} {first second : Listing ℕ E} {P : GraphModel ℕ ℕ → List ℕ → List ℕ → Type 0} (numbers : Graph) (set1 set2 : List ℕ) → ((xs : List ℕ) → first.yields xs → xs ≡ set1)
    → ((xs : List ℕ) → second.yields xs → xs ≡ set2) → InEachModelOfTwo graph first second P → graph.implements (number_model numbers) → P (number_model numbers) set1 set2
of_two_sets {P = P} numbers set1 set2 yields1 yields2 k implemented =
    subst (λ (l : List ℕ). P (number_model numbers) l set2) (map-id k.set1 ∙ yields1 k.set1 k.yielded1)
    (subst (λ (l : List ℕ). P (number_model numbers) (map (λ n. n) k.set1) l) (map-id k.set2 ∙ yields2 k.set2 k.yielded2)
    (k.holds (number_model numbers) implemented (λ a at. refl) (λ a at. refl)))

-- ---- a model that the closures implement

module _ {T ID E : Type 0} {graph : ClosureGraph T ID E} {start : Listing T E} (g : GraphModel T ID) (starts : List ℕ) (implemented : graph.implements g) (nodes : AreNodes g starts) (same : (xs : List T) → start.yields xs → map g.node xs ≡ starts) where
  -- P of each model is P of it
  pub in_model : {P : GraphModel T ID → List ℕ → Type 0} → InEachModel graph start P → P g starts
  in_model {P} k =
      let own = same k.starts k.yielded in
      subst (λ (l : List ℕ). P g l) own (k.holds g implemented (subst (λ (l : List ℕ). AreNodes g l) (sym own) nodes))

  -- an error of the input is one of a start, or of a node that the starts reach
  pub input_error_in : {e : E} → IsInputError graph start e → start.fails e ⊎ ((x : T) × graph.fails x e × ReachedFrom g.graph starts (g.node x))
  input_error_in (inl failed) = inl failed
  input_error_in (inr k) = inr (k.node, k.fails, in_model k.reached)

  -- one of a cycle was made of a node on it
  pub cycle_error_in : {K : Type 0} {made : T → K → Type 0} {e : K} → IsCycleError made graph start e → (x : T) × made x e × OnCycleFrom g.graph starts (g.node x)
  cycle_error_in k = (k.node, k.made_of, in_model k.on_cycle)

  -- or of a node that the starts reach beside it
  pub beside_cycle_in : {K : Type 0} {made : T → K → Type 0} {e : K} → IsMadeBesideCycle made graph start e → (x : T) × made x e × ReachedFrom g.graph starts (g.node x) × ReachesCycle g.graph starts
  beside_cycle_in k = let q = in_model k.holds in (k.node, k.made_of, q.0, q.1)
