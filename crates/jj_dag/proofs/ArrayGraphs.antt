-- The closures over lists of neighbors implement their graph, and members of the lists are members of
-- the array.
use Rattle.std.proofs.Common.{◌≡◌, ◌∙◌, Iter, ℕ, true, List, [], ◌∷◌, Result, Ok, Err, ap, refl, eqb, map, subst}
use Rattle.std.specs.Prelude.{◌++◌, IsOkAnd}
use Rattle.std.specs.Fn.{Called, Mut, Shared, FnReturnsAt}
use Rattle.std.specs.Iterator.{YieldsFirst}
use Rattle.std.specs.Iterator.Adapters.{copied_source}
use Rattle.std.specs.List.{Contains}
use Rattle.std.specs.Slice.Iter.{iter_rest}
use Rattle.std.specs.declared.alloc.AllocError.{AllocError}
use Rattle.std.specs.declared.iter.Copied.{Copied}
use Rattle.std.proofs.iter.Yields.{copies, fronts}
use Rattle.std.proofs.lemmas.Fn.{always_returns_same}
use Rattle.std.proofs.lemmas.Iterator.{YieldsList-from_slice}
use Rattle.std.proofs.lemmas.Iterator.Consumers.{YieldsList-from_copied, YieldsList-from_first}
use denote.Ref.{Bor}
use Rattle.jj_dag.specs.ClosureGraph.{Implements, MayReturn, YieldsOk}
use Rattle.jj_dag.specs.FallibleGraphs.{BeginsWith}
use Rattle.jj_dag.specs.Graph.{Graph, IsAcyclicFrom}
use Rattle.jj_dag.specs.Walk.{DrainsTo, GraphModel}
use Rattle.jj_dag.proofs.ClosureGraphs.{may_return_says}
use Rattle.jj_dag.proofs.FailingWalks.{begun_are}
use Rattle.jj_dag.proofs.Walking.{drained_are}
use Rattle.jj_dag.specs.declared.array_graph.SoundNodes.{SoundNodes}
use Rattle.jj_dag.specs.ArrayGraphs.{HasCycle}
use Rattle.jj_dag.specs.SoundNodes.{sound_left}

-- the model of a graph: every number is a node, and its own id
abbrev pub model_of : Graph → GraphModel ℕ ℕ
model_of graph = record { graph = graph; is_node = λ node. true; node = λ node. node; id = λ node. node }

-- in an acyclic graph no node reaches a cycle
pub none_reached : (graph : Graph) (starts : List ℕ) → (HasCycle graph → ⊥) → IsAcyclicFrom graph starts
none_reached graph starts none a reached cycle = none (a, cycle)

-- if no target reaches a cycle, the graph is acyclic
pub none_at_targets : (graph : Graph) (targets : List ℕ) → ((node target : ℕ) → Contains (graph node) target → Contains targets target) → IsAcyclicFrom graph targets → HasCycle graph → ⊥
none_at_targets graph targets all none (node, (steps, (next, edge, way))) =
    none node (next, all node next edge, (steps, way)) (steps, (next, edge, way))

-- the items of a copied slice iterator
pub copied_nodes : (value : Copied (Iter ℕ)) (xs nodes : List ℕ) → iter_rest (copied_source value) ≡ nodes → DrainsTo (λ s t. t ≡ s) (copies fronts) value xs → map (λ x. x) xs ≡ nodes
copied_nodes value xs nodes rest d = drained_are (λ s t. t ≡ s) (copies fronts) value xs (λ x. x) nodes (λ it b. YieldsList-from_copied (YieldsList-from_slice nodes (ap (λ s. iter_rest (copied_source s)) b ∙ rest))) d

-- nodes in the fallible form
pub sound_nodes : (value : SoundNodes) (xs : List ℕ) → DrainsTo (λ s t. t ≡ s) (YieldsFirst sound_left) value (map (λ x. Ok x) xs) → map (λ x. x) xs ≡ value.nodes.now
sound_nodes value xs d = same xs value.nodes.now (drained_are (λ s t. t ≡ s) (YieldsFirst sound_left) value (map (λ x. Ok x) xs) (λ x. x) (sound_left value)
    (λ it b. YieldsList-from_first (λ x. x) sound_left (sound_left value) (ap sound_left b)) d)
  where
    same : (ys nodes : List ℕ) → map (λ x. x) (map {B = Result ℕ ℕ} (λ x. Ok x) ys) ≡ map (λ node. Ok node) nodes → map (λ x. x) ys ≡ nodes
    same [] [] e = refl
    same [] (node ∷ nodes) e = absurd cc
    same (y ∷ ys) [] e = absurd cc
    same (y ∷ ys) (node ∷ nodes) e =
        let first : y ≡ node = cc in
        let rest : map (λ x. x) (map {B = Result ℕ ℕ} (λ x. Ok x) ys) ≡ map (λ n. Ok n) nodes = cc in
        ap (λ n. n ∷ map (λ x. x) ys) first ∙ ap (λ l. node ∷ l) (same ys nodes rest)

-- an iterator over nodes does not fail
pub no_beginning : (value : SoundNodes) (xs : List (Result ℕ ℕ)) (e : ℕ) → BeginsWith (λ s t. t ≡ s) (YieldsFirst sound_left) value (xs ++ Err e ∷ []) → ⊥
no_beginning value xs e d =
    let begun = begun_are (λ s t. t ≡ s) (YieldsFirst sound_left) value (xs ++ Err e ∷ []) (λ x. x) (sound_left value) (λ it b. YieldsList-from_first (λ x. x) sound_left (sound_left value) (ap sound_left b)) d in
    has_error xs value.nodes.now begun.0 begun.1
  where
    has_error : (ys : List (Result ℕ ℕ)) (nodes : List ℕ) (rest : List (Result ℕ ℕ)) → map (λ node. Ok node) nodes ≡ map (λ x. x) (ys ++ Err e ∷ []) ++ rest → ⊥
    has_error [] [] rest same = cc
    has_error [] (node ∷ nodes) rest same = cc
    has_error (y ∷ ys) [] rest same = cc
    has_error (y ∷ ys) (node ∷ nodes) rest same = let more : map (λ n. Ok n) nodes ≡ map (λ x. x) (ys ++ Err e ∷ []) ++ rest = cc in has_error ys nodes rest more

-- a complete list of copied nodes, and of fallible ones
abbrev YieldsNodes : Copied (Iter ℕ) → List ℕ → Type 0
YieldsNodes = DrainsTo (λ s t. t ≡ s) (copies fronts)

abbrev YieldsItems : SoundNodes → List ℕ → Type 0
YieldsItems r xs = DrainsTo (λ s t. t ≡ s) (YieldsFirst sound_left) r (map Ok xs)

-- a successful result with the targets
abbrev pub HoldsNodes : List ℕ → Result (Copied (Iter ℕ)) ℕ → Type 0
HoldsNodes targets r = IsOkAnd r (λ list. iter_rest (copied_source list) ≡ targets)

yields_held : (targets : List ℕ) (r : Result (Copied (Iter ℕ)) ℕ) (xs : List ℕ) → HoldsNodes targets r → YieldsOk YieldsNodes r xs → map (λ x. x) xs ≡ targets
yields_held targets (Ok list) xs holds d = copied_nodes list xs targets holds d
yields_held targets (Err e) xs holds d = absurd d

module _ (graph : Graph) {F N : Type 0} (ids : Shared F (Bor ℕ × Unit {0}) (Result ℕ AllocError)) (id_fn : F) (neighbors_fn : N)
    (same_id : (x i : ℕ) → FnReturnsAt ids id_fn x (Ok i) → i ≡ x) where
  implements : {R : Type 0} (lists : Mut N (Bor ℕ × Unit {0}) R) (yields : R → List ℕ → Type 0)
      → ((a : Bor ℕ × Unit {0}) (r : R) (after : N) → Called lists neighbors_fn a r after
      → ((xs : List ℕ) → yields r xs → map (λ x. x) xs ≡ graph a.0.now) × (after ≡ neighbors_fn))
      → Implements (model_of graph) eqb ids lists yields id_fn neighbors_fn
  implements lists yields looks = record {
    closed = λ a is b h. refl;
    apart = λ i j is is'. refl;
    ids_match = λ x i is h. same_id x i h;
    neighbors = always_returns_same lists _ neighbors_fn (λ a r after h.
        let k = looks a r after h in (λ xs here d. k.0 xs d, k.1));
  }

  -- a closure that returns the targets
  pub implements_lists : (lists : Mut N (Bor ℕ × Unit {0}) (Copied (Iter ℕ)))
      → ((a : Bor ℕ × Unit {0}) (r : Copied (Iter ℕ)) (after : N) → Called lists neighbors_fn a r after
      → (iter_rest (copied_source r) ≡ graph a.0.now) × (after ≡ neighbors_fn))
      → Implements (model_of graph) eqb ids lists YieldsNodes id_fn neighbors_fn
  implements_lists lists looks = implements lists YieldsNodes (λ a r after h.
      let k = looks a r after h in (λ xs d. copied_nodes r xs (graph a.0.now) k.0 d, k.1))

  -- a closure that returns them in an `Ok`
  pub implements_oks : (lists : Mut N (Bor ℕ × Unit {0}) (Result (Copied (Iter ℕ)) ℕ))
      → ((a : Bor ℕ × Unit {0}) (r : Result (Copied (Iter ℕ)) ℕ) (after : N) → Called lists neighbors_fn a r after
      → HoldsNodes (graph a.0.now) r × (after ≡ neighbors_fn))
      → Implements (model_of graph) eqb ids lists (YieldsOk YieldsNodes) id_fn neighbors_fn
  implements_oks lists looks = implements lists (YieldsOk YieldsNodes) (λ a r after h.
      let k = looks a r after h in (λ xs d. yields_held (graph a.0.now) r xs k.0 d, k.1))

  -- a closure that returns each in an `Ok`
  pub implements_items : (lists : Mut N (Bor ℕ × Unit {0}) SoundNodes)
      → ((a : Bor ℕ × Unit {0}) (r : SoundNodes) (after : N) → Called lists neighbors_fn a r after
      → (r.nodes.now ≡ graph a.0.now) × (after ≡ neighbors_fn))
      → Implements (model_of graph) eqb ids lists YieldsItems id_fn neighbors_fn
  implements_items lists looks = implements lists YieldsItems (λ a r after h.
      let k = looks a r after h in (λ xs d. sound_nodes r xs d ∙ k.0, k.1))

-- a closure that returns each list in an `Ok` returns no error
pub no_error : (graph : Graph) {N : Type 0} (lists : Mut N (Bor ℕ × Unit {0}) (Result (Copied (Iter ℕ)) ℕ)) (neighbors_fn : N)
    → ((a : Bor ℕ × Unit {0}) (r : Result (Copied (Iter ℕ)) ℕ) (after : N) → Called lists neighbors_fn a r after
    → HoldsNodes (graph a.0.now) r × (after ≡ neighbors_fn))
    → (x e : ℕ) → ((r : Result (Copied (Iter ℕ)) ℕ) × MayReturn lists neighbors_fn x r × (r ≡ Err e)) → ⊥
no_error graph lists neighbors_fn looks x e (r, may, is) =
    let holds : HoldsNodes (graph x) r = may_return_says lists (λ y s. HoldsNodes (graph y) s) (always_returns_same lists _ neighbors_fn looks) may in
    subst (HoldsNodes (graph x)) is holds
