-- The states of a lazily produced topological order, step by step.
use Rattle.std.proofs.Common.{◌≡◌, ℕ, ◌==◌, ◌||◌, ◌<◌, length, Bool, true, false, cond, List, [], ◌∷◌, ◌++◌, map, reverse, refl, sym, ◌∙◌, ap, subst, arith, inl, inr, append_assoc, append-nil, eqb, Some, None, Result, Ok, Err}
use Rattle.std.specs.Fn.{Called, Shared, Mut}
use Rattle.std.specs.HashSet.{contains}
use Rattle.std.specs.List.{Contains, IsDistinct}
use Rattle.std.specs.Cmp.{nat_eq_equiv}
use Rattle.std.specs.Prelude.{OnOk}
use Rattle.std.specs.declared.alloc.AllocError.{AllocError}
use Rattle.std.specs.declared.iter.IntoIterator as into
use Rattle.std.specs.declared.iter.Iterator as iter
use Rattle.std.proofs.lemmas.List.{map-append, reverse-append, reverse-reverse}
use Rattle.std.proofs.lemmas.Map.Keys.{IsDistinct-push}
use denote.Ref.{Bor}
use Rattle.jj_walks.specs.declared.lazy_order.LazyOrder.{LazyOrder}
use Rattle.jj_walks.specs.Chunks.{IsChunkOfAnyGraph, IsOrderPrefix, ContinuesFrom}
use Rattle.jj_walks.specs.NodeLists.{list_of_nodes}
use Rattle.jj_dag.specs.Expanding.{InModels, graph_at, whole}
use Rattle.jj_dag.specs.ClosureGraph.{IsNeighborsError}
use Rattle.jj_dag.specs.Graph.{Graph, ReachedFrom, ReachesCycle, IsAcyclicFrom, IsTopologicalOrder}
use Rattle.jj_walks.specs.LazySteps.{IsCause, IsExhausted, IsLeftIn, IsLeftOf, yielded_or_ready}
use Rattle.jj_dag.specs.Walk.{GraphModel, AreNodes}
use Rattle.jj_dag.proofs.Expanding.{fails_before, reached_through}
use Rattle.jj_dag.proofs.Collecting.{are_nodes}
use Rattle.jj_walks.proofs.LazyOrders.{begun_none, leads_none, begun_more, leads_more, one_stretch, ended_acyclic, ended_order, again_cycle}
use Rattle.jj_dag.proofs.ReadyOrders.{at_split}
use Rattle.jj_dag.proofs.Walking.{has, has-push, eqb-flip, Contains-from_has}
use Rattle.jj_dag.proofs.Plain.{nothing, one_distinct, or_cond}

cycle_through : (g : Graph) (starts left : List ℕ) → ((b : ℕ) → Contains left b → ReachedFrom g starts b) → (a : ℕ) → ReachedFrom g left a × ReachesCycle g left → ReachedFrom g starts a × ReachesCycle g starts
cycle_through g starts left through a (reached, (b, (on, round))) =
    (reached_through g starts left through a reached, (b, (reached_through g starts left through b on, round)))

-- ---- in a model

module _ {T ID E F N C : Type 0} (w : GraphModel T ID) (eq : ID → ID → Bool) (starts : List ℕ) (yielded : List T) (s t : LazyOrder T ID E F N C) where
  yielded_only : s.ready.items ≡ [] → yielded_or_ready w.node yielded s ≡ map w.node yielded
  yielded_only empty = ap (λ (l : List T). map w.node (yielded ++ reverse l)) empty ∙ ap (map w.node) (append-nil yielded)

  -- no node is yielded, and more nodes are ready, or a list failed
  in_model_on : IsLeftIn w eq starts yielded s → t.emitted ≡ s.emitted → IsOrderPrefix w.graph starts (yielded_or_ready w.node yielded t)
      → (t.failed ≡ None → ContinuesFrom w.graph starts (yielded_or_ready w.node yielded t) (map w.node t.start.items)) → IsLeftIn w eq starts yielded t
  in_model_on k same begun rest = record { knows = λ i h. ap (λ e. contains eq e i) same ∙ k.knows i h; once = k.once; begun = begun; rest = rest }

  pub in_model_more : (nodes left : List T) → IsLeftIn w eq starts yielded s → s.ready.items ≡ [] → s.failed ≡ None → t.emitted ≡ s.emitted → reverse t.ready.items ≡ nodes → t.start.items ≡ left
      → IsChunkOfAnyGraph w.graph (map w.node s.start.items) (map w.node nodes) (map w.node left) → IsLeftIn w eq starts yielded t
  in_model_more nodes left k empty sound same ready start stretch =
      let before = yielded_only empty in
      let after : yielded_or_ready w.node yielded t ≡ map w.node yielded ++ map w.node nodes = ap (λ (l : List T). map w.node (yielded ++ l)) ready ∙ map-append w.node yielded nodes in
      let begun : IsOrderPrefix w.graph starts (map w.node yielded) = subst (λ (l : List ℕ). IsOrderPrefix w.graph starts l) before k.begun in
      let leads : ContinuesFrom w.graph starts (map w.node yielded) (map w.node s.start.items) = subst (λ (l : List ℕ). ContinuesFrom w.graph starts l (map w.node s.start.items)) before (k.rest sound) in
      let on : ContinuesFrom w.graph starts (map w.node yielded ++ map w.node nodes) (map w.node left) =
      leads_more w.graph starts (map w.node yielded) (map w.node s.start.items) (map w.node nodes) (map w.node left) leads stretch in
      in_model_on k same
      (subst (λ (l : List ℕ). IsOrderPrefix w.graph starts l) (sym after)
      (begun_more w.graph starts (map w.node yielded) (map w.node s.start.items) (map w.node nodes) begun leads stretch.once (λ a h. stretch.reached a (inl h))))
      (λ _. subst (λ (l : List ℕ). ContinuesFrom w.graph starts l (map w.node t.start.items)) (sym after)
      (subst (λ (l : List T). ContinuesFrom w.graph starts (map w.node yielded ++ map w.node nodes) (map w.node l)) (sym start) on))

  pub in_model_one : (node : T) (left : List T) → IsLeftIn w eq starts yielded s → s.ready.items ≡ [] → s.failed ≡ None → s.start.items ≡ node ∷ [] → t.emitted ≡ s.emitted → t.ready.items ≡ node ∷ [] → t.start.items ≡ left
      → map w.node left ≡ w.graph (w.node node) → IsLeftIn w eq starts yielded t
  in_model_one node left k empty sound alone same ready start listed =
      let stretch : IsChunkOfAnyGraph w.graph (w.node node ∷ []) (w.node node ∷ []) (map w.node left) = subst (λ (l : List ℕ). IsChunkOfAnyGraph w.graph (w.node node ∷ []) (w.node node ∷ []) l) (sym listed) (one_stretch w.graph (w.node node)) in
      in_model_more (node ∷ []) left k empty sound same (ap reverse ready) start
      (subst (λ (l : List T). IsChunkOfAnyGraph w.graph (map w.node l) (w.node node ∷ []) (map w.node left)) (sym alone) stretch)

  pub in_model_failed : (node : T) (error : E) → IsLeftIn w eq starts yielded s → s.ready.items ≡ [] → s.failed ≡ None → s.start.items ≡ node ∷ [] → t.emitted ≡ s.emitted → t.ready.items ≡ node ∷ [] → t.failed ≡ Some error
      → IsLeftIn w eq starts yielded t
  in_model_failed node error k empty sound alone same ready some =
      let before = yielded_only empty in
      let after : yielded_or_ready w.node yielded t ≡ map w.node yielded ++ w.node node ∷ [] = ap (λ (l : List T). map w.node (yielded ++ reverse l)) ready ∙ map-append w.node yielded (node ∷ []) in
      let begun : IsOrderPrefix w.graph starts (map w.node yielded) = subst (λ (l : List ℕ). IsOrderPrefix w.graph starts l) before k.begun in
      let leads : ContinuesFrom w.graph starts (map w.node yielded) (w.node node ∷ []) =
      subst (λ (l : List T). ContinuesFrom w.graph starts (map w.node yielded) (map w.node l)) alone (subst (λ (l : List ℕ). ContinuesFrom w.graph starts l (map w.node s.start.items)) before (k.rest sound)) in
      in_model_on k same
      (subst (λ (l : List ℕ). IsOrderPrefix w.graph starts l) (sym after)
      (begun_more w.graph starts (map w.node yielded) (w.node node ∷ []) (w.node node ∷ []) begun leads (one_distinct (w.node node)) (λ a h. (a, h, (0, refl)))))
      (λ none. let bad : None ≡ Some error = sym none ∙ some in absurd cc)

  -- the next node follows the yielded ones
  turned : (rest : List T) (node : T) → s.ready.items ≡ rest ++ node ∷ [] → yielded_or_ready w.node yielded s ≡ map w.node yielded ++ w.node node ∷ map w.node (reverse rest)
  turned rest node e = ap (λ (l : List T). map w.node (yielded ++ reverse l)) e ∙ ap (λ (l : List T). map w.node (yielded ++ l)) (reverse-append rest (node ∷ [])) ∙ map-append w.node yielded (node ∷ reverse rest)

  pub next_reached : (rest : List T) (node : T) → IsLeftIn w eq starts yielded s → s.ready.items ≡ rest ++ node ∷ [] → ReachedFrom w.graph starts (w.node node)
  next_reached rest node k e =
      k.begun.reached (w.node node) (subst (λ (l : List ℕ). Contains l (w.node node)) (sym (turned rest node e)) (at_split (map w.node yielded) (w.node node) (map w.node (reverse rest))))

  -- whether the node was yielded before, by a look-up of its id
  tested : (rest : List T) (node : T) (i : ID) (b : Bool) → IsLeftIn w eq starts yielded s → s.ready.items ≡ rest ++ node ∷ [] → w.is_node (w.node node) ≡ true → w.id i ≡ w.node node → contains eq s.emitted i ≡ b
      → has (map w.node yielded) (w.node node) ≡ b
  tested rest node i b k e is_node same is =
      let here : w.is_node (w.id i) ≡ true = subst (λ (n : ℕ). w.is_node n ≡ true) (sym same) is_node in
      sym (ap (has (map w.node yielded)) same) ∙ sym (k.knows i here) ∙ is

  pub in_model_again : (rest : List T) (node : T) (i : ID) → IsLeftIn w eq starts yielded s → s.ready.items ≡ rest ++ node ∷ [] → w.is_node (w.node node) ≡ true → w.id i ≡ w.node node → contains eq s.emitted i ≡ true
      → ReachedFrom w.graph starts (w.node node) × ReachesCycle w.graph starts
  in_model_again rest node i k e is_node same is =
      again_cycle w.graph starts (yielded_or_ready w.node yielded s) (map w.node yielded) (map w.node (reverse rest)) (w.node node) k.begun (turned rest node e)
      (Contains-from_has (map w.node yielded) (w.node node) (tested rest node i true k e is_node same is))

  same_rest : IsLeftIn w eq starts yielded s → t.start ≡ s.start → t.failed ≡ s.failed → t.failed ≡ None → ContinuesFrom w.graph starts (yielded_or_ready w.node yielded s) (map w.node t.start.items)
  same_rest k start failed none = subst (λ v. ContinuesFrom w.graph starts (yielded_or_ready w.node yielded s) (map w.node v.items)) (sym start) (k.rest (sym failed ∙ none))

  pub in_model_yielded : (rest : List T) (node : T) (i : ID) → IsLeftIn w eq starts yielded s → s.ready.items ≡ rest ++ node ∷ [] → w.is_node (w.node node) ≡ true → w.id i ≡ w.node node → contains eq s.emitted i ≡ false
      → ((i j : ID) → w.is_node (w.id i) ≡ true → w.is_node (w.id j) ≡ true → eq i j ≡ (w.id i == w.id j)) → ((q : ID) → contains eq t.emitted q ≡ cond (eq i q) true (contains eq s.emitted q))
      → t.ready.items ≡ rest → t.start ≡ s.start → t.failed ≡ s.failed → IsLeftIn w eq starts (yielded ++ node ∷ []) t
  in_model_yielded rest node i k e is_node same is apart updates ready start failed =
      let a = w.node node in
      let here : w.is_node (w.id i) ≡ true = subst (λ (n : ℕ). w.is_node n ≡ true) (sym same) is_node in
      let pushed : map w.node (yielded ++ node ∷ []) ≡ map w.node yielded ++ a ∷ [] = map-append w.node yielded (node ∷ []) in
      let fresh : has (map w.node yielded) a ≡ false = tested rest node i false k e is_node same is in
      let kept : yielded_or_ready w.node yielded s ≡ yielded_or_ready w.node (yielded ++ node ∷ []) t =
      ap (λ (l : List T). map w.node (yielded ++ reverse l)) e ∙ ap (λ (l : List T). map w.node (yielded ++ l)) (reverse-append rest (node ∷ []))
      ∙ ap (map w.node) (sym (append_assoc yielded (node ∷ []) (reverse rest))) ∙ ap (λ (l : List T). map w.node ((yielded ++ node ∷ []) ++ reverse l)) (sym ready) in
      record {
        knows = λ j lt.
            let compared : eq i j ≡ (w.id i == w.id j) = apart i j here lt in
            let known : contains eq s.emitted j ≡ has (map w.node yielded) (w.id j) = k.knows j lt in
            let more : has (map w.node yielded ++ a ∷ []) (w.id j) ≡ ((w.id j == a) || has (map w.node yielded) (w.id j)) = has-push (map w.node yielded) a (w.id j) in
            let flip : (w.id i == w.id j) ≡ (w.id j == a) = subst (λ (n : ℕ). (n == w.id j) ≡ (w.id j == a)) (sym same) (eqb-flip a (w.id j)) in
            updates j ∙ ap (λ b. cond b true (contains eq s.emitted j)) (compared ∙ flip) ∙ ap (λ b. cond (w.id j == a) true b) known ∙ or_cond (w.id j == a) (has (map w.node yielded) (w.id j)) ∙ sym more ∙ sym (ap (λ l. has l (w.id j)) pushed);
        once = subst (λ (l : List ℕ). IsDistinct eqb l) (sym pushed) (IsDistinct-push nat_eq_equiv (map w.node yielded) a k.once fresh);
        begun = subst (λ (l : List ℕ). IsOrderPrefix w.graph starts l) kept k.begun;
        rest = λ none. subst (λ (l : List ℕ). ContinuesFrom w.graph starts l (map w.node t.start.items)) kept (same_rest k start failed none);
      }

  pub in_model_exhausted : IsLeftIn w eq starts yielded s → IsExhausted s → IsTopologicalOrder w.graph starts (map w.node yielded) × IsAcyclicFrom w.graph starts
  in_model_exhausted k (empty, none, sound) =
      let before = yielded_only empty in
      let begun : IsOrderPrefix w.graph starts (map w.node yielded) = subst (λ (l : List ℕ). IsOrderPrefix w.graph starts l) before k.begun in
      let leads : ContinuesFrom w.graph starts (map w.node yielded) [] =
      subst (λ (l : List T). ContinuesFrom w.graph starts (map w.node yielded) (map w.node l)) none (subst (λ (l : List ℕ). ContinuesFrom w.graph starts l (map w.node s.start.items)) before (k.rest sound)) in
      (ended_order w.graph starts (map w.node yielded) begun leads k.once, ended_acyclic w.graph starts (map w.node yielded) leads k.once)

  pub in_model_same : IsLeftIn w eq starts yielded s → t.emitted ≡ s.emitted → t.ready ≡ s.ready → t.start ≡ s.start → t.failed ≡ s.failed → IsLeftIn w eq starts yielded t
  in_model_same k same ready start failed =
      in_model_on k same (subst (λ v. IsOrderPrefix w.graph starts (map w.node (yielded ++ reverse v.items))) (sym ready) k.begun)
      (λ none. subst (λ v. ContinuesFrom w.graph starts (map w.node (yielded ++ reverse v.items)) (map w.node t.start.items)) (sym ready) (same_rest k start failed none))

none_distinct : IsDistinct eqb []
unfolding IsDistinct
none_distinct = tt

pub in_model_starts : {T ID E F N C : Type 0} (w : GraphModel T ID) (eq : ID → ID → Bool) (s : LazyOrder T ID E F N C) (xs : List T) → s.ready.items ≡ [] → s.start.items ≡ xs → ((i : ID) → contains eq s.emitted i ≡ false)
    → IsLeftIn w eq (map w.node xs) [] s
in_model_starts {T} w eq s xs ready start unseen =
    let empty : yielded_or_ready w.node [] s ≡ [] = ap (λ (l : List T). map w.node (reverse l)) ready in
    record {
      knows = λ i h. unseen i;
      once = none_distinct;
      begun = subst (λ (l : List ℕ). IsOrderPrefix w.graph (map w.node xs) l) (sym empty) (begun_none w.graph (map w.node xs));
      rest = λ _. subst (λ (l : List ℕ). ContinuesFrom w.graph (map w.node xs) l (map w.node s.start.items)) (sym empty)
          (subst (λ (l : List T). ContinuesFrom w.graph (map w.node xs) [] (map w.node l)) (sym start) (leads_none w.graph (map w.node xs)));
    }

-- ---- in each model

module _ {T ID E F N C U J : Type 0} (eq : ID → ID → Bool) (ids : Shared F (Bor T × Unit {0}) (Result ID AllocError)) (lists : Mut N (Bor T × Unit {0}) U) (value : into.Ghosts U (Result T E) J) (items : iter.Ghosts J (Result T E))
    {id_fn : F} {neighbors_fn : N} {on_cycle : C} {starts yielded : List T} {s : LazyOrder T ID E F N C} (k : IsLeftOf eq ids lists value items id_fn neighbors_fn on_cycle starts yielded s) where
  -- the closures implement the same models as at first
  pub implement_now : (w : GraphModel T ID) → (graph_at eq ids lists value items id_fn neighbors_fn).implements w → (graph_at eq ids lists value items s.graph.id_fn s.graph.neighbors_fn).implements w
  implement_now w implemented = rw k.graph.id_fn (k.graph.implemented w implemented)

  pub left_nodes : s.failed ≡ None → (w : GraphModel T ID) → (graph_at eq ids lists value items id_fn neighbors_fn).implements w → AreNodes w (map w.node starts) → AreNodes w (map w.node s.start.items)
  left_nodes sound w implemented nodes b at = are_nodes w (whole w) (map w.node starts) implemented.closed nodes b (((k.models w implemented nodes).rest sound).left_reached b at)

  pub next_is_node : (rest : List T) (node : T) → s.ready.items ≡ rest ++ node ∷ [] → (w : GraphModel T ID) → (graph_at eq ids lists value items id_fn neighbors_fn).implements w → AreNodes w (map w.node starts) → w.is_node (w.node node) ≡ true
  next_is_node rest node e w implemented nodes =
      are_nodes w (whole w) (map w.node starts) implemented.closed nodes (w.node node) (next_reached w eq (map w.node starts) yielded s s rest node (k.models w implemented nodes) e)

  -- an error for a node that the nodes left reach is one for a node that the starts reach
  pub fails_left : s.failed ≡ None → (x : T) (error : E) → (graph_at eq ids lists value items s.graph.id_fn s.graph.neighbors_fn).fails x error
      → InModels eq ids lists value items s.graph s.start.items (λ w nodes. ReachedFrom w.graph nodes (w.node x)) → IsNeighborsError (graph_at eq ids lists value items id_fn neighbors_fn) (list_of_nodes starts) error
  fails_left sound x error fails reached = record {
    node = x;
    fails = fails_before eq ids lists value items (record { id_fn = id_fn; neighbors_fn = neighbors_fn }) s.graph k.graph x error fails;
    reached = record {
      starts = starts;
      yielded = refl;
      holds = λ w implemented nodes.
          reached_through w.graph (map w.node starts) (map w.node s.start.items) ((k.models w implemented nodes).rest sound).left_reached (w.node x) (reached w (implement_now w implemented) (left_nodes sound w implemented nodes));
    };
  }

  module _ (cycles : Mut C (T × Unit {0}) E) where
    -- the error was made of such a node, and there is a cycle
    pub made_left : s.failed ≡ None → (x : T) (error : E) (after : C) → Called cycles s.cycle_fn (x, tt) error after
        → InModels eq ids lists value items s.graph s.start.items (λ w nodes. ReachedFrom w.graph nodes (w.node x) × ReachesCycle w.graph nodes) → IsCause eq ids lists value items cycles id_fn neighbors_fn on_cycle starts error
    made_left sound x error after called stuck = inr (record {
      node = x;
      made_of = (after, subst (λ f. Called cycles f (x, tt) error after) k.cycle_fn called);
      holds = record {
        starts = starts;
        yielded = refl;
        holds = λ w implemented nodes.
            cycle_through w.graph (map w.node starts) (map w.node s.start.items) ((k.models w implemented nodes).rest sound).left_reached (w.node x) (stuck w (implement_now w implemented) (left_nodes sound w implemented nodes));
      };
    })

    -- the error was made of a node that was yielded before
    pub made_again : (rest : List T) (x : T) (i : ID) (error : E) (after : C) → s.ready.items ≡ rest ++ x ∷ [] → contains eq s.emitted i ≡ true → Called cycles s.cycle_fn (x, tt) error after
        → ((w : GraphModel T ID) → (graph_at eq ids lists value items s.graph.id_fn s.graph.neighbors_fn).implements w → w.is_node (w.node x) ≡ true → w.id i ≡ w.node x)
        → IsCause eq ids lists value items cycles id_fn neighbors_fn on_cycle starts error
    made_again rest x i error after e old called same = inr (record {
      node = x;
      made_of = (after, subst (λ f. Called cycles f (x, tt) error after) k.cycle_fn called);
      holds = record {
        starts = starts;
        yielded = refl;
        holds = λ w implemented nodes.
            let is_node = next_is_node rest x e w implemented nodes in
            in_model_again w eq (map w.node starts) yielded s s rest x i (k.models w implemented nodes) e is_node (same w (implement_now w implemented) is_node) old;
      };
    })

-- several starts yield a nonempty chunk
pub chunk_some : {T : Type 0} (node : T → ℕ) (starts nodes turned : List T) → 1 < length starts → ((a : ℕ) → Contains (map node starts) a → Contains (map node nodes) a) → turned ≡ reverse nodes → turned ≡ [] → ⊥
chunk_some node [] nodes turned two has e none = omega arith
chunk_some {T} node (x ∷ starts) nodes turned two has e none =
    let empty : nodes ≡ [] = sym (reverse-reverse nodes) ∙ ap reverse (sym e ∙ none) in
    nothing (node x) (subst (λ (l : List T). Contains (map node l) (node x)) empty (has (node x) (0, omega arith, refl)))

-- weakening of a fact about an `Ok`
pub ok_weaker : {A B : Type 0} (r : Result A B) (P Q : Type 0) → (P → Q) → OnOk r P → OnOk r Q
ok_weaker (Ok x) P Q f h = f h
ok_weaker (Err e) P Q f h = tt
