-- The order in which indices were taken is the greatest child-first order of the nodes at them.
use Rattle.std.proofs.Common.{◌≡◌, ◌↔◌, ℕ, zero, suc, ◌<◌, ◌≤◌, true, false, Option, None, Some, IsSome, MatchOption, List, [], ◌∷◌, ◌++◌, length, map, get_or, refl, sym, ◌∙◌, ap, subst, arith, inl, inr, ◌⊎◌, ⊎_elim}
use Rattle.std.specs.List.{Contains, filter_map, cons_option}
use Rattle.std.proofs.lemmas.List.Elements.{Contains-append_cases, Contains-get_or}
use Rattle.jj_dag.proofs.TakingReady.{only_one}
use Rattle.std.specs.declared.cmp.Ordering.{Ordering}
use Rattle.std.specs.Ordering.{is_lt}
use Rattle.std.proofs.lemmas.Bool.{cases_eq}
use Rattle.std.proofs.lemmas.List.{length-map, map-append, get_or-map, get_or_past, get_or_default}
use Rattle.jj_dag.specs.Graph.{HasEdge, ReachedFrom, ReachesCycle, IsTopologicalOrder}
use Rattle.jj_dag.specs.FallibleGraphs.{FallibleGraph, ok_graph}
use Rattle.jj_dag.specs.GreatestOrder.{IsGreatestOrder}
use Rattle.jj_dag.specs.Walk.{GraphModel, AreNodes}
use Rattle.jj_dag.specs.Collecting.{IsCollecting}
use Rattle.jj_dag.specs.ReadyNodes.{TakesGreatestReady, IsStuck, IsNotBelow, index_graph}
use Rattle.jj_dag.proofs.Reaching.{Contains-reached}
use Rattle.jj_dag.proofs.Collecting.{are_nodes}
use Rattle.jj_dag.proofs.ReadyOrders.{here, later, at_split, IsTopologicalOrder-from_taken, NotBelow-from_taken, IsAcyclicFrom-from_child_first, cycle_from_stuck}
use Rattle.jj_dag.proofs.Relabelled.{Contains-map, AtPlaces, relabelled, StrictlyReaches-up}
use Rattle.jj_dag.proofs.Plain.{nothing}

-- ---- indices of a list

-- the numbers below n
below_all : ℕ → List ℕ
below_all zero = []
below_all (suc n) = n ∷ below_all n

has_below : (n k : ℕ) → k < n → Contains (below_all n) k
unfolding below_all
has_below zero k lt = absurd (omega arith)
has_below (suc n) k lt = elim (cases_eq k n) [ inl e ↦ subst (λ (m : ℕ). Contains (n ∷ below_all n) m) (sym e) (here n (below_all n)) | inr ne ↦ later n (below_all n) k (has_below n k (omega arith)) ]

-- a number that a look-up of some element finds
pub found_by : {X : Type 0} (find : X → Option ℕ) (xs : List X) (b : ℕ) → Contains (filter_map find xs) b → (x : X) × (find x ≡ Some b)
found_by find [] b (k, lt, e) = absurd (omega arith)
found_by {X} find (x ∷ xs) b h =
    elim (find x) as (λ o. find x ≡ o → Contains (cons_option o (filter_map find xs)) b → (x : X) × (find x ≡ Some b)) [
      | None ↦ λ e c. found_by find xs b c
      | Some y ↦ λ e c. ⊎_elim (λ l. (x, e ∙ ap (λ n. Some n) (only_one y b l))) (λ r. found_by find xs b r) (Contains-append_cases (y ∷ []) (filter_map find xs) b c)
    ] refl h

-- linked indices are in range
pub linked_within : {X : Type 0} (find : X → Option ℕ) (ids : List (List X)) (ts : List (List ℕ)) (n : ℕ) → ts ≡ map (λ is. filter_map find is) ids → ((i : X) (k : ℕ) → find i ≡ Some k → k < n)
    → (a b : ℕ) → Contains (index_graph ts a) b → b < n
linked_within {X} find ids ts n e indices a b h =
    let q : Contains (get_or (map (λ is. filter_map find is) ids) a []) b = subst (λ (l : List (List ℕ)). Contains (get_or l a []) b) e h in
    elim (cases_lt a (length ids)) [
      | inl lt ↦ let f = found_by find (get_or ids a []) b (subst (λ (l : List ℕ). Contains l b) (get_or-map (λ is. filter_map find is) ids a [] [] lt) q) in indices f.0 b f.1
      | inr ge ↦
          let past : get_or (map (λ is. filter_map find is) ids) a [] ≡ [] = get_or_past _ a [] (rw (length-map ids (λ is. filter_map find is)) ge) in
          absurd (nothing b (subst (λ (l : List ℕ). Contains l b) past q))
    ]
  where
    cases_lt : (a n : ℕ) → (a < n) ⊎ (n ≤ a)
    cases_lt a n = grind arith

pub map_twice : {A B C : Type 0} (f : B → C) (h : A → B) (xs : List A) → map f (map h xs) ≡ map (λ x. f (h x)) xs
map_twice f h [] = refl
map_twice f h (x ∷ xs) = ap (λ l. f (h x) ∷ l) (map_twice f h xs)

-- every slot has a node
pub slots_present : {T : Type 0} (visited : List T) (k : ℕ) → k < length (map (λ x. Some x) visited) → IsSome (get_or (map (λ x. Some x) visited) k None)
slots_present [] k lt = absurd (omega arith)
slots_present (y ∷ ys) zero lt = refl
slots_present (y ∷ ys) (suc k) lt = slots_present ys k (omega arith)

module _ {T ID E : Type 0} (w : GraphModel T ID) (items : FallibleGraph E) (cmp : T → T → Ordering) where
  slot_number : (visited : List T) (k : ℕ) (x : T) → get_or (map (λ x. Some x) visited) k None ≡ Some x → get_or (map w.node visited) k 0 ≡ w.node x
  slot_number [] k x e = absurd cc
  slot_number (y ∷ ys) zero x e = let q : y ≡ x = cc in ap w.node q
  slot_number (y ∷ ys) (suc k) x e = slot_number ys k x e

  slot_below : (visited : List T) (k : ℕ) (x : T) → get_or (map (λ x. Some x) visited) k None ≡ Some x → k < length visited
  slot_below [] k x e = absurd cc
  slot_below (y ∷ ys) zero x e = omega arith
  slot_below (y ∷ ys) (suc k) x e = let less = slot_below ys k x e in omega (arith, less)

  -- the slot of a value that was taken
  taken_slot : (visited vs : List T) (order : List ℕ) → map (λ x. Some x) vs ≡ map (λ k. get_or (map (λ x. Some x) visited) k None) order → (x : T) → Contains vs x → (k : ℕ) × (get_or (map (λ x. Some x) visited) k None ≡ Some x)
  taken_slot visited [] order e x (i, less, is) = absurd (omega arith)
  taken_slot visited (v ∷ vs) [] e x h = absurd cc
  taken_slot visited (v ∷ vs) (k ∷ order) e x (zero, less, is) =
      let h : Some v ≡ get_or (map (λ x. Some x) visited) k None = cc in
      (k, sym h ∙ ap (λ y. Some y) is)
  taken_slot visited (v ∷ vs) (k ∷ order) e x (suc i, less, is) =
      let t : map (λ x. Some x) vs ≡ map (λ k. get_or (map (λ x. Some x) visited) k None) order = cc in
      taken_slot visited vs order t x (i, omega arith, is)

  picked_numbers : (visited vs : List T) (order : List ℕ) → map (λ x. Some x) vs ≡ map (λ k. get_or (map (λ x. Some x) visited) k None) order → map w.node vs ≡ map (λ k. get_or (map w.node visited) k 0) order
  picked_numbers visited [] [] e = refl
  picked_numbers visited [] (k ∷ order) e = absurd cc
  picked_numbers visited (v ∷ vs) [] e = absurd cc
  picked_numbers visited (v ∷ vs) (k ∷ order) e =
      let h : Some v ≡ get_or (map (λ x. Some x) visited) k None = cc in
      let t : map (λ x. Some x) vs ≡ map (λ k. get_or (map (λ x. Some x) visited) k None) order = cc in
      ap (λ n. n ∷ map w.node vs) (sym (slot_number visited k v (sym h))) ∙ ap (λ l. get_or (map w.node visited) k 0 ∷ l) (picked_numbers visited vs order t)

  linked_numbers : (find : ID → Option ℕ) (ns : List ℕ) (is : List ID) → ((i : ID) → Contains is i → (p : ℕ) × (find i ≡ Some p) × (get_or ns p 0 ≡ w.id i)) → map (λ j. get_or ns j 0) (filter_map find is) ≡ map w.id is
  linked_numbers find ns [] h = refl
  linked_numbers find ns (i ∷ is) h =
      let f = h i (here i is) in
      let rest = linked_numbers find ns is (λ j c. h j (later i is j c)) in
      rw (f.1) (ap (λ n. n ∷ map (λ j. get_or ns j 0) (filter_map find is)) f.2 ∙ ap (λ l. w.id i ∷ l) rest)

  module _ (starts : List ℕ) (find : ID → Option ℕ) (visited : List T) (ids : List (List ID)) (ts : List (List ℕ))
      (sound_graph : (a : ℕ) → w.graph a ≡ ok_graph items a) (closed : (a : ℕ) → w.is_node a ≡ true → AreNodes w (w.graph a)) (nodes : AreNodes w starts)
      (collected : IsCollecting w items starts find [] visited ids) (lengths : length ids ≡ length visited) (linked : ts ≡ map (λ is. filter_map find is) ids)
      (indices : (i : ID) (k : ℕ) → find i ≡ Some k → k < length visited) where
    abbrev ns : List ℕ
    ns = map w.node visited

    nothing_queued : (a : ℕ) → Contains ns a ⊎ Contains [] a → Contains ns a
    nothing_queued a h = ⊎_elim (λ l. l) (λ (k, lt, e). absurd (omega arith)) h

    -- the numbers are those that the starts reach
    are_reached : (a : ℕ) → Contains ns a ↔ ReachedFrom w.graph starts a
    are_reached a = (
      collected.visited_reached a,
      λ (s, at, r). Contains-reached w.graph ns (λ b c h edge. nothing_queued c (collected.closed b c h edge)) r.0 s a (nothing_queued s (collected.starts_visited s at)) r.1,
    )

    is_node : (a : ℕ) → Contains ns a → w.is_node a ≡ true
    is_node a h = are_nodes w items starts closed nodes a (collected.visited_reached a h)

    edges_stand : (k : ℕ) → k < length ns → map (λ j. get_or ns j 0) (get_or ts k []) ≡ w.graph (get_or ns k 0)
    edges_stand k lt =
        let n : length ns ≡ length visited = length-map visited w.node in
        let below : k < length ids = omega arith in
        let list : get_or ts k [] ≡ filter_map find (get_or ids k []) = ap (λ l. get_or l k []) linked ∙ get_or-map (λ is. filter_map find is) ids k [] [] below in
        let listed : map w.id (get_or ids k []) ≡ w.graph (get_or ns k 0) =
        sym (get_or-map (λ is. map w.id is) ids k [] [] below) ∙ ap (λ l. get_or l k []) collected.lists ∙ get_or-map w.graph ns k 0 [] lt in
        ap (map (λ j. get_or ns j 0)) list ∙ linked_numbers find ns (get_or ids k []) (λ i h.
        let edge : HasEdge w.graph (get_or ns k 0) (w.id i) = subst (λ (l : List ℕ). Contains l (w.id i)) listed (Contains-map w.id (get_or ids k []) i h) in
        let there = nothing_queued (w.id i) (collected.closed (get_or ns k 0) (w.id i) (Contains-get_or ns k 0 lt) edge) in
        found i (find i) refl there) ∙ listed
      where
        found : (i : ID) (o : Option ℕ) → find i ≡ o → Contains ns (w.id i) → (p : ℕ) × (find i ≡ Some p) × (get_or ns p 0 ≡ w.id i)
        found i None e there = absurd (subst (λ (o : Option ℕ). MatchOption o (Contains ns (w.id i) → ⊥) (λ k. (k < length ns) × (get_or ns k 0 ≡ w.id i))) e (collected.finds i (is_node (w.id i) there)) there)
        found i (Some p) e there = (p, e, (subst (λ (o : Option ℕ). MatchOption o (Contains ns (w.id i) → ⊥) (λ k. (k < length ns) × (get_or ns k 0 ≡ w.id i))) e (collected.finds i (is_node (w.id i) there))).1)

    within : (a b : ℕ) → Contains (get_or ts a []) b → b < length ns
    within a b h = rw (length-map visited w.node) (linked_within find ids ts (length visited) linked indices a b h)

    module _ (order : List ℕ) (takes : TakesGreatestReady (index_graph ts) (λ k. k < length (map (λ x. Some x) visited)) (IsNotBelow cmp (map (λ x. Some x) visited)) order) where
      numbers_taken : TakesGreatestReady w.graph (Contains ns) (AtPlaces w.graph ns ts collected.injective edges_stand within (IsNotBelow cmp (map (λ x. Some x) visited))) (map (λ k. get_or ns k 0) order)
      numbers_taken =
          let same : length (map (λ x. Some x) visited) ≡ length ns = length-map visited (λ x. Some x) ∙ sym (length-map visited w.node) in
          relabelled w.graph ns ts collected.injective edges_stand within _ order (subst (λ (n : ℕ). TakesGreatestReady (index_graph ts) (λ k. k < n) (IsNotBelow cmp (map (λ x. Some x) visited)) order) same takes)

      -- the value at the first difference from another child-first list
      not_below : (vs : List T) → map (λ x. Some x) vs ≡ map (λ k. get_or (map (λ x. Some x) visited) k None) order → (other : List ℕ) → IsTopologicalOrder w.graph starts other
          → (front highs : List T) (x y : T) (lows : List ℕ) → vs ≡ front ++ x ∷ highs → Contains vs y → other ≡ map w.node front ++ w.node y ∷ lows → is_lt (cmp x y) ≡ false
      not_below vs picked other o front highs x y lows e in_y f =
          let n : length ns ≡ length visited = length-map visited w.node in
          let split : map (λ k. get_or ns k 0) order ≡ map w.node front ++ w.node x ∷ map w.node highs =
          sym (picked_numbers visited vs order picked) ∙ ap (map w.node) e ∙ map-append w.node front (x ∷ highs) in
          let told = NotBelow-from_taken w.graph starts (Contains ns) _ are_reached _ numbers_taken other o (map w.node front) (map w.node highs) lows (w.node x) (w.node y) split f in
          let in_x : Contains vs x = subst (λ (l : List T). Contains l x) (sym e) (at_split front x highs) in
          let at_x = taken_slot visited vs order picked x in_x in
          let at_y = taken_slot visited vs order picked y in_y in
          let less_x = slot_below visited at_x.0 x at_x.1 in
          let less_y = slot_below visited at_y.0 y at_y.1 in
          told at_x.0 at_y.0 (omega (arith, n, less_x)) (omega (arith, n, less_y)) (slot_number visited at_x.0 x at_x.1) (slot_number visited at_y.0 y at_y.1) x y at_x.1 at_y.1

      pub order_is : (vs : List T) → map (λ x. Some x) vs ≡ map (λ k. get_or (map (λ x. Some x) visited) k None) order → ((k : ℕ) → k < length (map (λ x. Some x) visited) → Contains order k)
          → IsGreatestOrder cmp w starts vs
      order_is vs picked all =
          let same = picked_numbers visited vs order picked in
          let slots : length (map (λ x. Some x) visited) ≡ length ns = length-map visited (λ x. Some x) ∙ sym (length-map visited w.node) in
          let taken : (a : ℕ) → Contains ns a → Contains (map (λ k. get_or ns k 0) order) a = λ a h.
          let lt : h.0 < length ns = h.1 in
          let at : get_or ns h.0 0 ≡ a = get_or_default ns h.0 0 a h.1 ∙ h.2 in
          subst (λ (n : ℕ). Contains (map (λ k. get_or ns k 0) order) n) at (Contains-map (λ k. get_or ns k 0) order h.0 (all h.0 (omega arith))) in
          let first : IsTopologicalOrder w.graph starts (map w.node vs) = rw same (IsTopologicalOrder-from_taken w.graph starts (Contains ns) _ are_reached _ numbers_taken taken) in
          record {
            nodes = λ a h. are_nodes w items starts closed nodes a ((first.all a).0 h);
            child_first = first;
            no_cycle = IsAcyclicFrom-from_child_first w.graph starts _ first;
            greatest = not_below vs picked;
          }

    pub cycle_is : (order : List ℕ) (k : ℕ) → k < length (map (λ x. Some x) visited) → (Contains order k → ⊥) → IsStuck (index_graph ts) (λ k. k < length (map (λ x. Some x) visited)) order → ReachesCycle w.graph starts
    cycle_is order k lt out stuck =
        let same : length (map (λ x. Some x) visited) ≡ length ns = length-map visited (λ x. Some x) ∙ sym (length-map visited w.node) in
        let r = cycle_from_stuck (index_graph ts) (λ k. k < length (map (λ x. Some x) visited)) (below_all (length (map (λ x. Some x) visited))) order (λ a h. has_below _ a h) stuck k lt out in
        let below : r.0 < length ns = rw (← same) r.1 in
        (get_or ns r.0 0, (collected.visited_reached _ (Contains-get_or ns r.0 0 below), StrictlyReaches-up w.graph ns ts collected.injective edges_stand within r.0 r.0 below r.2))

    -- the node at an index is reached
    pub index_reached : (k : ℕ) (x : T) → get_or (map (λ x. Some x) visited) k None ≡ Some x → k < length (map (λ x. Some x) visited) → ReachedFrom w.graph starts (w.node x)
    index_reached k x e lt =
        let same : length (map (λ x. Some x) visited) ≡ length ns = length-map visited (λ x. Some x) ∙ sym (length-map visited w.node) in
        let at : get_or ns k 0 ≡ w.node x = slot_number visited k x e in
        let below : k < length ns = omega arith in
        collected.visited_reached _ (subst (λ (n : ℕ). Contains ns n) at (Contains-get_or ns k 0 below))
