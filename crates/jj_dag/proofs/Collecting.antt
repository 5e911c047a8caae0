-- Invariants of a search that collects nodes, each with the ids of its neighbors.
use Rattle.std.proofs.Common.{◌≡◌, ℕ, zero, suc, ◌+◌, ◌<◌, Bool, true, false, cond, Option, None, Some, is_some, Result, Ok, Err, MatchOption, List, [], ◌∷◌, ◌++◌, length, map, get_or, refl, sym, ◌∙◌, ap, subst, arith, ◌==◌, inl, inr, ◌⊎◌, ⊎_elim, true≢false, length-append}
use Rattle.std.specs.List.{Contains, filter_map}
use Rattle.std.specs.Result.{result_ok}
use Rattle.std.proofs.lemmas.Bool.{cases_eq}
use Rattle.std.proofs.lemmas.Bool.Decides.{Decides-eqb}
use Rattle.std.proofs.lemmas.List.{map-append, map_push, length-map, get_or_append_left, get_or_push}
use Rattle.std.proofs.lemmas.List.Elements.{Contains-append_left, Contains-append_right, Contains-append_cases, Contains-push, Contains-push_cases, Contains-get_or}
use Rattle.jj_dag.specs.Graph.{HasEdge, IsWalkOfLength, ReachedFrom}
use Rattle.jj_dag.specs.FallibleGraphs.{FallibleGraph, ok_graph}
use Rattle.jj_dag.specs.Collecting.{IsInjective, IsCollecting}
use Rattle.jj_dag.specs.Walk.{GraphModel, AreNodes}
use Rattle.jj_dag.proofs.Reaching.{ReachedFrom-edge}

-- the items of a list that did not fail
pub ok_items : {X : Type 0} (E : Type 0) (f : X → ℕ) (xs : List X) → filter_map result_ok (map {B = Result ℕ E} (λ x. Ok (f x)) xs) ≡ map f xs
ok_items E f [] = refl
ok_items E f (x ∷ xs) = ap (λ l. f x ∷ l) (ok_items E f xs)

no_failure : {X E : Type 0} (f : X → ℕ) (xs : List X) (e : E) → Contains (map {B = Result ℕ E} (λ x. Ok (f x)) xs) (Err e) → ⊥
no_failure f [] e (k, lt, q) = absurd (omega arith)
no_failure f (x ∷ xs) e (zero, lt, q) = absurd cc
no_failure f (x ∷ xs) e (suc k, lt, q) = no_failure f xs e (k, omega arith, q)

-- ---- indices

pub at_index : (ns : List ℕ) (a : ℕ) (j : ℕ) → j < length ns → get_or ns j 0 ≡ a → Contains ns a
at_index ns a j lt e = subst (λ (n : ℕ). Contains ns n) e (Contains-get_or ns j 0 lt)

pub IsInjective-push : (ns : List ℕ) (a : ℕ) → IsInjective ns → (Contains ns a → ⊥) → IsInjective (ns ++ a ∷ [])
IsInjective-push ns a inj new i j il jl e =
    let n : length (ns ++ a ∷ []) ≡ length ns + 1 = length-append ns (a ∷ []) in
    let last : get_or (ns ++ a ∷ []) (length ns) 0 ≡ a = get_or_push ns a 0 (length ns) refl in
    elim (cases_eq i (length ns)) [
      | inl p ↦ elim (cases_eq j (length ns)) [
        | inl q ↦ p ∙ sym q
        | inr nq ↦
            let lt : j < length ns = omega arith in
            let is_a : get_or (ns ++ a ∷ []) i 0 ≡ a = ap (λ m. get_or (ns ++ a ∷ []) m 0) p ∙ last in
            absurd (new (at_index ns a j lt (sym (get_or_append_left ns (a ∷ []) 0 j lt) ∙ sym e ∙ is_a)))
      ]
      | inr np ↦
          let lt : i < length ns = omega arith in
          elim (cases_eq j (length ns)) [
            | inl q ↦
                let is_a : get_or (ns ++ a ∷ []) j 0 ≡ a = ap (λ m. get_or (ns ++ a ∷ []) m 0) q ∙ last in
                absurd (new (at_index ns a i lt (sym (get_or_append_left ns (a ∷ []) 0 i lt) ∙ e ∙ is_a)))
            | inr nq ↦
                let lt2 : j < length ns = omega arith in
                inj i j lt lt2 (sym (get_or_append_left ns (a ∷ []) 0 i lt) ∙ e ∙ get_or_append_left ns (a ∷ []) 0 j lt2)
          ]
    ]

module _ {T ID E : Type 0} (w : GraphModel T ID) (items : FallibleGraph E) where
  -- numbers that the starts reach are nodes
  pub are_nodes : (starts : List ℕ) → ((a : ℕ) → w.is_node a ≡ true → AreNodes w (w.graph a)) → AreNodes w starts → (a : ℕ) → ReachedFrom w.graph starts a → w.is_node a ≡ true
  are_nodes starts closed nodes a (s, at, r) = along r.0 s (nodes s at) r.1
    where
      along : (n b : ℕ) → w.is_node b ≡ true → IsWalkOfLength w.graph b a n → w.is_node a ≡ true
      along zero b is p = subst (λ (x : ℕ). w.is_node x ≡ true) p is
      along (suc n) b is (c, edge, p) = along n c (closed b is c edge) p

  pub collecting_starts : (xs work visited : List T) (ids : List (List ID)) (find : ID → Option ℕ) → work ≡ xs → visited ≡ [] → ids ≡ [] → ((i : ID) → find i ≡ None) → IsCollecting w items (map w.node xs) find work visited ids
  collecting_starts xs work visited ids find same none no_ids nothing = rw (same, none, no_ids) (record {
    pending_reached = λ a h. (a, h, (0, refl));
    visited_reached = λ a (k, lt, e). absurd (omega arith);
    starts_visited = λ a h. inr h;
    closed = λ a b (k, lt, e). absurd (omega arith);
    injective = λ i j il jl e. absurd (omega arith);
    finds = λ i is. rw (nothing i) (λ (k, lt, e). omega arith);
    lists = refl;
    none_failed = λ a e (k, lt, q). absurd (omega arith);
  })

  last_pending : (rest : List T) (x : T) (work : List T) → work ≡ rest ++ x ∷ [] → map w.node work ≡ map w.node rest ++ w.node x ∷ []
  last_pending rest x work e = ap (map w.node) e ∙ map_push w.node rest x

  pub top_reached : {starts : List ℕ} {find : ID → Option ℕ} {work visited : List T} {ids : List (List ID)} (rest : List T) (x : T) → IsCollecting w items starts find work visited ids → work ≡ rest ++ x ∷ [] → ReachedFrom w.graph starts (w.node x)
  top_reached {work = work} rest x k e = k.pending_reached (w.node x) (subst (λ (l : List ℕ). Contains l (w.node x)) (sym (last_pending rest x work e)) (Contains-push (map w.node rest) (w.node x)))

  -- a node that was visited is passed over
  pub collecting_passed : {starts : List ℕ} {find : ID → Option ℕ} {work visited : List T} {ids : List (List ID)} (rest : List T) (x : T) (i : ID) → IsCollecting w items starts find work visited ids → work ≡ rest ++ x ∷ []
      → w.is_node (w.node x) ≡ true → w.id i ≡ w.node x → (k : ℕ) → find i ≡ Some k → IsCollecting w items starts find rest visited ids
  collecting_passed {starts} {find} {work} {visited} {ids} rest x i k e is same p found =
      let ns = last_pending rest x work e in
      let told : MatchOption (Some p) (Contains (map w.node visited) (w.id i) → ⊥) (λ k. (k < length (map w.node visited)) × (get_or (map w.node visited) k 0 ≡ w.id i)) =
      subst (λ (o : Option ℕ). MatchOption o (Contains (map w.node visited) (w.id i) → ⊥) (λ k. (k < length (map w.node visited)) × (get_or (map w.node visited) k 0 ≡ w.id i))) found (k.finds i (subst (λ (n : ℕ). w.is_node n ≡ true) (sym same) is)) in
      let there : Contains (map w.node visited) (w.node x) = at_index (map w.node visited) (w.node x) p told.0 (told.1 ∙ same) in
      let stays : (a : ℕ) → Contains (map w.node visited) a ⊎ Contains (map w.node work) a → Contains (map w.node visited) a ⊎ Contains (map w.node rest) a = λ a h. elim h [
        | inl l ↦ inl l
        | inr r ↦ elim (Contains-push_cases (map w.node rest) (w.node x) a (subst (λ (l : List ℕ). Contains l a) ns r)) [
          | inl l ↦ inr l
          | inr q ↦ inl (subst (λ (n : ℕ). Contains (map w.node visited) n) q there)
        ]
      ] in
      record {
        pending_reached = λ a h. k.pending_reached a (subst (λ (l : List ℕ). Contains l a) (sym ns) (Contains-append_left (map w.node rest) (w.node x ∷ []) a h));
        visited_reached = k.visited_reached;
        starts_visited = λ a h. stays a (k.starts_visited a h);
        closed = λ a b h edge. stays b (k.closed a b h edge);
        injective = k.injective;
        finds = k.finds;
        lists = k.lists;
        none_failed = k.none_failed;
      }

  -- a new node is visited, and its neighbors are pending
  pub collecting_entered : {starts : List ℕ} {find : ID → Option ℕ} {work visited : List T} {ids : List (List ID)} (eq : ID → ID → Bool) (find2 : ID → Option ℕ) (rest : List T) (x : T) (i : ID) (below work2 visited2 : List T) (new_ids : List ID) (ids2 : List (List ID)) (index : ℕ)
      → ((a : ℕ) → w.graph a ≡ ok_graph items a) → ((a : ℕ) → w.is_node a ≡ true → AreNodes w (w.graph a)) → ((i j : ID) → w.is_node (w.id i) ≡ true → w.is_node (w.id j) ≡ true → eq i j ≡ (w.id i == w.id j))
      → IsCollecting w items starts find work visited ids → work ≡ rest ++ x ∷ [] → w.is_node (w.node x) ≡ true → w.id i ≡ w.node x → find i ≡ None
      → items (w.node x) ≡ map (λ y. Ok (w.node y)) below → map w.id new_ids ≡ map w.node below → work2 ≡ rest ++ below → visited2 ≡ visited ++ x ∷ [] → ids2 ≡ ids ++ new_ids ∷ [] → index ≡ length visited
      → ((q : ID) → find2 q ≡ cond (eq i q) (Some index) (find q)) → IsCollecting w items starts find2 work2 visited2 ids2
  collecting_entered {starts} {find} {work} {visited} {ids} eq find2 rest x i below work2 visited2 new_ids ids2 index sound_graph closed apart k e is same missed listed same_ids more pushed ids_pushed at updates =
      let a = w.node x in
      let ns = last_pending rest x work e in
      let is_i : w.is_node (w.id i) ≡ true = subst (λ (n : ℕ). w.is_node n ≡ true) (sym same) is in
      let new_at : Contains (map w.node visited) (w.id i) → ⊥ = subst (λ (o : Option ℕ). MatchOption o (Contains (map w.node visited) (w.id i) → ⊥) (λ k. (k < length (map w.node visited)) × (get_or (map w.node visited) k 0 ≡ w.id i))) missed (k.finds i is_i) in
      let new : Contains (map w.node visited) a → ⊥ = λ h. new_at (subst (λ (n : ℕ). Contains (map w.node visited) n) (sym same) h) in
      let neighbors : w.graph a ≡ map w.node below = sound_graph a ∙ ap (filter_map result_ok) listed ∙ ok_items E w.node below in
      let ns2 : map w.node work2 ≡ map w.node rest ++ w.graph a = ap (map w.node) more ∙ map-append w.node rest below ∙ ap (λ l. map w.node rest ++ l) (sym neighbors) in
      let gs : map w.node visited2 ≡ map w.node visited ++ a ∷ [] = ap (map w.node) pushed ∙ map_push w.node visited x in
      let len : length (map w.node visited) ≡ length visited = length-map visited w.node in
      let reached = top_reached rest x k e in
      let stays : (b : ℕ) → Contains (map w.node visited) b ⊎ Contains (map w.node work) b → Contains (map w.node visited2) b ⊎ Contains (map w.node work2) b = λ b h. elim h [
        | inl l ↦ inl (subst (λ (l : List ℕ). Contains l b) (sym gs) (Contains-append_left (map w.node visited) (a ∷ []) b l))
        | inr r ↦ elim (Contains-push_cases (map w.node rest) a b (subst (λ (l : List ℕ). Contains l b) ns r)) [
          | inl l ↦ inr (subst (λ (l : List ℕ). Contains l b) (sym ns2) (Contains-append_left (map w.node rest) (w.graph a) b l))
          | inr q ↦ inl (subst (λ (l : List ℕ). Contains l b) (sym gs) (subst (λ (n : ℕ). Contains (map w.node visited ++ a ∷ []) n) q (Contains-push (map w.node visited) a)))
        ]
      ] in
      let split : (b : ℕ) → Contains (map w.node visited2) b → Contains (map w.node visited) b ⊎ (a ≡ b) = λ b h. Contains-push_cases (map w.node visited) a b (subst (λ (l : List ℕ). Contains l b) gs h) in
      record {
        pending_reached = λ b h. elim (Contains-append_cases (map w.node rest) (w.graph a) b (subst (λ (l : List ℕ). Contains l b) ns2 h)) [
          | inl l ↦ k.pending_reached b (subst (λ (l : List ℕ). Contains l b) (sym ns) (Contains-append_left (map w.node rest) (a ∷ []) b l))
          | inr r ↦ ReachedFrom-edge w.graph starts a b reached r
        ];
        visited_reached = λ b h. ⊎_elim (λ l. k.visited_reached b l) (λ q. subst (λ (n : ℕ). ReachedFrom w.graph starts n) q reached) (split b h);
        starts_visited = λ b h. stays b (k.starts_visited b h);
        closed = λ b c h edge. elim (split b h) [
          | inl l ↦ stays c (k.closed b c l edge)
          | inr q ↦ inr (subst (λ (l : List ℕ). Contains l c) (sym ns2) (Contains-append_right (map w.node rest) (w.graph a) c (subst (λ (n : ℕ). HasEdge w.graph n c) (sym q) edge)))
        ];
        injective = subst (λ (l : List ℕ). IsInjective l) (sym gs) (IsInjective-push (map w.node visited) a k.injective new);
        finds = λ j is_j. subst (λ (l : List ℕ). MatchOption (find2 j) (Contains l (w.id j) → ⊥) (λ k. (k < length l) × (get_or l k 0 ≡ w.id j))) (sym gs)
            (subst (λ (o : Option ℕ). MatchOption o (Contains (map w.node visited ++ a ∷ []) (w.id j) → ⊥) (λ k. (k < length (map w.node visited ++ a ∷ [])) × (get_or (map w.node visited ++ a ∷ []) k 0 ≡ w.id j)))
            (sym (updates j ∙ ap (λ b. cond b (Some index) (find j)) (apart i j is_i is_j))) (finds_more j is_j));
        lists = ap (map (λ is. map w.id is)) ids_pushed ∙ map_push (λ is. map w.id is) ids new_ids ∙ ap (λ l. l ++ map w.id new_ids ∷ []) k.lists ∙ ap (λ m. map w.graph (map w.node visited) ++ m ∷ []) (same_ids ∙ sym neighbors)
            ∙ sym (map_push w.graph (map w.node visited) a) ∙ ap (map w.graph) (sym gs);
        none_failed = λ b error h bad. elim (split b h) [
          | inl l ↦ k.none_failed b error l bad
          | inr q ↦ no_failure w.node below error (subst (λ (l : List (Result ℕ E)). Contains l (Err error)) listed (subst (λ (n : ℕ). Contains (items n) (Err error)) (sym q) bad))
        ];
      }
    where
      kept : (j : ID) (o : Option ℕ) → MatchOption o (Contains (map w.node visited) (w.id j) → ⊥) (λ k. (k < length (map w.node visited)) × (get_or (map w.node visited) k 0 ≡ w.id j)) → (w.id i ≡ w.id j → ⊥)
          → MatchOption o (Contains (map w.node visited ++ w.node x ∷ []) (w.id j) → ⊥) (λ k. (k < length (map w.node visited ++ w.node x ∷ [])) × (get_or (map w.node visited ++ w.node x ∷ []) k 0 ≡ w.id j))
      kept j None h ne = λ c. ⊎_elim (λ l. h l) (λ q. ne (same ∙ q)) (Contains-push_cases (map w.node visited) (w.node x) (w.id j) c)
      kept j (Some p) h ne =
          let len : length (map w.node visited ++ w.node x ∷ []) ≡ length (map w.node visited) + 1 = length-append (map w.node visited) (w.node x ∷ []) in
          let lt : p < length (map w.node visited) = h.0 in
          (omega arith, get_or_append_left (map w.node visited) (w.node x ∷ []) 0 p lt ∙ h.1)

      finds_more : (j : ID) → w.is_node (w.id j) ≡ true → MatchOption (cond (w.id i == w.id j) (Some index) (find j)) (Contains (map w.node visited ++ w.node x ∷ []) (w.id j) → ⊥)
          (λ k. (k < length (map w.node visited ++ w.node x ∷ [])) × (get_or (map w.node visited ++ w.node x ∷ []) k 0 ≡ w.id j))
      finds_more j is_j = elim (w.id i == w.id j) as (λ b. w.id i == w.id j ≡ b → MatchOption (cond b (Some index) (find j)) (Contains (map w.node visited ++ w.node x ∷ []) (w.id j) → ⊥)
          (λ k. (k < length (map w.node visited ++ w.node x ∷ [])) × (get_or (map w.node visited ++ w.node x ∷ []) k 0 ≡ w.id j))) [
            | true ↦ λ t.
                let len : length (map w.node visited ++ w.node x ∷ []) ≡ length (map w.node visited) + 1 = length-append (map w.node visited) (w.node x ∷ []) in
                let n : length (map w.node visited) ≡ length visited = length-map visited w.node in
                (omega arith, get_or_push (map w.node visited) (w.node x) 0 index (n ∙ sym at) ∙ sym same ∙ (Decides-eqb (w.id i) (w.id j)).0 t)
            | false ↦ λ t. kept j (find j) (k.finds j is_j) (λ q. true≢false (sym ((Decides-eqb (w.id i) (w.id j)).1 q) ∙ t))
          ] refl

-- a look-up that finds an index finds one of a visited node
pub indices_more : {ID : Type 0} (eq : ID → ID → Bool) (find find2 : ID → Option ℕ) (i : ID) (n index : ℕ) → ((j : ID) (k : ℕ) → find j ≡ Some k → k < n) → index ≡ n
    → ((q : ID) → find2 q ≡ cond (eq i q) (Some index) (find q)) → (j : ID) (k : ℕ) → find2 j ≡ Some k → k < n + 1
indices_more eq find find2 i n index before at updates j k found =
    elim (eq i j) as (λ b. eq i j ≡ b → k < n + 1) [
      | true ↦ λ t. let e : Some index ≡ Some k = sym (updates j ∙ ap (λ b. cond b (Some index) (find j)) t) ∙ found in let q : index ≡ k = cc in omega arith
      | false ↦ λ t. let e : find j ≡ Some k = sym (updates j ∙ ap (λ b. cond b (Some index) (find j)) t) ∙ found in let lt = before j k e in omega arith
    ] refl

pub some_of : {X : Type 0} (o : Option X) → true ≡ is_some o → (x : X) × (o ≡ Some x)
some_of None h = absurd (true≢false h)
some_of (Some x) h = (x, refl)
