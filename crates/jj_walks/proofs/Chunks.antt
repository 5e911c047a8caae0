-- The nodes that a look-ahead explored form a chunk, in some order.
use Rattle.std.proofs.Common.{◌≡◌, ℕ, zero, suc, ◌<◌, ◌≤◌, Bool, true, false, cond, List, [], ◌∷◌, ◌++◌, map, length, refl, sym, ◌∙◌, ap, subst, arith, inl, inr, ◌⊎◌, ⊎_elim, true≢false, Option, Some, None, is_some, Result, Ok, Err, MatchOption, eqb, append_assoc, get_or}
use Rattle.std.specs.List.{Contains, IsDistinct, filter, filter_map, cons_option}
use Rattle.std.specs.Result.{result_ok}
use Rattle.std.proofs.lemmas.List.{length-map}
use Rattle.jj_walks.specs.Chunks.{IsChunkOfMany, IsNextChunk, IsChunkOfAnyGraph}
use Rattle.jj_dag.specs.Collecting.{IsCollecting}
use Rattle.jj_dag.specs.FallibleGraphs.{FallibleGraph, ok_graph}
use Rattle.jj_dag.specs.Graph.{Graph, HasEdge, IsWalkOfLength, Reaches, StrictlyReaches, ReachedFrom, ReachesCycle, IsAcyclicFrom, IsTopologicalOrder}
use Rattle.jj_walks.specs.LookingAhead.{HasLooked, copies}
use Rattle.jj_dag.specs.Walk.{GraphModel, AreNodes}
use Rattle.jj_dag.proofs.Collecting.{are_nodes, at_index}
use Rattle.jj_walks.proofs.LookingAhead.{copies_short}
use Rattle.jj_dag.proofs.Reaching.{Contains-reached, Reaches-trans, edge_then_Reaches}
use Rattle.jj_dag.proofs.ReadyOrders.{twice, tail_distinct, here, later, at_split}
use Rattle.jj_dag.proofs.Walking.{has, has-from_Contains, Contains-from_has}
use Rattle.jj_dag.proofs.Plain.{nothing, one_distinct, only}

-- ---- lists

-- in a list without repetition, the suffix after a node is unique
same_rest : (xs f k front rest : List ℕ) (a : ℕ) → IsDistinct eqb xs → xs ≡ f ++ a ∷ k → xs ≡ front ++ a ∷ rest → k ≡ rest
same_rest [] [] k front rest a d e h = absurd cc
same_rest [] (y ∷ f) k front rest a d e h = absurd cc
same_rest (x ∷ xs) [] k [] rest a d e h = cc
same_rest (x ∷ xs) [] k (z ∷ front) rest a d e h =
    let t : front ++ a ∷ rest ≡ k = cc in
    absurd (twice (x ∷ xs) [] k a d e (subst (λ (l : List ℕ). Contains l a) t (at_split front a rest)))
same_rest (x ∷ xs) (y ∷ f) k [] rest a d e h =
    let t : f ++ a ∷ k ≡ rest = cc in
    absurd (twice (x ∷ xs) [] rest a d h (subst (λ (l : List ℕ). Contains l a) t (at_split f a k)))
same_rest (x ∷ xs) (y ∷ f) k (z ∷ front) rest a d e h =
    let p : xs ≡ f ++ a ∷ k = cc in
    let q : xs ≡ front ++ a ∷ rest = cc in
    same_rest xs f k front rest a (tail_distinct x xs d) p q

last_of : (xs : List ℕ) → (xs ≡ [] → ⊥) → (front : List ℕ) × (z : ℕ) × (xs ≡ front ++ z ∷ [])
last_of [] some = absurd (some refl)
last_of (x ∷ []) some = ([], x, refl)
last_of (x ∷ (y ∷ ys)) some =
    let more = last_of (y ∷ ys) (λ e. absurd cc) in
    (x ∷ more.0, more.1, ap (λ l. x ∷ l) more.2)

one_of : (xs : List ℕ) (a b : ℕ) → length xs ≤ 1 → Contains xs a → Contains xs b → a ≡ b
one_of xs a b few (j, lt, e) (k, lt2, h) =
    let first : j ≡ 0 = omega arith in
    let second : k ≡ 0 = omega arith in
    one xs j k first second lt lt2 e h
  where
    one : (l : List ℕ) (m n : ℕ) → m ≡ 0 → n ≡ 0 → m < length l → n < length l → get_or l m a ≡ a → get_or l n b ≡ b → a ≡ b
    one [] m n p q s t e h = absurd (omega arith)
    one (x ∷ l) m n p q s t e h = sym e ∙ ap (λ i. get_or (x ∷ l) i a) p ∙ sym (ap (λ i. get_or (x ∷ l) i b) q) ∙ h

filter_has : (p : ℕ → Bool) (xs : List ℕ) (a : ℕ) → Contains (filter p xs) a → Contains xs a × (p a ≡ true)
filter_has p [] a (k, lt, e) = absurd (omega arith)
filter_has p (x ∷ xs) a h =
    let more : Contains (filter p xs) a → Contains (x ∷ xs) a × (p a ≡ true) = λ k. let r = filter_has p xs a k in (later x xs a r.0, r.1) in
    elim (p x) as (λ b. p x ≡ b → Contains (cond b (x ∷ filter p xs) (filter p xs)) a → Contains (x ∷ xs) a × (p a ≡ true)) [
      | true ↦ λ t k. first t k more
      | false ↦ λ t k. more k
    ] refl h
  where
    first : p x ≡ true → Contains (x ∷ filter p xs) a → (Contains (filter p xs) a → Contains (x ∷ xs) a × (p a ≡ true)) → Contains (x ∷ xs) a × (p a ≡ true)
    first t (zero, lt, e) more = ((0, omega arith, e), subst (λ (n : ℕ). p n ≡ true) e t)
    first t (suc k, lt, e) more = more (k, omega arith, e)

has_filter : (p : ℕ → Bool) (xs : List ℕ) (a : ℕ) → Contains xs a → p a ≡ true → Contains (filter p xs) a
has_filter p [] a (k, lt, e) t = absurd (omega arith)
has_filter p (x ∷ xs) a (zero, lt, e) t =
    let keeps : p x ≡ true = subst (λ (n : ℕ). p n ≡ true) (sym e) t in
    subst (λ b. Contains (cond b (x ∷ filter p xs) (filter p xs)) a) (sym keeps) (0, omega arith, e)
has_filter p (x ∷ xs) a (suc k, lt, e) t =
    let rest = has_filter p xs a (k, omega arith, e) t in
    elim (p x) as (λ b. Contains (cond b (x ∷ filter p xs) (filter p xs)) a) [ true ↦ later x (filter p xs) a rest | false ↦ rest ]

found_kept : {ID : Type 0} (find : ID → Option ℕ) (is : List ID) → filter_map find (filter (λ i. is_some (find i)) is) ≡ filter_map find is
found_kept find [] = refl
found_kept {ID} find (i ∷ is) =
    elim (find i) as (λ o. find i ≡ o → filter_map find (cond (is_some o) (i ∷ filter (λ j. is_some (find j)) is) (filter (λ j. is_some (find j)) is)) ≡ cons_option o (filter_map find is)) [
      | None ↦ λ e. found_kept find is
      | Some k ↦ λ e. ap (λ o. cons_option o (filter_map find (filter (λ j. is_some (find j)) is))) e ∙ ap (λ l. k ∷ l) (found_kept find is)
    ] refl

all_kept : {ID : Type 0} (find : ID → Option ℕ) (ids : List (List ID)) → map (λ is. filter_map find is) (map (λ is. filter (λ i. is_some (find i)) is) ids) ≡ map (λ is. filter_map find is) ids
all_kept find [] = refl
all_kept find (is ∷ ids) = ap (λ l. l ∷ map (λ js. filter_map find js) (map (λ js. filter (λ i. is_some (find i)) js) ids)) (found_kept find is) ∙ ap (λ l. filter_map find is ∷ l) (all_kept find ids)

IsWalkOfLength-more : (g h : Graph) → ((a b : ℕ) → HasEdge g a b → HasEdge h a b) → (n a b : ℕ) → IsWalkOfLength g a b n → IsWalkOfLength h a b n
IsWalkOfLength-more g h more zero a b p = p
IsWalkOfLength-more g h more (suc n) a b (c, e, p) = (c, more a c e, IsWalkOfLength-more g h more n c b p)

-- ---- the graph of the nodes that were explored

module _ {T ID K : Type 0} (w : GraphModel T ID) (items : FallibleGraph K) (starts : List ℕ) (find : ID → Option ℕ) (left visited : List T) (ids : List (List ID))
    (looked : HasLooked w items starts find left visited ids) (closed : (a : ℕ) → w.is_node a ≡ true → AreNodes w (w.graph a)) (nodes : AreNodes w starts) where
  abbrev pub explored : List ℕ
  explored = map w.node visited

  abbrev pub inner : Graph
  inner a = filter (has explored) (w.graph a)

  abbrev pub walk_inner : GraphModel T ID
  walk_inner = record { graph = inner; is_node = w.is_node; node = w.node; id = w.id }

  abbrev pub inner_items : FallibleGraph K
  inner_items a = map (λ b. Ok b) (inner a)

  abbrev pub inner_ids : List (List ID)
  inner_ids = map (λ is. filter (λ i. is_some (find i)) is) ids

  inner_edge : (a b : ℕ) → HasEdge inner a b → HasEdge w.graph a b
  inner_edge a b h = (filter_has (has explored) (w.graph a) b h).0

  pub inner_closed : (a b : ℕ) → HasEdge inner a b → Contains explored b
  inner_closed a b h = Contains-from_has explored b (filter_has (has explored) (w.graph a) b h).1

  keeps_edge : (a b : ℕ) → Contains explored b → HasEdge w.graph a b → HasEdge inner a b
  keeps_edge a b h e = has_filter (has explored) (w.graph a) b e (has-from_Contains explored b h)

  is_node : (a : ℕ) → Contains explored a → w.is_node a ≡ true
  is_node a h = are_nodes w items starts closed nodes a (looked.collecting.visited_reached a h)

  pub inner_ok_graph : (a : ℕ) → inner a ≡ ok_graph inner_items a
  inner_ok_graph a = oks (inner a)
    where
      oks : (ns : List ℕ) → ns ≡ filter_map result_ok (map {B = Result ℕ K} (λ b. Ok b) ns)
      oks [] = refl
      oks (n ∷ ns) = ap (λ l. n ∷ l) (oks ns)

  pub inner_nodes_closed : (a : ℕ) → w.is_node a ≡ true → AreNodes w (inner a)
  inner_nodes_closed a h b e = closed a h b (inner_edge a b e)

  pub explored_nodes : AreNodes w explored
  explored_nodes a h = is_node a h

  known_is : (i : ID) → w.is_node (w.id i) ≡ true → is_some (find i) ≡ has explored (w.id i)
  known_is i is = of (find i) (looked.collecting.finds i is)
    where
      of : (o : Option ℕ) → MatchOption o (Contains explored (w.id i) → ⊥) (λ k. (k < length explored) × (get_or explored k 0 ≡ w.id i)) → is_some o ≡ has explored (w.id i)
      of None out = elim (has explored (w.id i)) as (λ b. has explored (w.id i) ≡ b → false ≡ b) [
        | true ↦ λ t. absurd (out (Contains-from_has explored (w.id i) t))
        | false ↦ λ t. refl
      ] refl
      of (Some k) at = sym (has-from_Contains explored (w.id i) (at_index explored (w.id i) k at.0 at.1))

  ids_kept : (is : List ID) → ((i : ID) → Contains is i → w.is_node (w.id i) ≡ true) → map w.id (filter (λ i. is_some (find i)) is) ≡ filter (has explored) (map w.id is)
  ids_kept [] h = refl
  ids_kept (i ∷ is) h =
      let rest = ids_kept is (λ j c. h j (later i is j c)) in
      let same = known_is i (h i (here i is)) in
      elim (is_some (find i)) as (λ b. b ≡ has explored (w.id i) → map w.id (cond b (i ∷ filter (λ j. is_some (find j)) is) (filter (λ j. is_some (find j)) is)) ≡ cond (has explored (w.id i)) (w.id i ∷ filter (has explored) (map w.id is)) (filter (has explored) (map w.id is))) [
        | true ↦ λ t. ap (λ l. w.id i ∷ l) rest ∙ ap (λ b. cond b (w.id i ∷ filter (has explored) (map w.id is)) (filter (has explored) (map w.id is))) t
        | false ↦ λ t. rest ∙ ap (λ b. cond b (w.id i ∷ filter (has explored) (map w.id is)) (filter (has explored) (map w.id is))) t
      ] same

  lists_kept : (iss : List (List ID)) (ns : List ℕ) → map (λ is. map w.id is) iss ≡ map w.graph ns → ((a : ℕ) → Contains ns a → w.is_node a ≡ true)
      → map (λ is. map w.id is) (map (λ is. filter (λ i. is_some (find i)) is) iss) ≡ map inner ns
  lists_kept [] [] e h = refl
  lists_kept [] (n ∷ ns) e h = absurd cc
  lists_kept (is ∷ iss) [] e h = absurd cc
  lists_kept (is ∷ iss) (n ∷ ns) e h =
      let first : map w.id is ≡ w.graph n = cc in
      let rest : map (λ js. map w.id js) iss ≡ map w.graph ns = cc in
      let n_is : w.is_node n ≡ true = h n (here n ns) in
      let kept : map w.id (filter (λ i. is_some (find i)) is) ≡ inner n =
      ids_kept is (λ i c. closed n n_is (w.id i) (subst (λ (l : List ℕ). Contains l (w.id i)) first (in_map is i c))) ∙ ap (filter (has explored)) first in
      ap (λ l. l ∷ map (λ js. map w.id js) (map (λ js. filter (λ i. is_some (find i)) js) iss)) kept ∙ ap (λ l. inner n ∷ l) (lists_kept iss ns rest (λ a c. h a (later n ns a c)))
    where
      in_map : (js : List ID) (i : ID) → Contains js i → Contains (map w.id js) (w.id i)
      in_map [] i (k, lt, q) = absurd (omega arith)
      in_map (j ∷ js) i (zero, lt, q) = (0, omega arith, ap w.id q)
      in_map (j ∷ js) i (suc k, lt, q) = later (w.id j) (map w.id js) (w.id i) (in_map js i (k, omega arith, q))

  -- the explored nodes as starts of a complete collection
  pub inner_collected : IsCollecting walk_inner inner_items explored find [] visited inner_ids
  inner_collected = record {
    pending_reached = λ a (k, lt, e). absurd (omega arith);
    visited_reached = λ a h. (a, h, (0, refl));
    starts_visited = λ a h. inl h;
    closed = λ a b h e. inl (inner_closed a b e);
    injective = looked.collecting.injective;
    finds = looked.collecting.finds;
    lists = lists_kept ids explored looked.collecting.lists is_node;
    none_failed = λ a fault h bad. no_fault (inner a) fault bad;
  }
    where
      no_fault : (ns : List ℕ) (fault : K) → Contains (map {B = Result ℕ K} (λ n. Ok n) ns) (Err fault) → ⊥
      no_fault [] fault (k, lt, e) = omega arith
      no_fault (n ∷ ns) fault (zero, lt, e) = cc
      no_fault (n ∷ ns) fault (suc k, lt, e) = no_fault ns fault (k, omega arith, e)

  pub inner_linked : (ts : List (List ℕ)) → ts ≡ map (λ is. filter_map find is) ids → ts ≡ map (λ is. filter_map find is) inner_ids
  inner_linked ts e = e ∙ sym (all_kept find ids)

  -- nodes reachable among the explored ones are reachable from the starts
  pub inner_reached : (a : ℕ) → ReachedFrom inner explored a → ReachedFrom w.graph starts a
  inner_reached a (s, at, (n, p)) =
      let from = looked.collecting.visited_reached s at in
      (from.0, from.1, Reaches-trans w.graph from.0 s a from.2.0 from.2.1 (n, IsWalkOfLength-more inner w.graph inner_edge n s a p))

  pub inner_cycle : ReachesCycle inner explored → ReachesCycle w.graph starts
  inner_cycle (a, (reached, (n, p))) = (a, (inner_reached a reached, (n, IsWalkOfLength-more inner w.graph inner_edge (suc n) a a p)))

  module _ (few : length left ≤ 1) (begun : visited ≡ [] → left ≡ []) (order : List ℕ) (first : IsTopologicalOrder inner explored order) where
    abbrev rest : List ℕ
    rest = map w.node left

    few_rest : length rest ≤ 1
    few_rest = rw (length-map left w.node) few

    in_order : (a : ℕ) → Contains explored a → Contains order a
    in_order a h = (first.all a).1 (a, h, (0, refl))

    from_order : (a : ℕ) → Contains order a → Contains explored a
    from_order a h = let r = (first.all a).0 h in Contains-reached inner explored (λ b c k e. inner_closed b c e) r.2.0 r.0 a r.1 r.2.1

    goes : (a b : ℕ) → Contains explored a → HasEdge w.graph a b → Contains explored b ⊎ Contains rest b
    goes a b h e = looked.collecting.closed a b h e

    behind : (front back : List ℕ) (a b : ℕ) → order ≡ front ++ a ∷ back → Contains explored b → HasEdge w.graph a b → Contains back b
    behind front back a b e h edge =
        let at : Contains order a = subst (λ (l : List ℕ). Contains l a) (sym e) (at_split front a back) in
        let s = first.before a b at (0, (b, keeps_edge a b h edge, refl)) in
        subst (λ (l : List ℕ). Contains l b) (same_rest order s.0 s.1 front back a first.once s.2 e) s.3

    next_of : (r : ℕ) → Contains rest r → (b : ℕ) → Contains explored b → (c : ℕ) × HasEdge w.graph b c
    next_of r h b in_b = looked.rootless (some left h) b in_b
      where
        some : (l : List T) → Contains (map w.node l) r → l ≡ [] → ⊥
        some [] (k, lt, e) none = omega arith
        some (x ∷ l) c none = cc

    -- the last explored node leads to the pending one
    last_leads : (r : ℕ) → Contains rest r → (z c : ℕ) × Contains explored z × HasEdge w.graph z c × Contains rest c × (Contains explored c → ⊥)
    last_leads r h =
        let z = last_of order (λ none. no_order none) in
        let in_z : Contains explored z.1 = from_order z.1 (subst (λ (l : List ℕ). Contains l z.1) (sym z.2) (at_split z.0 z.1 [])) in
        let c = next_of r h z.1 in_z in
        let out : Contains explored c.0 → ⊥ = λ k. nothing c.0 (behind z.0 [] z.1 c.0 z.2 k c.1) in
        (z.1, c.0, in_z, c.1, ⊎_elim (λ l. absurd (out l)) (λ k. k) (goes z.1 c.0 in_z c.1), out)
      where
        no_visited : (l : List T) → ((a : ℕ) → Contains (map w.node l) a → ⊥) → l ≡ []
        no_visited [] none = refl
        no_visited (x ∷ l) none = absurd (none (w.node x) (0, omega arith, refl))

        no_order : order ≡ [] → ⊥
        no_order none =
            let empty : visited ≡ [] = no_visited visited (λ a k. nothing a (subst (λ (l : List ℕ). Contains l a) none (in_order a k))) in
            nothing r (subst (λ (l : List T). Contains (map w.node l) r) (begun empty) h)

    -- each explored node leads down to the pending one
    leads : (r : ℕ) → Contains rest r → (back front : List ℕ) → order ≡ front ++ back → (b : ℕ) → Contains back b → StrictlyReaches w.graph b r
    leads r h [] front e b (k, lt, q) = absurd (omega arith)
    leads r h (x ∷ back) front e b at =
        let e2 : order ≡ (front ++ x ∷ []) ++ back = e ∙ sym (append_assoc front (x ∷ []) back) in
        let below = leads r h back (front ++ x ∷ []) e2 in
        let in_x : Contains explored x = from_order x (subst (λ (l : List ℕ). Contains l x) (sym e) (at_split front x back)) in
        let c = next_of r h x in_x in
        let of_x : StrictlyReaches w.graph x r = elim (goes x c.0 in_x c.1) [
          | inl l ↦ let s = below c.0 (behind front back x c.0 e l c.1) in (suc s.0, (c.0, c.1, s.1))
          | inr k ↦ (0, (c.0, c.1, one_of rest c.0 r few_rest k h))
        ] in
        which at of_x below
      where
        which : Contains (x ∷ back) b → StrictlyReaches w.graph x r → ((c : ℕ) → Contains back c → StrictlyReaches w.graph c r) → StrictlyReaches w.graph b r
        which (zero, lt, q) s below = subst (λ (n : ℕ). StrictlyReaches w.graph n r) q s
        which (suc k, lt, q) s below = below b (k, omega arith, q)

    pub left_apart : IsAcyclicFrom w.graph starts → (a : ℕ) → Contains order a → ReachedFrom w.graph rest a → ⊥
    left_apart acyclic a at (r, h, (n, p)) =
        let s = leads r h order [] refl a at in
        acyclic a (looked.collecting.visited_reached a (from_order a at)) (round s.0 s.1)
      where
        round : (m : ℕ) → IsWalkOfLength w.graph a r (suc m) → StrictlyReaches w.graph a a
        round m (c, e, q) = edge_then_Reaches w.graph a c a e (Reaches-trans w.graph c r a m q (n, p))

    starts_in : (a : ℕ) → Contains starts a → Contains explored a
    starts_in a s = ⊎_elim (λ l. l) (λ h. elim (has explored a) as (λ b. has explored a ≡ b → Contains explored a) [
      | true ↦ λ t. Contains-from_has explored a t
      | false ↦ λ t.
          let z = last_leads a h in
          let edge : HasEdge w.graph z.0 a = subst (λ (n : ℕ). HasEdge w.graph z.0 n) (one_of rest z.1 a few_rest z.4 h) z.3 in
          let two = looked.twice a z.0 s (λ k. true≢false (sym (has-from_Contains explored a k) ∙ t)) z.2 edge in
          let one : copies w.node left a ≤ length left = copies_short w.node left a in
          absurd (omega arith)
    ] refl) (looked.collecting.starts_visited a s)

    down : (n b a : ℕ) → Contains explored b → IsWalkOfLength w.graph b a n → Contains order a ⊎ ReachedFrom w.graph rest a
    down zero b a h p = inl (subst (λ (m : ℕ). Contains order m) p (in_order b h))
    down (suc n) b a h (c, e, p) = elim (goes b c h e) [
      | inl l ↦ down n c a l p
      | inr k ↦ inr (c, k, (n, p))
    ]

    within : IsAcyclicFrom w.graph starts → (n a b : ℕ) → Contains explored a → Contains order b → IsWalkOfLength w.graph a b n → IsWalkOfLength inner a b n
    within acyclic zero a b h at p = p
    within acyclic (suc n) a b h at (c, e, p) = elim (goes a c h e) [
      | inl l ↦ (c, keeps_edge a c l e, within acyclic n c b l at p)
      | inr k ↦ absurd (left_apart acyclic b at (c, k, (n, p)))
    ]

    pub many_chunk : IsChunkOfMany w.graph starts order rest
    many_chunk = record {
      is_chunk = record {
        once = first.once;
        reached = λ a. (
          λ (s, at, (n, p)). down n s a (starts_in s at) p,
          λ h. elim h [
            | inl l ↦ looked.collecting.visited_reached a (from_order a l)
            | inr (r, k, (n, p)) ↦
                let from = looked.collecting.pending_reached r k in
                (from.0, from.1, Reaches-trans w.graph from.0 r a from.2.0 from.2.1 (n, p))
          ],
        );
        before = λ acyclic a b in_a in_b (n, p). first.before a b in_a (n, within acyclic (suc n) a b (from_order a in_a) in_b p);
        apart = left_apart;
      };
      has_starts = λ a s. in_order a (starts_in a s);
      few = few_rest;
    }

    pub many_stretch : IsChunkOfAnyGraph w.graph starts order rest
    many_stretch = record {
      once = first.once;
      has_starts = λ a s. in_order a (starts_in a s);
      reached = λ a h. ⊎_elim (λ l. looked.collecting.visited_reached a (from_order a l)) (λ r. looked.collecting.pending_reached a r) h;
      forward = λ front back a b e edge.
          ⊎_elim (λ l. inl (behind front back a b e l edge)) (λ r. inr r)
          (goes a b (from_order a (subst (λ (l : List ℕ). Contains l a) (sym e) (at_split front a back))) edge);
      above = λ a b h r. leads b r order [] refl a h;
    }

-- ---- the next chunk of any starts

none_distinct : IsDistinct eqb []
unfolding IsDistinct
none_distinct = tt

pub none_next : (g : Graph) → IsNextChunk g [] [] []
none_next g = record {
  is_chunk = record {
    once = none_distinct;
    reached = λ a. (λ h. inr h, λ h. ⊎_elim (λ (k, lt, e). absurd (omega arith)) (λ r. r) h);
    before = λ acyclic a b (k, lt, e). absurd (omega arith);
    apart = λ acyclic a (k, lt, e). absurd (omega arith);
  };
  of_none = λ e. (refl, refl);
  of_one = λ a e. absurd cc;
  of_many = λ two. absurd (omega arith);
}

pub one_next : (g : Graph) (a : ℕ) → IsNextChunk g (a ∷ []) (a ∷ []) (g a)
one_next g a = record {
  is_chunk = record {
    once = one_distinct a;
    reached = λ b. (
      λ (s, at, (n, p)). down n b (subst (λ (m : ℕ). IsWalkOfLength g m b n) (sym (only a s at)) p),
      λ h. elim h [
        | inl l ↦ (a, here a [], (0, only a b l))
        | inr (c, e, (n, p)) ↦ (a, here a [], (suc n, (c, e, p)))
      ],
    );
    before = λ acyclic b c in_b in_c s.
        absurd (acyclic b (a, here a [], (0, only a b in_b)) (subst (λ (m : ℕ). StrictlyReaches g b m) (sym (only a c in_c) ∙ only a b in_b) s));
    apart = λ acyclic b in_b (c, e, reach).
        let same : a ≡ b = only a b in_b in
        acyclic a (a, here a [], (0, refl)) (edge_then_Reaches g a c a e (subst (λ (m : ℕ). Reaches g c m) (sym same) reach));
  };
  of_none = λ e. absurd cc;
  of_one = λ b e. let same : a ≡ b = cc in (ap (λ m. m ∷ []) same, ap g same);
  of_many = λ two. absurd (omega arith);
}
  where
    down : (n b : ℕ) → IsWalkOfLength g a b n → Contains (a ∷ []) b ⊎ ReachedFrom g (g a) b
    down zero b p = inl (0, omega arith, p)
    down (suc n) b (c, e, p) = inr (c, e, (n, p))

pub many_next : (g : Graph) (starts order rest : List ℕ) → 2 ≤ length starts → IsChunkOfMany g starts order rest → IsNextChunk g starts order rest
many_next g starts order rest two k = record {
  is_chunk = k.is_chunk;
  of_none = λ e. let n : length starts ≡ 0 = ap length e in absurd (omega arith);
  of_one = λ a e. let n : length starts ≡ 1 = ap length e in absurd (omega arith);
  of_many = λ _. (k.has_starts, k.few);
}
