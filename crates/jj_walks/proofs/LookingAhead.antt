-- Invariant of exploring nodes from several starts.
use Rattle.std.proofs.Common.{◌≡◌, ℕ, zero, suc, ◌+◌, ◌<◌, ◌≤◌, Bool, true, false, cond, ◌==◌, List, [], ◌∷◌, ◌++◌, map, length, get_or, refl, sym, ◌∙◌, ap, subst, arith, inl, inr, ◌⊎◌, ⊎_elim, true≢false, Option, Some, None, Ok, MatchOption}
use Rattle.std.specs.List.{Contains, sum_by}
use Rattle.std.specs.List.Sorted.{IsPermutation}
use Rattle.std.proofs.lemmas.Bool.Decides.{Decides-eqb}
use Rattle.std.proofs.lemmas.List.Sums.{sum_by-append, sum_by-cons}
use Rattle.std.proofs.lemmas.List.Sorted.{Contains-permutation, IsPermutation-sym, IsPermutation-trans, IsPermutation-map, IsPermutation-to_front, sum_by-IsPermutation, sum_by_popped}
use Rattle.std.proofs.lemmas.List.{map_push}
use Rattle.std.proofs.lemmas.List.Elements.{Contains-append_left, Contains-push, Contains-push_cases}
use Rattle.jj_dag.specs.Collecting.{IsCollecting}
use Rattle.jj_dag.specs.Graph.{HasEdge}
use Rattle.jj_dag.specs.FallibleGraphs.{FallibleGraph, ok_graph}
use Rattle.jj_walks.specs.LookingAhead.{copies, IsLooking, HasLooked}
use Rattle.jj_dag.specs.Walk.{GraphModel, AreNodes}
use Rattle.jj_dag.proofs.Collecting.{at_index, collecting_starts, collecting_passed, collecting_entered}
use Rattle.jj_dag.proofs.Plain.{at_most_one, nothing}

copies_cons : {T : Type 0} (node : T → ℕ) (x : T) (xs : List T) (a : ℕ) → copies node (x ∷ xs) a ≡ cond (node x == a) 1 0 + copies node xs a
copies_cons node x xs a = sum_by-cons (λ y. cond (node y == a) 1 0) x xs

pub copies_some : {T : Type 0} (node : T → ℕ) (xs : List T) (a : ℕ) → Contains (map node xs) a → 1 ≤ copies node xs a
copies_some node [] a (k, lt, e) = absurd (omega arith)
copies_some node (x ∷ xs) a (zero, lt, e) =
    let one : (node x == a) ≡ true = (Decides-eqb (node x) a).1 e in
    let sum : copies node (x ∷ xs) a ≡ 1 + copies node xs a = copies_cons node x xs a ∙ ap (λ b. cond b 1 0 + copies node xs a) one in
    omega arith
copies_some node (x ∷ xs) a (suc k, lt, e) =
    let rest : 1 ≤ copies node xs a = copies_some node xs a (k, omega arith, e) in
    let sum = copies_cons node x xs a in
    omega arith

pub copies_short : {T : Type 0} (node : T → ℕ) (xs : List T) (a : ℕ) → copies node xs a ≤ length xs
copies_short node [] a = omega arith
copies_short node (x ∷ xs) a =
    let rest : copies node xs a ≤ length xs = copies_short node xs a in
    let sum = copies_cons node x xs a in
    let one : cond (node x == a) 1 0 ≤ 1 = at_most_one (node x == a) in
    omega arith

module _ {T ID K : Type 0} (w : GraphModel T ID) (items : FallibleGraph K) where
  -- the pending nodes may be permuted
  collecting_permuted : {starts : List ℕ} {find : ID → Option ℕ} {visited : List T} {ids : List (List ID)} (work work2 : List T) → IsPermutation work work2
      → IsCollecting w items starts find work visited ids → IsCollecting w items starts find work2 visited ids
  collecting_permuted work work2 p k =
      let turned = IsPermutation-map w.node work work2 p in
      let there : (a : ℕ) → Contains (map w.node work) a → Contains (map w.node work2) a = λ a h. Contains-permutation (map w.node work) (map w.node work2) a turned h in
      let back : (a : ℕ) → Contains (map w.node work2) a → Contains (map w.node work) a = λ a h. Contains-permutation (map w.node work2) (map w.node work) a (IsPermutation-sym (map w.node work) (map w.node work2) turned) h in
      record {
        pending_reached = λ a h. k.pending_reached a (back a h);
        visited_reached = k.visited_reached;
        starts_visited = λ a h. ⊎_elim (λ l. inl l) (λ r. inr (there a r)) (k.starts_visited a h);
        closed = λ a b h e. ⊎_elim (λ l. inl l) (λ r. inr (there b r)) (k.closed a b h e);
        injective = k.injective;
        finds = k.finds;
        lists = k.lists;
        none_failed = k.none_failed;
      }

  pub looking_starts : (xs work visited : List T) (ids : List (List ID)) (find : ID → Option ℕ) → IsPermutation xs work → visited ≡ [] → ids ≡ [] → ((i : ID) → find i ≡ None) → IsLooking w items (map w.node xs) find false work visited ids
  looking_starts xs work visited ids find p none no_ids unset = record {
    collecting = collecting_permuted xs work p (collecting_starts w items xs xs visited ids find refl none no_ids unset);
    twice = λ a b s out in_b e. absurd (nothing b (subst (λ (l : List T). Contains (map w.node l) b) none in_b));
    rootless = λ f b in_b. absurd (nothing b (subst (λ (l : List T). Contains (map w.node l) b) none in_b));
  }

  -- the top was popped, so the other copies of a node are still pending
  others : (work rest : List T) (x : T) (a : ℕ) → IsPermutation work (x ∷ rest) → (w.node x ≡ a → ⊥) → copies w.node rest a ≡ copies w.node work a
  others work rest x a p ne =
      let f : T → ℕ = λ y. cond (w.node y == a) 1 0 in
      let taken : sum_by f rest + f x ≡ sum_by f work = sum_by_popped f x work rest p in
      elim (w.node x == a) as (λ b. w.node x == a ≡ b → copies w.node rest a ≡ copies w.node work a) [
        | true ↦ λ t. absurd (ne ((Decides-eqb (w.node x) a).0 t))
        | false ↦ λ t. let zero_here : f x ≡ 0 = ap (λ b. cond b 1 0) t in omega arith
      ] refl

  last_of : (work rest : List T) (x : T) → IsPermutation work (x ∷ rest) → IsPermutation work (rest ++ x ∷ [])
  last_of work rest x p = IsPermutation-trans work (x ∷ rest) (rest ++ x ∷ []) p (IsPermutation-sym (rest ++ x ∷ []) (x ∷ rest) (IsPermutation-to_front rest x))

  pub top_collecting : {starts : List ℕ} {find : ID → Option ℕ} {root_met : Bool} {work visited : List T} {ids : List (List ID)} (rest : List T) (x : T)
      → IsLooking w items starts find root_met work visited ids → IsPermutation work (x ∷ rest) → IsCollecting w items starts find (rest ++ x ∷ []) visited ids
  top_collecting {work = work} rest x k p = collecting_permuted work (rest ++ x ∷ []) (last_of work rest x p) k.collecting

  pub looking_passed : {starts : List ℕ} {find : ID → Option ℕ} {root_met : Bool} {work visited : List T} {ids : List (List ID)} (rest : List T) (x : T) (i : ID)
      → IsLooking w items starts find root_met work visited ids → IsPermutation work (x ∷ rest) → w.is_node (w.node x) ≡ true → w.id i ≡ w.node x → (k : ℕ) → find i ≡ Some k
      → IsLooking w items starts find root_met rest visited ids
  looking_passed {starts} {find} {root_met} {work} {visited} {ids} rest x i k p is same index found =
      let indexed : MatchOption (Some index) (Contains (map w.node visited) (w.id i) → ⊥) (λ k. (k < length (map w.node visited)) × (get_or (map w.node visited) k 0 ≡ w.id i)) =
      subst (λ (o : Option ℕ). MatchOption o (Contains (map w.node visited) (w.id i) → ⊥) (λ k. (k < length (map w.node visited)) × (get_or (map w.node visited) k 0 ≡ w.id i))) found (k.collecting.finds i (rw same is)) in
      let there : Contains (map w.node visited) (w.node x) = at_index (map w.node visited) (w.node x) index indexed.0 (indexed.1 ∙ same) in
      record {
        collecting = collecting_passed w items rest x i (top_collecting rest x k p) refl is same index found;
        twice = λ a b s out in_b e.
            let more = k.twice a b s out in_b e in
            let left : copies w.node rest a ≡ copies w.node work a = others work rest x a p (λ q. out (subst (λ (n : ℕ). Contains (map w.node visited) n) q there)) in
            omega arith;
        rootless = k.rootless;
      }

  pub looking_entered : {starts : List ℕ} {find : ID → Option ℕ} {root_met : Bool} {work visited : List T} {ids : List (List ID)} (eq : ID → ID → Bool) (find2 : ID → Option ℕ) (root2 : Bool)
      (rest : List T) (x : T) (i : ID) (below work2 visited2 : List T) (new_ids : List ID) (ids2 : List (List ID)) (index : ℕ)
      → ((a : ℕ) → w.graph a ≡ ok_graph items a) → ((a : ℕ) → w.is_node a ≡ true → AreNodes w (w.graph a)) → ((i j : ID) → w.is_node (w.id i) ≡ true → w.is_node (w.id j) ≡ true → eq i j ≡ (w.id i == w.id j))
      → IsLooking w items starts find root_met work visited ids → IsPermutation work (x ∷ rest) → w.is_node (w.node x) ≡ true → w.id i ≡ w.node x → find i ≡ None
      → items (w.node x) ≡ map (λ y. Ok (w.node y)) below → map w.node below ≡ w.graph (w.node x) → map w.id new_ids ≡ map w.node below → IsPermutation (rest ++ below) work2 → visited2 ≡ visited ++ x ∷ [] → ids2 ≡ ids ++ new_ids ∷ [] → index ≡ length visited
      → ((q : ID) → find2 q ≡ cond (eq i q) (Some index) (find q)) → (root2 ≡ false → (root_met ≡ false) × ((c : ℕ) × HasEdge w.graph (w.node x) c))
      → IsLooking w items starts find2 root2 work2 visited2 ids2
  looking_entered {starts} {find} {root_met} {work} {visited} {ids} eq find2 root2 rest x i below work2 visited2 new_ids ids2 index sound_graph closed apart k p is same missed listed neighbors same_ids more pushed ids_pushed at updates roots =
      let a = w.node x in
      let gs : map w.node visited2 ≡ map w.node visited ++ a ∷ [] = ap (map w.node) pushed ∙ map_push w.node visited x in
      let top = top_collecting rest x k p in
      let split : (b : ℕ) → Contains (map w.node visited2) b → Contains (map w.node visited) b ⊎ (a ≡ b) = λ b h. Contains-push_cases (map w.node visited) a b (subst (λ (l : List ℕ). Contains l b) gs h) in
      let keeps : (b : ℕ) → Contains (map w.node visited) b → Contains (map w.node visited2) b = λ b h. subst (λ (l : List ℕ). Contains l b) (sym gs) (Contains-append_left (map w.node visited) (a ∷ []) b h) in
      let now : Contains (map w.node visited2) a = subst (λ (l : List ℕ). Contains l a) (sym gs) (Contains-push (map w.node visited) a) in
      let all : (c : ℕ) → copies w.node work2 c ≡ copies w.node rest c + copies w.node below c = λ c.
      sum_by-IsPermutation (λ y. cond (w.node y == c) 1 0) (rest ++ below) work2 more ∙ sum_by-append (λ y. cond (w.node y == c) 1 0) rest below in
      record {
        collecting = collecting_permuted (rest ++ below) work2 more
            (collecting_entered w items eq find2 rest x i below (rest ++ below) visited2 new_ids ids2 index sound_graph closed apart top refl is same missed listed same_ids refl pushed ids_pushed at updates);
        twice = λ c b s out in_b e.
            let left : copies w.node rest c ≡ copies w.node work c = others work rest x c p (λ q. out (subst (λ (n : ℕ). Contains (map w.node visited2) n) q now)) in
            let sum = all c in
            elim (split b in_b) [
              | inl l ↦ let before = k.twice c b s (λ h. out (keeps c h)) l e in omega arith
              | inr q ↦
                  let edge : Contains (map w.node below) c = subst (λ (l : List ℕ). Contains l c) (sym neighbors) (subst (λ (n : ℕ). HasEdge w.graph n c) (sym q) e) in
                  let one : 1 ≤ copies w.node below c = copies_some w.node below c edge in
                  let queued : Contains (map w.node work) c = ⊎_elim (λ l. absurd (out (keeps c l))) (λ r. r) (k.collecting.starts_visited c s) in
                  let other : 1 ≤ copies w.node work c = copies_some w.node work c queued in
                  omega arith
            ];
        rootless = λ f b in_b.
            let r = roots f in
            ⊎_elim (λ l. k.rootless r.0 b l) (λ q. (r.1.0, subst (λ (n : ℕ). HasEdge w.graph n r.1.0) q r.1.1)) (split b in_b);
      }

  -- no more is explored
  pub looked : {starts : List ℕ} {find : ID → Option ℕ} {root_met : Bool} {work visited : List T} {ids : List (List ID)} (left : List T)
      → IsLooking w items starts find root_met work visited ids → left ≡ work → (root_met ≡ true → work ≡ []) → HasLooked w items starts find left visited ids
  looked {starts} {find} {root_met} {work} {visited} {ids} left k same none = rw same (record {
    collecting = k.collecting;
    twice = k.twice;
    rootless = λ some b in_b. elim root_met as (λ r. root_met ≡ r → (c : ℕ) × HasEdge w.graph b c) [
      | true ↦ λ t. absurd (some (none t))
      | false ↦ λ t. k.rootless t b in_b
    ] refl;
  })

-- a node whose list of ids is not empty has a neighbor
pub some_edge : {T ID : Type 0} (node : T → ℕ) (id : ID → ℕ) (new_ids : List ID) (below : List T) (neighbors : List ℕ) (n : ℕ) → map id new_ids ≡ map node below → map node below ≡ neighbors
    → n ≡ length new_ids → (n == 0) ≡ false → (c : ℕ) × Contains neighbors c
some_edge node id [] below neighbors n same listed size full = absurd (true≢false (sym (ap (λ m. m == 0) size) ∙ full))
some_edge node id (i ∷ new_ids) [] neighbors n same listed size full = absurd cc
some_edge node id (i ∷ new_ids) (y ∷ below) neighbors n same listed size full = (node y, subst (λ (l : List ℕ). Contains l (node y)) listed (0, omega arith, refl))
