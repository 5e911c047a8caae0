-- Invariants of the sets of a search for maximal nodes.
use Rattle.std.proofs.Common.{◌≡◌, ℕ, zero, suc, ◌+◌, ◌-◌, ◌*◌, ◌^◌, ◌<◌, ◌≤◌, length, Bool, true, false, not, ◌&&◌, ◌||◌, ◌==◌, cond, List, [], ◌∷◌, ◌++◌, map, refl, sym, ◌∙◌, ap, subst, arith, inl, inr, ◌⊎◌, ⊎_elim, true≢false, eqb}
use Rattle.std.specs.Bool.{MatchBool}
use Rattle.std.specs.List.{Contains, IsDistinct, AllByRecursion, list_any}
use Rattle.std.specs.List.Sorted.{IsPermutation}
use Rattle.std.proofs.lemmas.Bool.Decides.{Decides-eqb}
use Rattle.std.proofs.lemmas.List.Folds.{list_any_at}
use Rattle.std.proofs.lemmas.List.Sorted.{Contains-permutation, IsPermutation-sym}
use Rattle.std.proofs.lemmas.List.Elements.{Contains-append_left, Contains-append_right, Contains-append_cases, Contains-push, Contains-push_cases}
use Rattle.std.proofs.lemmas.Map.Keys.{IsDistinct-tail, IsDistinct-head, IsDistinct-cons}
use Rattle.jj_dag.specs.Graph.{HasEdge, ReachedFrom, IsAcyclicFrom, IsMaximal, AreMaximalElements}
use Rattle.jj_dag.specs.HeadsSearch.{IsStarted}
use Rattle.jj_dag.specs.Walk.{GraphModel, AreNodes, IsEqualityOfNodes}
use Rattle.jj_dag.proofs.Walking.{has, has-push, has-from_Contains, Contains-from_has, eqb-flip, numbers}
use Rattle.jj_dag.proofs.Reaching.{ReachedFrom-edge}
use Rattle.jj_dag.proofs.Searching.{Seen, IsSearching, search_met, search_asked, search_maximal, met_not_maximal}
use Rattle.jj_dag.proofs.Plain.{nothing, only, or_cond}

-- ---- lists

pub Contains-from_map : {T : Type 0} (f : T → ℕ) (xs : List T) (a : ℕ) → Contains (map f xs) a → (x : T) × Contains xs x × (f x ≡ a)
Contains-from_map f [] a (k, lt, e) = absurd (omega arith)
Contains-from_map f (x ∷ xs) a (zero, lt, e) = (x, (0, omega arith, refl), e)
Contains-from_map f (x ∷ xs) a (suc k, lt, e) = let r = Contains-from_map f xs a (k, omega arith, e) in (r.0, Contains-append_right (x ∷ []) xs r.0 r.1, r.2)

pub Contains-map : {T : Type 0} (f : T → ℕ) (xs : List T) (x : T) → Contains xs x → Contains (map f xs) (f x)
Contains-map f [] x (k, lt, e) = absurd (omega arith)
Contains-map f (y ∷ xs) x (zero, lt, e) = (0, omega arith, ap f e)
Contains-map f (y ∷ xs) x (suc k, lt, e) = Contains-append_right (f y ∷ []) (map f xs) (f x) (Contains-map f xs x (k, omega arith, e))

found_by : {T : Type 0} (p : T → Bool) (xs : List T) → list_any p xs ≡ true → (x : T) × Contains xs x × (p x ≡ true)
found_by p [] e = absurd (true≢false (sym e))
found_by {T} p (y ∷ xs) e =
    let P : Bool → Type 0 = λ b. p y ≡ b → (x : T) × Contains (y ∷ xs) x × (p x ≡ true) in
    elim (p y) as P [
      | true ↦ λ t. (y, (0, omega arith, refl), t)
      | false ↦ λ t. let r = found_by p xs (subst (λ (b : Bool). (b || list_any p xs) ≡ true) t e) in (r.0, Contains-append_right (y ∷ []) xs r.0 r.1, r.2)
    ] refl

found_at : {T : Type 0} (p : T → Bool) (xs : List T) (x : T) → Contains xs x → p x ≡ true → list_any p xs ≡ true
found_at p xs x (k, lt, e) t = list_any_at p xs k x lt (subst (λ y. p y ≡ true) (sym e) t)

-- a key that was inserted, or was there
Contains-put : {K : Type 0} (old new : List K) (k : K) (added : Bool) → MatchBool added (IsPermutation (k ∷ old) new) (new ≡ old) → (x : K) → Contains new x → Contains old x ⊎ (k ≡ x)
Contains-put old new k true moved x h =
    ⊎_elim (λ first. inr (only k x first)) (λ rest. inl rest) (Contains-append_cases (k ∷ []) old x (Contains-permutation new (k ∷ old) x (IsPermutation-sym (k ∷ old) new moved) h))
Contains-put {K} old new k false same x h = inl (subst (λ (l : List K). Contains l x) same h)

-- and where that key was equal to x
pub put_equal : {K : Type 0} (eq : K → K → Bool) (old new : List K) (x copy : K) (added : Bool) → eq x copy ≡ true → MatchBool added (IsPermutation (copy ∷ old) new) (new ≡ old)
    → (y : K) → Contains new y → Contains old y ⊎ (eq x y ≡ true)
put_equal eq old new x copy added same moved y h = ⊎_elim (λ kept. inl kept) (λ put. inr (subst (λ z. eq x z ≡ true) put same)) (Contains-put old new copy added moved y h)

pub none_contained : {T : Type 0} (xs : List T) → xs ≡ [] → (x : T) → Contains xs x → ⊥
none_contained [] same x (k, lt, e) = omega arith
none_contained (y ∷ xs) same x h = cc

-- one more start is queued
pub start_queued : {T : Type 0} (ys old new : List T) (x : T) → new ≡ old ++ x ∷ [] → ((b : T) → Contains old b → Contains ys b) → (b : T) → Contains new b → Contains (ys ++ x ∷ []) b
start_queued {T} ys old new x more before b h =
    ⊎_elim (λ o. Contains-append_left ys (x ∷ []) b (before b o)) (λ same. subst (λ (z : T). Contains (ys ++ x ∷ []) z) same (Contains-push ys x))
    (Contains-push_cases old x b (subst (λ (l : List T). Contains l b) more h))

has-again : (xs : List ℕ) (a : ℕ) → has xs a ≡ true → (b : ℕ) → has (xs ++ a ∷ []) b ≡ has xs b
has-again xs a seen b =
    let P : Bool → Type 0 = λ t. b == a ≡ t → (t || has xs b) ≡ has xs b in
    has-push xs a b ∙ elim (b == a) as (λ t. b == a ≡ t → (t || has xs b) ≡ has xs b) [ true ↦ λ e. sym (subst (λ (n : ℕ). has xs n ≡ true) (sym ((Decides-eqb b a).0 e)) seen) | false ↦ λ e. refl ] refl

or_false : (b : Bool) → b ≡ (b || false)
or_false true = refl
or_false false = refl

and_true : (b : Bool) → b ≡ (b && true)
and_true true = refl
and_true false = refl

taken_out : (b s m : Bool) → cond b false (s && not m) ≡ (s && not (b || m))
taken_out true true m = refl
taken_out true false m = refl
taken_out false s m = refl

put_in : (b s m : Bool) → cond b true (s || m) ≡ (s || (b || m))
put_in true true m = refl
put_in true false m = refl
put_in false s m = refl

both : (s m : Bool) → (s && not m) ≡ true → (s ≡ true) × (m ≡ false)
both true true e = absurd (true≢false (sym e))
both true false e = (refl, refl)
both false m e = absurd (true≢false (sym e))

module _ {T ID : Type 0} (w : GraphModel T ID) where
  abbrev Apart : (ID → ID → Bool) → Type 0
  Apart eq = (i j : ID) → w.is_node (w.id i) ≡ true → w.is_node (w.id j) ≡ true → eq i j ≡ (w.id i == w.id j)

  -- a value that equals a node's is of that node
  stands_for : {eqT : T → T → Bool} → IsEqualityOfNodes w eqT → (x y : T) → w.is_node (w.node x) ≡ true → eqT x y ≡ true → w.node x ≡ w.node y
  stands_for stands x y here same = (Decides-eqb (w.node x) (w.node y)).0 (sym (stands x y here) ∙ same)

  -- the keys after a value of a node was inserted: each was there before, or is of the node
  pub put_for : {eqT : T → T → Bool} → IsEqualityOfNodes w eqT → (old new : List T) (x : T) → w.is_node (w.node x) ≡ true
      → ((y : T) → Contains new y → Contains old y ⊎ (eqT x y ≡ true)) → (y : T) → Contains new y → Contains old y ⊎ (w.node x ≡ w.node y)
  put_for stands old new x here adds y h = ⊎_elim (λ kept. inl kept) (λ put. inr (stands_for stands x y here put)) (adds y h)

  -- ---- the starts are inserted

  pub started_none : {keys : List T} {in_heads : T → Bool} {test : ID → Bool} → keys ≡ [] → ((x : T) → in_heads x ≡ false) → ((i : ID) → test i ≡ false) → IsStarted w [] keys in_heads test []
  started_none none no_head no_id = record {
    keys_are_nodes = λ x h. absurd (nothing x (subst (λ (l : List T). Contains l x) none h));
    heads = λ x h. no_head x;
    knows = λ i h. no_id i;
    queued = λ a h. h;
    all = λ a h. h;
  }

  pub started_again : {starts : List ℕ} {keys : List T} {in_heads : T → Bool} {test : ID → Bool} {queue : List ℕ} (x : T) → IsStarted w starts keys in_heads test queue
      → w.is_node (w.node x) ≡ true → in_heads x ≡ true → IsStarted w (starts ++ w.node x ∷ []) keys in_heads test queue
  started_again {starts} {queue = queue} x k here known =
      let seen : has starts (w.node x) ≡ true = sym (k.heads x here) ∙ known in
      record {
        keys_are_nodes = k.keys_are_nodes;
        heads = λ y h. k.heads y h ∙ sym (has-again starts (w.node x) seen (w.node y));
        knows = λ i h. k.knows i h ∙ sym (has-again starts (w.node x) seen (w.id i));
        queued = λ a h. Contains-append_left starts (w.node x ∷ []) a (k.queued a h);
        all = λ a h. k.all a (⊎_elim (λ old. old) (λ same. subst (λ (n : ℕ). Contains starts n) same (Contains-from_has starts (w.node x) seen)) (Contains-push_cases starts (w.node x) a h));
      }

  pub started_new : {starts : List ℕ} {keys : List T} {in_heads : T → Bool} {test : ID → Bool} {queue : List ℕ} (eqT : T → T → Bool) (eq : ID → ID → Bool)
      (keys2 : List T) (in_heads2 : T → Bool) (test2 : ID → Bool) (x : T) (i : ID) → IsEqualityOfNodes w eqT → Apart eq → IsStarted w starts keys in_heads test queue
      → w.is_node (w.node x) ≡ true → w.id i ≡ w.node x → ((y : T) → Contains keys2 y → Contains keys y ⊎ (w.node x ≡ w.node y))
      → ((q : T) → in_heads2 q ≡ cond (eqT x q) true (in_heads q)) → ((q : ID) → test2 q ≡ cond (eq i q) true (test q))
      → IsStarted w (starts ++ w.node x ∷ []) keys2 in_heads2 test2 (queue ++ w.node x ∷ [])
  started_new {starts} {keys} {in_heads} {test} {queue} eqT eq keys2 in_heads2 test2 x i stands is_id k here same adds puts_head puts_id =
      let here_id : w.is_node (w.id i) ≡ true = subst (λ (n : ℕ). w.is_node n ≡ true) (sym same) here in
      record {
        keys_are_nodes = λ y h. ⊎_elim (λ old. k.keys_are_nodes y old) (λ new. subst (λ (n : ℕ). w.is_node n ≡ true) new here) (adds y h);
        heads = λ q h. puts_head q ∙ ap (λ b. cond b true (in_heads q)) (stands x q here ∙ eqb-flip (w.node x) (w.node q)) ∙ ap (λ b. cond (w.node q == w.node x) true b) (k.heads q h)
            ∙ or_cond (w.node q == w.node x) (has starts (w.node q)) ∙ sym (has-push starts (w.node x) (w.node q));
        knows = λ q h. puts_id q ∙ ap (λ b. cond b true (test q)) (is_id i q here_id h ∙ ap (λ n. n == w.id q) same ∙ eqb-flip (w.node x) (w.id q)) ∙ ap (λ b. cond (w.id q == w.node x) true b) (k.knows q h)
            ∙ or_cond (w.id q == w.node x) (has starts (w.id q)) ∙ sym (has-push starts (w.node x) (w.id q));
        queued = λ a h. ⊎_elim (λ old. Contains-append_left starts (w.node x ∷ []) a (k.queued a old)) (λ new. subst (λ (n : ℕ). Contains (starts ++ w.node x ∷ []) n) new (Contains-push starts (w.node x))) (Contains-push_cases queue (w.node x) a h);
        all = λ a h. ⊎_elim (λ old. Contains-append_left queue (w.node x ∷ []) a (k.all a old)) (λ new. subst (λ (n : ℕ). Contains (queue ++ w.node x ∷ []) n) new (Contains-push queue (w.node x))) (Contains-push_cases starts (w.node x) a h);
      }

  -- ---- the search

  pub record HoldsSearch (starts met queue : List ℕ) (rooted : Bool) (keys : List T) (in_heads : T → Bool) (test : ID → Bool) : Type 0 where
    pub searching : IsSearching w.graph starts met queue rooted
    pub starts_stand : AreNodes w starts
    pub met_stand : AreNodes w met
    pub keys_are_nodes : (x : T) → Contains keys x → w.is_node (w.node x) ≡ true
    pub heads : (x : T) → w.is_node (w.node x) ≡ true → in_heads x ≡ (has starts (w.node x) && not (has met (w.node x)))
    pub knows : (i : ID) → w.is_node (w.id i) ≡ true → test i ≡ (has starts (w.id i) || has met (w.id i))

  pub started_holds : {starts : List ℕ} {keys : List T} {in_heads : T → Bool} {test : ID → Bool} {queue : List ℕ} → AreNodes w starts → IsStarted w starts keys in_heads test queue
      → HoldsSearch starts [] queue false keys in_heads test
  started_holds {starts} {keys} {in_heads} {test} {queue} nodes k = record {
    searching = record {
      reached = λ b h. absurd (nothing b h);
      queued = λ a h. inl (k.queued a h);
      explored = λ a s. inl (queued_now a s);
      leads = λ none acyclic a s. (a, queued_now a s, (0, refl));
    };
    starts_stand = nodes;
    met_stand = λ a h. absurd (nothing a h);
    keys_are_nodes = k.keys_are_nodes;
    heads = λ x h. k.heads x h ∙ and_true (has starts (w.node x));
    knows = λ i h. k.knows i h ∙ or_false (has starts (w.id i));
  }
    where
      queued_now : (a : ℕ) → Seen starts [] a → Contains queue a
      queued_now a (inl h) = k.all a h
      queued_now a (inr h) = absurd (nothing a h)

  pub seen_is_node : {starts met queue : List ℕ} {rooted : Bool} {keys : List T} {in_heads : T → Bool} {test : ID → Bool} → HoldsSearch starts met queue rooted keys in_heads test → (a : ℕ) → Seen starts met a → w.is_node a ≡ true
  seen_is_node k a (inl h) = k.starts_stand a h
  seen_is_node k a (inr h) = k.met_stand a h

  -- a neighbor of a pending node is found
  pub holds_met : {starts met queue : List ℕ} {rooted : Bool} {keys : List T} {in_heads : T → Bool} {test : ID → Bool} (eqT : T → T → Bool) (eq : ID → ID → Bool)
      (queue2 : List ℕ) (keys2 : List T) (in_heads2 : T → Bool) (test2 : ID → Bool) (asked : ℕ) (y : T) (i : ID) → IsEqualityOfNodes w eqT → Apart eq
      → ((a : ℕ) → w.is_node a ≡ true → AreNodes w (w.graph a))
      → HoldsSearch starts met queue rooted keys in_heads test → Contains queue asked → HasEdge w.graph asked (w.node y) → w.id i ≡ w.node y
      → ((x : T) → Contains keys2 x → Contains keys x) → ((q : T) → in_heads2 q ≡ cond (eqT y q) false (in_heads q)) → ((q : ID) → test2 q ≡ cond (eq i q) true (test q))
      → (test i ≡ true → queue2 ≡ queue) → (test i ≡ false → queue2 ≡ queue ++ w.node y ∷ [])
      → HoldsSearch starts (met ++ w.node y ∷ []) queue2 rooted keys2 in_heads2 test2
  holds_met {starts} {met} {queue} {rooted} {keys} {in_heads} {test} eqT eq queue2 keys2 in_heads2 test2 asked y i stands is_id closed k at edge same keeps takes puts old new =
      let here : w.is_node (w.node y) ≡ true = closed asked (seen_is_node k asked (k.searching.queued asked at)) (w.node y) edge in
      let here_id : w.is_node (w.id i) ≡ true = subst (λ (n : ℕ). w.is_node n ≡ true) (sym same) here in
      let known : test i ≡ (has starts (w.node y) || has met (w.node y)) = k.knows i here_id ∙ ap (λ n. has starts n || has met n) same in
      record {
        searching = step here known;
        starts_stand = k.starts_stand;
        met_stand = λ a h. ⊎_elim (λ o. k.met_stand a o) (λ e. subst (λ (n : ℕ). w.is_node n ≡ true) e here) (Contains-push_cases met (w.node y) a h);
        keys_are_nodes = λ x h. k.keys_are_nodes x (keeps x h);
        heads = λ q h. takes q ∙ ap (λ b. cond b false (in_heads q)) (stands y q here ∙ eqb-flip (w.node y) (w.node q)) ∙ ap (λ b. cond (w.node q == w.node y) false b) (k.heads q h)
            ∙ taken_out (w.node q == w.node y) (has starts (w.node q)) (has met (w.node q)) ∙ ap (λ b. has starts (w.node q) && not b) (sym (has-push met (w.node y) (w.node q)));
        knows = λ q h. puts q ∙ ap (λ b. cond b true (test q)) (is_id i q here_id h ∙ ap (λ n. n == w.id q) same ∙ eqb-flip (w.node y) (w.id q)) ∙ ap (λ b. cond (w.id q == w.node y) true b) (k.knows q h)
            ∙ put_in (w.id q == w.node y) (has starts (w.id q)) (has met (w.id q)) ∙ ap (λ b. has starts (w.id q) || b) (sym (has-push met (w.node y) (w.id q)));
      }
    where
      or_cases : (s m : Bool) → (s || m) ≡ true → (s ≡ true) ⊎ (m ≡ true)
      or_cases true m e = inl refl
      or_cases false m e = inr e

      step : w.is_node (w.node y) ≡ true → test i ≡ (has starts (w.node y) || has met (w.node y)) → IsSearching w.graph starts (met ++ w.node y ∷ []) queue2 rooted
      step here known =
          let P : Bool → Type 0 = λ b. test i ≡ b → IsSearching w.graph starts (met ++ w.node y ∷ []) queue2 rooted in
          elim (test i) as P [
            | true ↦ λ e.
                let stays = old e in
                search_met w.graph starts met queue queue2 rooted asked (w.node y) k.searching at edge
                (λ a h. subst (λ (l : List ℕ). Contains l a) (sym stays) h) (λ a h. inl (subst (λ (l : List ℕ). Contains l a) stays h))
                (inl (⊎_elim (λ s. inl (Contains-from_has starts (w.node y) s)) (λ m. inr (Contains-from_has met (w.node y) m)) (or_cases (has starts (w.node y)) (has met (w.node y)) (sym known ∙ e))))
            | false ↦ λ e.
                let grows = new e in
                search_met w.graph starts met queue queue2 rooted asked (w.node y) k.searching at edge
                (λ a h. subst (λ (l : List ℕ). Contains l a) (sym grows) (Contains-append_left queue (w.node y ∷ []) a h))
                (λ a h. Contains-push_cases queue (w.node y) a (subst (λ (l : List ℕ). Contains l a) grows h))
                (inr (subst (λ (l : List ℕ). Contains l (w.node y)) (sym grows) (Contains-push queue (w.node y))))
          ] refl

  -- a node, all of whose neighbors were found, is no longer pending
  pub holds_asked : {starts met : List ℕ} {rooted : Bool} {keys : List T} {in_heads : T → Bool} {test : ID → Bool} (queue : List ℕ) (rooted2 : Bool) (a : ℕ)
      → HoldsSearch starts met (a ∷ queue) rooted keys in_heads test → ((b : ℕ) → HasEdge w.graph a b → Contains met b) → (rooted2 ≡ false → (rooted ≡ false) × ((y : ℕ) × HasEdge w.graph a y))
      → HoldsSearch starts met queue rooted2 keys in_heads test
  holds_asked {starts} {met} {rooted} queue rooted2 a k all more = record {
    searching = search_asked w.graph starts met (a ∷ queue) queue rooted rooted2 a k.searching (0, omega arith, refl) leaves (λ b h. Contains-append_right (a ∷ []) queue b h) all more;
    starts_stand = k.starts_stand;
    met_stand = k.met_stand;
    keys_are_nodes = k.keys_are_nodes;
    heads = k.heads;
    knows = k.knows;
  }
    where
      leaves : (b : ℕ) → Contains (a ∷ queue) b → Contains queue b ⊎ (b ≡ a)
      leaves b (zero, lt, e) = inr (sym e)
      leaves b (suc n, lt, e) = inl (n, omega arith, e)

  -- ---- the end

  distinct_numbers : (eqT : T → T → Bool) → IsEqualityOfNodes w eqT → (keys : List T) → ((x : T) → Contains keys x → w.is_node (w.node x) ≡ true) → IsDistinct eqT keys → IsDistinct eqb (numbers w keys)
  unfolding IsDistinct
  distinct_numbers eqT stands [] nodes d = tt
  distinct_numbers eqT stands (x ∷ keys) nodes d =
      IsDistinct-cons eqb (w.node x) (numbers w keys) (apart keys (λ y h. nodes y (Contains-append_right (x ∷ []) keys y h)) (IsDistinct-head eqT x keys d))
      (distinct_numbers eqT stands keys (λ y h. nodes y (Contains-append_right (x ∷ []) keys y h)) (IsDistinct-tail eqT x keys d))
    where
      apart : (ys : List T) → ((y : T) → Contains ys y → w.is_node (w.node y) ≡ true) → AllByRecursion (λ y. eqT x y ≡ false) ys → AllByRecursion (λ n. eqb (w.node x) n ≡ false) (numbers w ys)
      apart [] stand a = tt
      apart (y ∷ ys) stand a =
          (sym (stands x y (nodes x (0, omega arith, refl))) ∙ a.0, apart ys (λ z h. stand z (Contains-append_right (y ∷ []) ys z h)) a.1)

  pub holds_maximal : {met queue : List ℕ} {rooted : Bool} {keys : List T} {test : ID → Bool} (eqT : T → T → Bool) (xs : List T)
      → HoldsSearch (numbers w xs) met queue rooted keys (λ x. list_any (eqT x) keys) test → IsEqualityOfNodes w eqT → IsDistinct eqT keys
      → ((a b : ℕ) → Contains queue a → Contains queue b → a ≡ b) → ((a : ℕ) → Contains queue a → rooted ≡ false) → IsAcyclicFrom w.graph (numbers w xs)
      → AreMaximalElements w.graph (numbers w xs) (numbers w keys)
  holds_maximal {met} {queue} {rooted} {keys} {test} eqT xs k stands distinct one no_root acyclic = record {
    all = λ a. ((λ h. to_maximal a h), (λ m. from_maximal a m));
    once = distinct_numbers eqT stands keys k.keys_are_nodes distinct;
  }
    where
      to_maximal : (a : ℕ) → Contains (numbers w keys) a → IsMaximal w.graph (Contains (numbers w xs)) a
      to_maximal a h =
          let key = Contains-from_map w.node keys a h in
          let here : w.is_node (w.node key.0) ≡ true = k.keys_are_nodes key.0 key.1 in
          let same : eqT key.0 key.0 ≡ true = stands key.0 key.0 here ∙ (Decides-eqb (w.node key.0) (w.node key.0)).1 refl in
          let is = both (has (numbers w xs) (w.node key.0)) (has met (w.node key.0)) (sym (k.heads key.0 here) ∙ found_at (eqT key.0) keys key.0 key.1 same) in
          subst (λ (n : ℕ). IsMaximal w.graph (Contains (numbers w xs)) n) key.2
          (search_maximal w.graph (numbers w xs) met queue rooted k.searching one no_root acyclic (w.node key.0) (Contains-from_has (numbers w xs) (w.node key.0) is.0)
          (λ m. true≢false (sym (has-from_Contains met (w.node key.0) m) ∙ is.1)))

      from_maximal : (a : ℕ) → IsMaximal w.graph (Contains (numbers w xs)) a → Contains (numbers w keys) a
      from_maximal a m =
          let start = Contains-from_map w.node xs a m.0 in
          let at : Contains (numbers w xs) (w.node start.0) = Contains-map w.node xs start.0 start.1 in
          let here : w.is_node (w.node start.0) ≡ true = k.starts_stand (w.node start.0) at in
          let unmet : has met (w.node start.0) ≡ false =
          elim (has met (w.node start.0)) as (λ b. has met (w.node start.0) ≡ b → b ≡ false) [
            | true ↦ λ e. absurd (met_not_maximal k.searching acyclic a (subst (λ (n : ℕ). Contains met n) start.2 (Contains-from_has met (w.node start.0) e)) m)
            | false ↦ λ e. refl
          ] refl in
          let is : list_any (eqT start.0) keys ≡ true =
          k.heads start.0 here ∙ ap (λ b. b && not (has met (w.node start.0))) (has-from_Contains (numbers w xs) (w.node start.0) at) ∙ ap (λ b. not b) unmet in
          let key = found_by (eqT start.0) keys is in
          let same : w.node start.0 ≡ w.node key.0 = stands_for stands start.0 key.0 here key.2 in
          subst (λ (n : ℕ). Contains (numbers w keys) n) (sym same ∙ start.2) (Contains-map w.node keys key.0 key.1)

  -- a list of one entry at most
  pub one_queued : (items : List T) → length items ≤ 1 → (a b : ℕ) → Contains (numbers w items) a → Contains (numbers w items) b → a ≡ b
  one_queued [] short a b (k, lt, e) f = absurd (omega arith)
  one_queued (x ∷ []) short a b (zero, lt, e) (zero, gt, f) = sym e ∙ f
  one_queued (x ∷ []) short a b (suc k, lt, e) f = absurd (omega arith)
  one_queued (x ∷ []) short a b (zero, lt, e) (suc k, gt, f) = absurd (omega arith)
  one_queued (x ∷ y ∷ items) short a b e f = absurd (omega arith)

  pub no_root_queued : (items : List T) (rooted : Bool) → (rooted ≡ true → items ≡ []) → (a : ℕ) → Contains (numbers w items) a → rooted ≡ false
  no_root_queued items false none a h = refl
  no_root_queued [] true none a (k, lt, e) = absurd (omega arith)
  no_root_queued (x ∷ items) true none a h = let same : x ∷ items ≡ [] = none refl in cc

  -- ---- the queued nodes are reached

  pub starts_reached : (xs queue : List T) → AreNodes w (numbers w xs) → ((b : T) → Contains queue b → Contains xs b)
      → (a : ℕ) → Contains (numbers w queue) a → (w.is_node a ≡ true) × ReachedFrom w.graph (numbers w xs) a
  starts_reached xs queue nodes among a h =
      let x = Contains-from_map w.node queue a h in
      let at : Contains (numbers w xs) a = subst (λ (n : ℕ). Contains (numbers w xs) n) x.2 (Contains-map w.node xs x.0 (among x.0 x.1)) in
      (nodes a at, (a, at, (0, refl)))

  pub still_reached : (starts : List ℕ) (n : T) (rest queue below : List T) → ((b : T) → Contains queue b → Contains rest b ⊎ Contains below b) → numbers w below ≡ w.graph (w.node n)
      → ((a : ℕ) → w.is_node a ≡ true → AreNodes w (w.graph a))
      → ((a : ℕ) → Contains (w.node n ∷ numbers w rest) a → (w.is_node a ≡ true) × ReachedFrom w.graph starts a)
      → (a : ℕ) → Contains (numbers w queue) a → (w.is_node a ≡ true) × ReachedFrom w.graph starts a
  still_reached starts n rest queue below adds listed closed before a h =
      let x = Contains-from_map w.node queue a h in
      let here = before (w.node n) (0, omega arith, refl) in
      let P : ℕ → Type 0 = λ m. (w.is_node m ≡ true) × ReachedFrom w.graph starts m in
      subst P x.2 (⊎_elim (λ old. before (w.node x.0) (Contains-append_right (w.node n ∷ []) (numbers w rest) (w.node x.0) (Contains-map w.node rest x.0 old)))
      (λ new.
      let edge : HasEdge w.graph (w.node n) (w.node x.0) = subst (λ (l : List ℕ). Contains l (w.node x.0)) listed (Contains-map w.node below x.0 new) in
      (closed (w.node n) here.0 (w.node x.0) edge, ReachedFrom-edge w.graph starts (w.node n) (w.node x.0) here.1 edge))
      (adds x.0 x.1))

pub adds_one : {T : Type 0} (known : Bool) (old new : List T) (y : T) → (known ≡ true → new ≡ old) → (known ≡ false → new ≡ old ++ y ∷ []) → (b : T) → Contains new b → Contains old b ⊎ (y ≡ b)
adds_one {T} true old new y same more b h = inl (subst (λ (l : List T). Contains l b) (same refl) h)
adds_one {T} false old new y same more b h = Contains-push_cases old y b (subst (λ (l : List T). Contains l b) (more refl) h)

-- a list of starts or neighbors with one more
pub adds_more : {T : Type 0} (first ys old new : List T) (y : T) → ((b : T) → Contains old b → Contains first b ⊎ Contains ys b) → ((b : T) → Contains new b → Contains old b ⊎ (y ≡ b))
    → (b : T) → Contains new b → Contains first b ⊎ Contains (ys ++ y ∷ []) b
adds_more {T} first ys old new y before one b h =
    ⊎_elim (λ o. ⊎_elim (λ l. inl l) (λ r. inr (Contains-append_left ys (y ∷ []) b r)) (before b o)) (λ same. inr (subst (λ (z : T). Contains (ys ++ y ∷ []) z) same (Contains-push ys y))) (one b h)

-- where the queue list grew, more ids were visited
pub search_falls : (v v2 rest all all2 : ℕ) → v < 2 ^ 63 → all2 < 2 ^ 63 → all ≡ suc rest → v2 + rest ≡ v + all2 → rest ≤ all2
    → (2 ^ 64 - v2) * 2 ^ 64 + all2 < (2 ^ 64 - v) * 2 ^ 64 + all
search_falls v v2 rest all all2 a b e f h = omega arith
