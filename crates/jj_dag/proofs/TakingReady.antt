-- Invariants of Kahn's algorithm, by in-degrees from nodes not yet taken.
use Rattle.std.proofs.Common.{◌≡◌, ◌≢◌, ℕ, zero, suc, ◌+◌, ◌*◌, ◌-◌, ◌<◌, ◌≤◌, Bool, true, false, cond, ◌||◌, Option, None, Some, List, [], ◌∷◌, ◌++◌, length, map, get_or, set, drop, refl, sym, ◌∙◌, ap, subst, arith, eqb, inl, inr, ◌⊎◌, ⊎_elim, true≢false, length-set, get_or-set_same, get_or-set_other, IsSome, is_some, MatchOption}
use Rattle.std.specs.List.{Contains, count_by, sum_by}
use Rattle.std.specs.List.Sorted.{IsPermutation}
use Rattle.std.specs.declared.cmp.Ordering.{Ordering}
use Rattle.std.specs.declared.cmp.Ordering.TheVariants.{Less, Equal, Greater}
use Rattle.std.specs.Ordering.{is_lt, nat_cmp, ordering_then}
use Rattle.std.specs.BinaryHeap.{IsUpperBound}
use Rattle.std.proofs.lemmas.Bool.{cases_eq}
use Rattle.std.proofs.lemmas.List.{map_push, get_or_default, drop_more}
use Rattle.std.proofs.lemmas.Bool.Decides.{Decides-eqb}
use Rattle.std.proofs.lemmas.List.Sums.{sum_by-cons, sum_by_push, sum_by-set, get_or-le-sum_by, sum_by-le}
use Rattle.std.proofs.lemmas.List.Sorted.{IsPermutation-sym, Contains-permutation, sum_by_pushed, sum_by_popped}
use Rattle.std.proofs.lemmas.List.Elements.{All-from_get_or, All-from_recursion, Contains-append_right, Contains-append_cases, All-contains}
use Rattle.jj_dag.specs.Graph.{HasEdge}
use Rattle.jj_dag.specs.ReadyNodes.{IsReady, TakesGreatestReady, IsStuck, index_graph, in_degree, IsNotBelow}
use Rattle.jj_dag.proofs.Walking.{has, has-push, has-from_Contains, Contains-from_has}

-- ---- counts

pub counted : {X : Type 0} (p : X → Bool) (xs : List X) → 0 < count_by p xs → (x : X) × Contains xs x × (p x ≡ true)
counted p [] h = absurd (omega arith)
counted {X} p (y ∷ ys) h =
    let P : Bool → Type 0 = λ b. p y ≡ b → (x : X) × Contains (y ∷ ys) x × (p x ≡ true) in
    elim (p y) as P [
      | true ↦ λ e. (y, (0, omega arith, refl), e)
      | false ↦ λ e.
          let c : count_by p (y ∷ ys) ≡ 0 + count_by p ys = sum_by-cons (λ x. cond (p x) 1 0) y ys ∙ ap (λ b. cond b 1 0 + count_by p ys) e in
          let r = counted p ys (omega arith) in (r.0, Contains-append_right (y ∷ []) ys r.0 r.1, r.2)
    ] refl

pub is_counted : {X : Type 0} (p : X → Bool) (xs : List X) (x : X) → Contains xs x → p x ≡ true → 0 < count_by p xs
is_counted p xs x (k, lt, e) t =
    let q : cond (p (get_or xs k x)) 1 0 ≤ count_by p xs = get_or-le-sum_by (λ y. cond (p y) 1 0) xs k x lt in
    let one : 1 ≤ count_by p xs = subst (λ (b : Bool). cond {A = ℕ} b 1 0 ≤ count_by p xs) (ap p e ∙ t) q in
    omega arith

pub same : (a : ℕ) → eqb a a ≡ true
same a = (Decides-eqb a a).1 refl

pub apart : (a b : ℕ) → a ≢ b → eqb a b ≡ false
apart a b h = elim (eqb a b) as (λ t. eqb a b ≡ t → eqb a b ≡ false) [ true ↦ λ e. absurd (h ((Decides-eqb a b).0 e)) | false ↦ λ e. e ] refl

pub one_at : (a : ℕ) → cond {A = ℕ} (eqb a a) 1 0 ≡ 1
one_at a = ap (λ b. cond {A = ℕ} b 1 0) (same a)

pub zero_at : (a b : ℕ) → a ≢ b → cond {A = ℕ} (eqb a b) 1 0 ≡ 0
zero_at a b h = ap (λ t. cond {A = ℕ} t 1 0) (apart a b h)

pub has-none : (xs : List ℕ) (a : ℕ) → count_by (eqb a) xs ≡ 0 → has xs a ≡ false
has-none xs a none = elim (has xs a) as (λ t. has xs a ≡ t → has xs a ≡ false) [
  | true ↦ λ e. let p = is_counted (eqb a) xs a (Contains-from_has xs a e) (same a) in absurd (omega arith)
  | false ↦ λ e. e
] refl

pub not_in : (xs : List ℕ) (a : ℕ) → has xs a ≡ false → Contains xs a → ⊥
not_in xs a f h = true≢false (sym (has-from_Contains xs a h) ∙ f)

pub counted_once : (xs : List ℕ) (a : ℕ) → 0 < count_by (eqb a) xs → Contains xs a
counted_once xs a h = let r = counted (eqb a) xs h in subst (λ (x : ℕ). Contains xs x) (sym ((Decides-eqb a r.0).0 r.2)) r.1

-- a positive sum has a positive part
some_part : (f : List ℕ → ℕ) (ls : List (List ℕ)) → 0 < sum_by f ls → (c : ℕ) × (c < length ls) × (0 < f (get_or ls c []))
some_part f [] h = absurd (omega arith)
some_part f (l ∷ ls) h =
    let e : sum_by f (l ∷ ls) ≡ f l + sum_by f ls = sum_by-cons f l ls in
    elim (cases_eq (f l) 0) [
      | inl z ↦ let r = some_part f ls (omega arith) in (suc r.0, let lt : r.0 < length ls = r.1 in omega arith, r.2)
      | inr nz ↦ (0, omega arith, omega arith)
    ]

-- ---- lists

pub split_push : {X : Type 0} (xs : List X) (x : X) (front back : List X) (a : X) → xs ++ x ∷ [] ≡ front ++ a ∷ back
    → ((front ≡ xs) × (a ≡ x)) ⊎ ((rest : List X) × (xs ≡ front ++ a ∷ rest))
split_push [] x [] back a e = inl (refl, cc)
split_push [] x (y ∷ []) back a e = absurd cc
split_push [] x (y ∷ (z ∷ front)) back a e = absurd cc
split_push (y ∷ xs) x [] back a e = inr (xs, let h : y ≡ a = cc in ap (λ v. v ∷ xs) h)
split_push (y ∷ xs) x (z ∷ front) back a e =
    let h : y ≡ z = cc in
    let t : xs ++ x ∷ [] ≡ front ++ a ∷ back = cc in
    ⊎_elim (λ l. inl (let f : front ≡ xs = l.0 in cc, l.1)) (λ r. inr (r.0, let f : xs ≡ front ++ a ∷ r.0 = r.1 in cc)) (split_push xs x front back a t)

pub only_one : {X : Type 0} (x y : X) → Contains (x ∷ []) y → x ≡ y
only_one x y (zero, lt, e) = e
only_one x y (suc k, lt, e) = absurd (omega arith)

no_split : {X : Type 0} (front back : List X) (a : X) → [] ≡ front ++ a ∷ back → ⊥
no_split [] back a e = cc
no_split (x ∷ front) back a e = cc

then_first : (o p : Ordering) → is_lt (ordering_then o p) ≡ false → is_lt o ≡ false
then_first Less p h = h
then_first Equal p h = refl
then_first Greater p h = refl

-- a look-up in a list of numbers, with default 0
pub read_is : (xs : List ℕ) (i r : ℕ) → i < length xs → r ≡ get_or xs i r → get_or xs i 0 ≡ r
read_is xs i r lt e = get_or_default xs i 0 r lt ∙ sym e

-- a changed in-degree is that of one index, which is the target of the edge
pub at_set : (xs : List ℕ) (i new k : ℕ) → i < length xs → ((cond {A = ℕ} (eqb k i) 1 0 ≡ 1) × (get_or (set xs i new) k 0 ≡ new) × (get_or xs k 0 ≡ get_or xs i 0))
    ⊎ ((cond {A = ℕ} (eqb k i) 1 0 ≡ 0) × (get_or (set xs i new) k 0 ≡ get_or xs k 0))
at_set xs i new k lt = elim (cases_eq k i) [
  | inl e ↦ inl (ap (λ n. cond {A = ℕ} (eqb n i) 1 0) e ∙ one_at i, ap (λ n. get_or (set xs i new) n 0) e ∙ get_or-set_same xs i new 0 lt, ap (λ n. get_or xs n 0) e)
  | inr ne ↦ inr (zero_at k i ne, get_or-set_other xs i k new 0 ne)
]

pub none_is : {X : Type 0} (o : Option X) → is_some o ≡ false → o ≡ None
none_is None h = refl
none_is (Some x) h = absurd (true≢false h)

-- ---- the state

module _ {T : Type 0} (cmp : T → T → Ordering) (slots : List (Option T)) (ts : List (List ℕ)) where
  -- how often the index is among those taken and those ready
  abbrev pub indexed : List ℕ → List (T × ℕ) → ℕ → ℕ
  indexed order ready k = count_by (eqb k) order + count_by (λ e. eqb k e.1) ready

  -- it was made ready when no edge from a node not taken led to it any more
  abbrev pub HasStatus : List (Option T) → List ℕ → List ℕ → List (T × ℕ) → ℕ → Type 0
  HasStatus pending degrees order ready k =
      ((get_or degrees k 0 ≡ 0) × (get_or pending k None ≡ None) × (indexed order ready k ≡ 1))
      ⊎ ((0 < get_or degrees k 0) × (get_or pending k None ≡ get_or slots k None) × (indexed order ready k ≡ 0))

  -- each ready node was in the slot of its index
  abbrev pub AreInSlots : List (T × ℕ) → Type 0
  AreInSlots ready = (x : T) (k : ℕ) → Contains ready (x, k) → (k < length slots) × (get_or slots k None ≡ Some x)

  in_slots_push : (x : T) (i : ℕ) (ready ready2 : List (T × ℕ)) → AreInSlots ready → i < length slots → get_or slots i None ≡ Some x → IsPermutation ((x, i) ∷ ready) ready2 → AreInSlots ready2
  in_slots_push x i ready ready2 before lt value perm = λ y j h.
      elim (Contains-append_cases {X = T × ℕ} ((x, i) ∷ []) ready (y, j) (Contains-permutation {X = T × ℕ} ready2 ((x, i) ∷ ready) (y, j) (IsPermutation-sym ((x, i) ∷ ready) ready2 perm) h)) [
        | inl l ↦ subst (λ (p : T × ℕ). (p.1 < length slots) × (get_or slots p.1 None ≡ Some p.0)) (only_one {X = T × ℕ} (x, i) (y, j) l) (lt, value)
        | inr r ↦ before y j r
      ]

  -- `live` has the lists of the nodes not taken, `extra` what is left of the last one's
  pub record IsTaking (pending : List (Option T)) (degrees extra : List ℕ) (live : List (List ℕ)) (order : List ℕ) (ready : List (T × ℕ)) : Type 0 where
    pub queued : length pending ≡ length slots
    pub counters : length degrees ≡ length slots
    pub lists : length live ≡ length slots
    pub heaped : AreInSlots ready
    pub status : (k : ℕ) → k < length slots → HasStatus pending degrees order ready k
    pub counts : (k : ℕ) → k < length slots → get_or degrees k 0 ≡ count_by (eqb k) extra + in_degree live k
    pub live_is : (k : ℕ) → k < length slots → get_or live k [] ≡ cond (has order k) [] (get_or ts k [])
    pub takes : TakesGreatestReady (index_graph ts) (λ k. k < length slots) (IsNotBelow cmp slots) order

  abbrev pub IsPopped : T → ℕ → List (T × ℕ) → Type 0
  IsPopped x i ready = (y : T) (k : ℕ) → Contains ready (y, k) → is_lt (ordering_then (cmp x y) (nat_cmp i k)) ≡ false

  -- every node with an edge to an index of in-degree 0 was taken
  taken_children : {pending : List (Option T)} {degrees : List ℕ} {live : List (List ℕ)} {order : List ℕ} {ready : List (T × ℕ)} (i : ℕ) → IsTaking pending degrees [] live order ready
      → i < length slots → get_or degrees i 0 ≡ 0 → (c : ℕ) → c < length slots → Contains (get_or ts c []) i → Contains order c
  taken_children {degrees = degrees} {live} {order} i k lt zero_degree c below edge =
      let none : get_or degrees i 0 ≡ count_by (eqb i) [] + in_degree live i = k.counts i lt in
      elim (has order c) as (λ t. has order c ≡ t → Contains order c) [
        | true ↦ λ e. Contains-from_has order c e
        | false ↦ λ e.
            let same_list : get_or live c [] ≡ get_or ts c [] = k.live_is c below ∙ ap (λ b. cond b [] (get_or ts c [])) e in
            let many = is_counted (eqb i) (get_or ts c []) i edge (same i) in
            let part : count_by (eqb i) (get_or live c []) ≤ in_degree live i = get_or-le-sum_by (λ l. count_by (eqb i) l) live c [] (rw (k.lists) below) in
            let q : count_by (eqb i) (get_or live c []) ≡ count_by (eqb i) (get_or ts c []) = ap (count_by (eqb i)) same_list in
            absurd (omega arith)
      ] refl

  -- an index whose children were all taken has in-degree 0
  no_edges : {pending : List (Option T)} {degrees : List ℕ} {live : List (List ℕ)} {order : List ℕ} {ready : List (T × ℕ)} (b : ℕ) → IsTaking pending degrees [] live order ready
      → b < length slots → ((c : ℕ) → c < length slots → Contains (get_or ts c []) b → Contains order c) → get_or degrees b 0 ≡ 0
  no_edges {degrees = degrees} {live} {order} b k lt children =
      let total : get_or degrees b 0 ≡ count_by (eqb b) [] + in_degree live b = k.counts b lt in
      let bound : in_degree live b ≤ length live * 0 = sum_by-le (λ l. count_by (eqb b) l) 0 live (All-from_get_or (λ l. count_by (eqb b) l ≤ 0) live [] (λ c below.
      let here : c < length slots = rw (← k.lists) below in
      let is = k.live_is c here in
      elim (has order c) as (λ t. has order c ≡ t → count_by (eqb b) (get_or live c []) ≤ 0) [
        | true ↦ λ e. let q : get_or live c [] ≡ [] = is ∙ ap (λ b. cond b [] (get_or ts c [])) e in let n : count_by (eqb b) (get_or live c []) ≡ 0 = ap (count_by (eqb b)) q in omega arith
        | false ↦ λ e.
            let q : get_or live c [] ≡ get_or ts c [] = is ∙ ap (λ b. cond b [] (get_or ts c [])) e in
            let n : count_by (eqb b) (get_or live c []) ≡ count_by (eqb b) (get_or ts c []) = ap (count_by (eqb b)) q in
            elim (cases_eq (count_by (eqb b) (get_or ts c [])) 0) [
              | inl z ↦ omega arith
              | inr z ↦ absurd (not_in order c e (children c here (counted_once (get_or ts c []) b (omega arith))))
            ]
      ] refl)) in
      omega arith

  status_of : (pending : List (Option T)) (degrees order order2 : List ℕ) (ready ready2 : List (T × ℕ)) (k : ℕ) → indexed order2 ready2 k ≡ indexed order ready k
      → HasStatus pending degrees order ready k → HasStatus pending degrees order2 ready2 k
  status_of pending degrees order order2 ready ready2 k e h = ⊎_elim (λ l. inl (l.0, l.1, e ∙ l.2)) (λ r. inr (r.0, r.1, e ∙ r.2)) h

  -- the node that leaves the heap was not taken, and no edge counts to it
  popped_status : {pending : List (Option T)} {degrees extra : List ℕ} {live : List (List ℕ)} {order : List ℕ} {ready : List (T × ℕ)} (x : T) (i : ℕ) → IsTaking pending degrees extra live order ready
      → Contains ready (x, i) → (get_or degrees i 0 ≡ 0) × (has order i ≡ false)
  popped_status {order = order} {ready} x i k at =
      let here = k.heaped x i at in
      let some : 0 < count_by {X = T × ℕ} (λ e. eqb i e.1) ready = is_counted {X = T × ℕ} (λ e. eqb i e.1) ready (x, i) at (same i) in
      ⊎_elim (λ l. let once : indexed order ready i ≡ 1 = l.2 in (l.0, has-none order i (omega arith)))
      (λ r. let none : indexed order ready i ≡ 0 = r.2 in absurd (omega arith)) (k.status i here.0)

  -- the node that leaves the heap is taken, and the edges from it are left to be counted off
  pub taking_popped : {pending : List (Option T)} {degrees : List ℕ} {live : List (List ℕ)} {order : List ℕ} {ready : List (T × ℕ)} (x : T) (i : ℕ) (ready2 : List (T × ℕ))
      → IsTaking pending degrees [] live order ready → IsPermutation ready ((x, i) ∷ ready2) → IsPopped x i ready
      → IsTaking pending degrees (get_or ts i []) (set live i []) (order ++ i ∷ []) ready2
  taking_popped {pending} {degrees} {live} {order} {ready} x i ready2 k perm above =
      let at : Contains ready (x, i) = Contains-permutation {X = T × ℕ} ((x, i) ∷ ready2) ready (x, i) (IsPermutation-sym ready ((x, i) ∷ ready2) perm) (0, omega arith, refl) in
      let here = k.heaped x i at in
      let found = popped_status x i k at in
      let fresh : has order i ≡ false = found.1 in
      let within : i < length live = rw (k.lists) here.0 in
      record {
        queued = k.queued;
        counters = k.counters;
        lists = length-set live i [] ∙ k.lists;
        heaped = λ y j h. k.heaped y j (Contains-permutation {X = T × ℕ} ((x, i) ∷ ready2) ready (y, j) (IsPermutation-sym ready ((x, i) ∷ ready2) perm) (Contains-append_right ((x, i) ∷ []) ready2 (y, j) h));
        status = λ j lt.
            let a : count_by {X = T × ℕ} (λ e. eqb j e.1) ready2 + cond (eqb j i) 1 0 ≡ count_by {X = T × ℕ} (λ e. eqb j e.1) ready = sum_by_popped {X = T × ℕ} (λ e. cond (eqb j e.1) 1 0) (x, i) ready ready2 perm in
            let b : count_by (eqb j) (order ++ i ∷ []) ≡ count_by (eqb j) order + cond (eqb j i) 1 0 = sum_by_push (λ e. cond (eqb j e) 1 0) order i in
            status_of pending degrees order (order ++ i ∷ []) ready ready2 j (omega arith) (k.status j lt);
        counts = λ j lt.
            let total : get_or degrees j 0 ≡ count_by (eqb j) [] + in_degree live j = k.counts j lt in
            let moved : in_degree (set live i []) j + count_by (eqb j) (get_or live i []) ≡ in_degree live j + count_by (eqb j) [] = sum_by-set (λ l. count_by (eqb j) l) live i [] [] within in
            let is : get_or live i [] ≡ get_or ts i [] = k.live_is i here.0 ∙ ap (λ b. cond b [] (get_or ts i [])) fresh in
            let part : count_by (eqb j) (get_or live i []) ≡ count_by (eqb j) (get_or ts i []) = ap (count_by (eqb j)) is in
            omega arith;
        live_is = λ j lt. elim (cases_eq j i) [
          | inl e ↦
              let left : get_or (set live i []) j [] ≡ [] = ap (λ n. get_or (set live i []) n []) e ∙ get_or-set_same live i [] [] within in
              let h : has (order ++ i ∷ []) j ≡ true = has-push order i j ∙ ap (λ b. b || has order j) (ap (eqb j) (sym e) ∙ same j) in
              left ∙ sym (ap (λ b. cond b [] (get_or ts j [])) h)
          | inr ne ↦
              let left : get_or (set live i []) j [] ≡ get_or live j [] = get_or-set_other live i j [] [] ne in
              let h : has (order ++ i ∷ []) j ≡ has order j = has-push order i j ∙ ap (λ b. b || has order j) (apart j i ne) in
              left ∙ k.live_is j lt ∙ sym (ap (λ b. cond b [] (get_or ts j [])) h)
        ];
        takes =
            let before = k.takes in
            record {
              ready = λ front back a e. elim (split_push order i front back a e) [
                | inl l ↦ subst (λ (n : ℕ). IsReady (index_graph ts) (λ c. c < length slots) front n) (sym l.1)
                    (subst (λ (l : List ℕ). IsReady (index_graph ts) (λ c. c < length slots) l i) (sym l.0)
                    (here.0, not_in order i fresh, taken_children i k here.0 found.0))
                | inr r ↦ before.ready front r.0 a r.1
              ];
              greatest = λ front back a b e ready_b. elim (split_push order i front back a e) [
                | inl l ↦ subst (λ (n : ℕ). IsNotBelow cmp slots n b) (sym l.1)
                    (top b (subst (λ (l : List ℕ). IsReady (index_graph ts) (λ c. c < length slots) l b) l.0 ready_b))
                | inr r ↦ before.greatest front r.0 a b r.1 ready_b
              ];
            };
      }
    where
      top : (b : ℕ) → IsReady (index_graph ts) (λ c. c < length slots) order b → IsNotBelow cmp slots i b
      top b r v w is_v is_w =
          let none : get_or degrees b 0 ≡ 0 = no_edges b k r.0 r.2 in
          let absent : count_by (eqb b) order ≡ 0 = elim (cases_eq (count_by (eqb b) order) 0) [ inl z ↦ z | inr z ↦ absurd (r.1 (counted_once order b (omega arith))) ] in
          let one : indexed order ready b ≡ 1 = ⊎_elim (λ l. l.2) (λ q. absurd (let some : 0 < get_or degrees b 0 = q.0 in omega arith)) (k.status b r.0) in
          let e = counted {X = T × ℕ} (λ e. eqb b e.1) ready (omega arith) in
          let found : e.0.1 ≡ b = sym ((Decides-eqb b e.0.1).0 e.2) in
          let at : Contains ready (e.0.0, b) = subst (λ (n : ℕ). Contains {X = T × ℕ} ready (e.0.0, n)) found e.1 in
          let value_w : get_or slots b None ≡ Some e.0.0 = (k.heaped e.0.0 b at).1 in
          let is_same_w : e.0.0 ≡ w = cc in
          let at_i : Contains ready (x, i) = Contains-permutation {X = T × ℕ} ((x, i) ∷ ready2) ready (x, i) (IsPermutation-sym ready ((x, i) ∷ ready2) perm) (0, omega arith, refl) in
          let value_v : get_or slots i None ≡ Some x = (k.heaped x i at_i).1 in
          let is_same_v : x ≡ v = cc in
          let below : is_lt (cmp x e.0.0) ≡ false = then_first (cmp x e.0.0) (nat_cmp i b) (above e.0.0 b at) in
          subst (λ (y : T). is_lt (cmp y w) ≡ false) is_same_v (subst (λ (y : T). is_lt (cmp x y) ≡ false) is_same_w below)

  -- the next edge is counted, so its target is pending
  pub counted_edge : {pending : List (Option T)} {degrees extra : List ℕ} {live : List (List ℕ)} {order : List ℕ} {ready : List (T × ℕ)} (t : ℕ) → IsTaking pending degrees (t ∷ extra) live order ready
      → t < length slots → (0 < get_or degrees t 0) × (get_or pending t None ≡ get_or slots t None) × (indexed order ready t ≡ 0)
  counted_edge {degrees = degrees} {extra} {live} t k lt =
      let total : get_or degrees t 0 ≡ count_by (eqb t) (t ∷ extra) + in_degree live t = k.counts t lt in
      let more : count_by (eqb t) (t ∷ extra) ≡ cond (eqb t t) 1 0 + count_by (eqb t) extra = sum_by-cons (λ y. cond (eqb t y) 1 0) t extra in
      let one = one_at t in
      ⊎_elim (λ l. absurd (let z : get_or degrees t 0 ≡ 0 = l.0 in omega arith)) (λ r. r) (k.status t lt)

  counts_less : {pending : List (Option T)} {degrees extra : List ℕ} {live : List (List ℕ)} {order : List ℕ} {ready : List (T × ℕ)} (t d : ℕ) → IsTaking pending degrees (t ∷ extra) live order ready
      → t < length slots → d + 1 ≡ get_or degrees t 0 → (j : ℕ) → j < length slots → get_or (set degrees t d) j 0 ≡ count_by (eqb j) extra + in_degree live j
  counts_less {degrees = degrees} {extra} {live} t d k lt less j below =
      let total : get_or degrees j 0 ≡ count_by (eqb j) (t ∷ extra) + in_degree live j = k.counts j below in
      let more : count_by (eqb j) (t ∷ extra) ≡ cond (eqb j t) 1 0 + count_by (eqb j) extra = sum_by-cons (λ y. cond (eqb j y) 1 0) t extra in
      ⊎_elim (λ (one, new, old). omega arith) (λ (none, other). omega arith) (at_set degrees t d j (rw (k.counters) lt))

  -- an edge is counted off, and others to its target are left
  pub taking_kept : {pending : List (Option T)} {degrees extra : List ℕ} {live : List (List ℕ)} {order : List ℕ} {ready : List (T × ℕ)} (t d : ℕ) → IsTaking pending degrees (t ∷ extra) live order ready
      → t < length slots → d + 1 ≡ get_or degrees t 0 → 0 < d → IsTaking pending (set degrees t d) extra live order ready
  taking_kept {pending} {degrees} {extra} {live} {order} {ready} t d k lt less more =
      let was = counted_edge t k lt in
      let within : t < length degrees = rw (k.counters) lt in
      record {
        queued = k.queued;
        counters = length-set degrees t d ∙ k.counters;
        lists = k.lists;
        heaped = k.heaped;
        status = λ j below. elim (cases_eq j t) [
          | inl e ↦ subst (λ (n : ℕ). HasStatus pending (set degrees t d) order ready n) (sym e) (inr (let new : get_or (set degrees t d) t 0 ≡ d = get_or-set_same degrees t d 0 within in omega arith, was.1, was.2))
          | inr ne ↦ let other : get_or (set degrees t d) j 0 ≡ get_or degrees j 0 = get_or-set_other degrees t j d 0 ne in
              ⊎_elim (λ l. inl (other ∙ l.0, l.1, l.2)) (λ r. inr (let some : 0 < get_or degrees j 0 = r.0 in omega arith, r.1, r.2)) (k.status j below)
        ];
        counts = counts_less t d k lt less;
        live_is = k.live_is;
        takes = k.takes;
      }

  -- the last edge to its target is counted off, which is made ready
  pub taking_readied : {pending : List (Option T)} {degrees extra : List ℕ} {live : List (List ℕ)} {order : List ℕ} {ready : List (T × ℕ)} (t : ℕ) (x : T) (ready2 : List (T × ℕ))
      → IsTaking pending degrees (t ∷ extra) live order ready → t < length slots → 1 ≡ get_or degrees t 0
      → get_or pending t None ≡ Some x → IsPermutation ((x, t) ∷ ready) ready2 → IsTaking (set pending t None) (set degrees t 0) extra live order ready2
  taking_readied {pending} {degrees} {extra} {live} {order} {ready} t x ready2 k lt less is perm =
      let was = counted_edge t k lt in
      let within : t < length degrees = rw (k.counters) lt in
      let within_pending : t < length pending = rw (k.queued) lt in
      let many : (j : ℕ) → count_by {X = T × ℕ} (λ e. eqb j e.1) ready2 ≡ cond (eqb j t) 1 0 + count_by {X = T × ℕ} (λ e. eqb j e.1) ready = λ j. sum_by_pushed {X = T × ℕ} (λ e. cond (eqb j e.1) 1 0) (x, t) ready ready2 perm in
      record {
        queued = length-set pending t None ∙ k.queued;
        counters = length-set degrees t 0 ∙ k.counters;
        lists = k.lists;
        heaped = in_slots_push x t ready ready2 k.heaped lt (sym was.1 ∙ is) perm;
        status = λ j below. elim (cases_eq j t) [
          | inl e ↦ subst (λ (n : ℕ). HasStatus (set pending t None) (set degrees t 0) order ready2 n) (sym e)
              (inl (
                get_or-set_same degrees t 0 0 within,
                get_or-set_same pending t None None within_pending,
                let none : indexed order ready t ≡ 0 = was.2 in
                    let m = many t in
                    let one = one_at t in
                    omega arith,
              ))
          | inr ne ↦
              let other : get_or (set degrees t 0) j 0 ≡ get_or degrees j 0 = get_or-set_other degrees t j 0 0 ne in
              let still : get_or (set pending t None) j None ≡ get_or pending j None = get_or-set_other pending t j None None ne in
              let m = many j in
              let zero_more = zero_at j t ne in
              let p : indexed order ready2 j ≡ indexed order ready j = omega arith in
              ⊎_elim (λ l. inl (other ∙ l.0, still ∙ l.1, p ∙ l.2)) (λ r. inr (let some : 0 < get_or degrees j 0 = r.0 in omega arith, still ∙ r.1, p ∙ r.2)) (k.status j below)
        ];
        counts = counts_less t 0 k lt (omega arith);
        live_is = k.live_is;
        takes = k.takes;
      }

  -- ---- the start: the indices of in-degree 0 are made ready one after the other

  pub record IsSorting (degrees : List ℕ) (index : ℕ) (pending : List (Option T)) (ready : List (T × ℕ)) : Type 0 where
    pub queued : length pending ≡ length slots
    pub heaped : AreInSlots ready
    pub done : (k : ℕ) → k < index → HasStatus pending degrees [] ready k
    pub rest : (k : ℕ) → index ≤ k → k < length slots → (get_or pending k None ≡ get_or slots k None) × (indexed [] ready k ≡ 0)

  pub sorting_kept : {degrees : List ℕ} {pending : List (Option T)} {ready : List (T × ℕ)} (index : ℕ) → IsSorting degrees index pending ready → index < length slots → 0 < get_or degrees index 0
      → IsSorting degrees (index + 1) pending ready
  sorting_kept {degrees} {pending} {ready} index k lt some = record {
    queued = k.queued;
    heaped = k.heaped;
    done = λ j below. elim (cases_eq j index) [
      | inl e ↦ subst (λ (n : ℕ). HasStatus pending degrees [] ready n) (sym e) (let r = k.rest index (omega arith) lt in inr (some, r.0, r.1))
      | inr ne ↦ k.done j (omega arith)
    ];
    rest = λ j above below. k.rest j (omega arith) below;
  }

  pub sorting_readied : {degrees : List ℕ} {pending : List (Option T)} {ready : List (T × ℕ)} (index : ℕ) (x : T) (ready2 : List (T × ℕ)) → IsSorting degrees index pending ready → index < length slots → get_or degrees index 0 ≡ 0
      → get_or pending index None ≡ Some x → IsPermutation ((x, index) ∷ ready) ready2 → IsSorting degrees (index + 1) (set pending index None) ready2
  sorting_readied {degrees} {pending} {ready} index x ready2 k lt none is perm =
      let was = k.rest index (omega arith) lt in
      let within : index < length pending = rw (k.queued) lt in
      let many : (j : ℕ) → count_by {X = T × ℕ} (λ e. eqb j e.1) ready2 ≡ cond (eqb j index) 1 0 + count_by {X = T × ℕ} (λ e. eqb j e.1) ready = λ j. sum_by_pushed {X = T × ℕ} (λ e. cond (eqb j e.1) 1 0) (x, index) ready ready2 perm in
      let others : (j : ℕ) → j ≢ index → (get_or (set pending index None) j None ≡ get_or pending j None) × (indexed [] ready2 j ≡ indexed [] ready j) = λ j ne.
      let m = many j in
      let zero_more = zero_at j index ne in
      (get_or-set_other pending index j None None ne, omega arith) in
      record {
        queued = length-set pending index None ∙ k.queued;
        heaped = in_slots_push x index ready ready2 k.heaped lt (sym was.0 ∙ is) perm;
        done = λ j below. elim (cases_eq j index) [
          | inl e ↦ subst (λ (n : ℕ). HasStatus (set pending index None) degrees [] ready2 n) (sym e)
              (inl (
                none,
                get_or-set_same pending index None None within,
                let before : indexed [] ready index ≡ 0 = was.1 in
                    let m = many index in
                    let one = one_at index in
                    omega arith,
              ))
          | inr ne ↦
              let o = others j ne in
              ⊎_elim (λ l. inl (l.0, o.0 ∙ l.1, o.1 ∙ l.2)) (λ r. inr (r.0, o.0 ∙ r.1, o.1 ∙ r.2)) (k.done j (omega arith))
        ];
        rest = λ j above below.
            let o = others j (omega arith) in
            let r = k.rest j (omega arith) below in
            (o.0 ∙ r.0, o.1 ∙ r.1);
      }

  pub taking_starts : {pending : List (Option T)} {ready : List (T × ℕ)} (degrees : List ℕ) → IsSorting degrees (length slots) pending ready → length degrees ≡ length slots → length ts ≡ length slots
      → ((k : ℕ) → k < length slots → get_or degrees k 0 ≡ in_degree ts k) → IsTaking pending degrees [] ts [] ready
  taking_starts degrees k counters lists counts = record {
    queued = k.queued;
    counters = counters;
    lists = lists;
    heaped = k.heaped;
    status = k.done;
    counts = λ j lt. let e = counts j lt in omega arith;
    live_is = λ j lt. refl;
    takes = record {
      ready = λ front back a e. absurd (no_split front back a e);
      greatest = λ front back a b e r. absurd (no_split front back a e);
    };
  }

  -- ---- the end: no node is ready any more

  pub taken_all : {pending : List (Option T)} {degrees : List ℕ} {live : List (List ℕ)} {order : List ℕ} {ready : List (T × ℕ)} → ready ≡ [] → IsTaking pending degrees [] live order ready
      → ((k : ℕ) → k < length slots → IsSome (get_or slots k None)) → ((k : ℕ) → k < length slots → get_or pending k None ≡ None) → (k : ℕ) → k < length slots → Contains order k
  taken_all {pending} {order = order} {ready} empty k present gone j lt =
      let none : count_by {X = T × ℕ} (λ e. eqb j e.1) ready ≡ 0 = ap (λ l. count_by {X = T × ℕ} (λ e. eqb j e.1) l) empty in
      ⊎_elim (λ l. let one : indexed order ready j ≡ 1 = l.2 in counted_once order j (omega arith))
      (λ r. absurd (true≢false (sym (subst (λ (o : Option T). IsSome o) (sym r.1 ∙ gone j lt) (present j lt))))) (k.status j lt)

  pub left_over : {pending : List (Option T)} {degrees : List ℕ} {live : List (List ℕ)} {order : List ℕ} {ready : List (T × ℕ)} → IsTaking pending degrees [] live order ready
      → (j : ℕ) (x : T) → j < length slots → get_or pending j None ≡ Some x → (get_or slots j None ≡ Some x) × (Contains order j → ⊥)
  left_over {pending} {order = order} {ready} k j x lt is =
      ⊎_elim (λ l. let gone : get_or pending j None ≡ None = l.1 in absurd cc)
      (λ r. let none : indexed order ready j ≡ 0 = r.2 in
      (sym r.1 ∙ is, λ h. let some = is_counted (eqb j) order j h (same j) in absurd (omega arith))) (k.status j lt)

  pub stuck : {pending : List (Option T)} {degrees : List ℕ} {live : List (List ℕ)} {order : List ℕ} {ready : List (T × ℕ)} → ready ≡ [] → IsTaking pending degrees [] live order ready
      → IsStuck (index_graph ts) (λ k. k < length slots) order
  stuck {degrees = degrees} {live} {order} {ready} empty k a lt out =
      let none : count_by {X = T × ℕ} (λ e. eqb a e.1) ready ≡ 0 = ap (λ l. count_by {X = T × ℕ} (λ e. eqb a e.1) l) empty in
      let total : get_or degrees a 0 ≡ count_by (eqb a) [] + in_degree live a = k.counts a lt in
      let some : 0 < get_or degrees a 0 = ⊎_elim (λ l. let one : indexed order ready a ≡ 1 = l.2 in absurd (out (counted_once order a (omega arith)))) (λ r. r.0) (k.status a lt) in
      let found = some_part (λ l. count_by (eqb a) l) live (omega arith) in
      let c = found.0 in
      let below : c < length slots = rw (← k.lists) found.1 in
      let is = k.live_is c below in
      let here : 0 < count_by (eqb a) (get_or live c []) = found.2 in
      elim (has order c) as (λ t. has order c ≡ t → (c : ℕ) × (c < length slots) × (Contains order c → ⊥) × HasEdge (index_graph ts) c a) [
        | true ↦ λ e. let q : count_by (eqb a) (get_or live c []) ≡ 0 = ap (count_by (eqb a)) (is ∙ ap (λ b. cond b [] (get_or ts c [])) e) in absurd (omega arith)
        | false ↦ λ e.
            let q : count_by (eqb a) (get_or live c []) ≡ count_by (eqb a) (get_or ts c []) = ap (count_by (eqb a)) (is ∙ ap (λ b. cond b [] (get_or ts c [])) e) in
            (c, below, not_in order c e, counted_once (get_or ts c []) a (omega arith))
      ] refl

  -- ---- by the contract of `make_ready`

  pub sorting_taken : {degrees : List ℕ} {pending : List (Option T)} {ready : List (T × ℕ)} (index : ℕ) (pending2 : List (Option T)) (ready2 : List (T × ℕ)) → IsSorting degrees index pending ready → index < length slots → get_or degrees index 0 ≡ 0
      → IsSome (get_or slots index None) → pending2 ≡ set pending index None → MatchOption (get_or pending index None) (ready2 ≡ ready) (λ x. IsPermutation ((x, index) ∷ ready) ready2) → IsSorting degrees (index + 1) pending2 ready2
  sorting_taken {degrees} {pending} {ready} index pending2 ready2 k lt none present is moved =
      let was = k.rest index (omega arith) lt in
      elim (get_or pending index None) as (λ o. get_or pending index None ≡ o → MatchOption o (ready2 ≡ ready) (λ x. IsPermutation ((x, index) ∷ ready) ready2) → IsSorting degrees (index + 1) pending2 ready2) [
        | None ↦ λ e m. absurd (true≢false (sym (subst (λ (o : Option T). IsSome o) (sym was.0 ∙ e) present)))
        | Some x ↦ λ e m. rw is (sorting_readied index x ready2 k lt none e m)
      ] refl moved

  pub taking_taken : {pending : List (Option T)} {degrees extra : List ℕ} {live : List (List ℕ)} {order : List ℕ} {ready : List (T × ℕ)} (t : ℕ) (pending2 : List (Option T)) (ready2 : List (T × ℕ))
      → IsTaking pending degrees (t ∷ extra) live order ready → t < length slots → 1 ≡ get_or degrees t 0 → IsSome (get_or slots t None)
      → pending2 ≡ set pending t None → MatchOption (get_or pending t None) (ready2 ≡ ready) (λ x. IsPermutation ((x, t) ∷ ready) ready2) → IsTaking pending2 (set degrees t 0) extra live order ready2
  taking_taken {pending} {degrees} {extra} {live} {order} {ready} t pending2 ready2 k lt less present is moved =
      let was = counted_edge t k lt in
      elim (get_or pending t None) as (λ o. get_or pending t None ≡ o → MatchOption o (ready2 ≡ ready) (λ x. IsPermutation ((x, t) ∷ ready) ready2) → IsTaking pending2 (set degrees t 0) extra live order ready2) [
        | None ↦ λ e m. absurd (true≢false (sym (subst (λ (o : Option T). IsSome o) (sym was.1 ∙ e) present)))
        | Some x ↦ λ e m. rw is (taking_readied t x ready2 k lt less e m)
      ] refl moved

  -- the next edge of a list, as the loop reads it
  at_next : {pending : List (Option T)} {degrees : List ℕ} {live : List (List ℕ)} {order : List ℕ} {ready : List (T × ℕ)} (xs : List ℕ) (i : ℕ)
      → IsTaking pending degrees (drop i xs) live order ready → i < length xs → IsTaking pending degrees (get_or xs i 0 ∷ drop (i + 1) xs) live order ready
  at_next {pending} {degrees} {live} {order} {ready} xs i k lt = subst (λ (l : List ℕ). IsTaking pending degrees l live order ready) (drop_more xs i 0 lt) k

  pub edge_counts : {pending : List (Option T)} {degrees : List ℕ} {live : List (List ℕ)} {order : List ℕ} {ready : List (T × ℕ)} (xs : List ℕ) (i r : ℕ)
      → IsTaking pending degrees (drop i xs) live order ready → i < length xs → get_or xs i 0 < length slots → r ≡ get_or degrees (get_or xs i 0) r → 1 ≤ r
  edge_counts {degrees = degrees} xs i r k lt within e =
      let some = counted_edge (get_or xs i 0) (at_next xs i k lt) within in
      let is = read_is degrees (get_or xs i 0) r (rw (k.counters) within) e in
      omega arith

  pub edge_kept : {pending : List (Option T)} {degrees : List ℕ} {live : List (List ℕ)} {order : List ℕ} {ready : List (T × ℕ)} (xs : List ℕ) (i r read : ℕ)
      → IsTaking pending degrees (drop i xs) live order ready → i < length xs → get_or xs i 0 < length slots → r ≡ get_or degrees (get_or xs i 0) r
      → read ≡ get_or (set degrees (get_or xs i 0) (r - 1)) (get_or xs i 0) read → read ≢ 0
      → IsTaking pending (set degrees (get_or xs i 0) (r - 1)) (drop (i + 1) xs) live order ready
  edge_kept {degrees = degrees} xs i r read k lt within e new more =
      let t = get_or xs i 0 in
      let below : t < length degrees = rw (k.counters) within in
      let some = edge_counts xs i r k lt within e in
      let is = read_is degrees t r below e in
      let after : read ≡ r - 1 = new ∙ get_or-set_same degrees t (r - 1) read below in
      taking_kept t (r - 1) (at_next xs i k lt) within (omega arith) (omega arith)

  pub edge_readied : {pending : List (Option T)} {degrees : List ℕ} {live : List (List ℕ)} {order : List ℕ} {ready : List (T × ℕ)} (xs : List ℕ) (i r read : ℕ) (pending2 : List (Option T)) (ready2 : List (T × ℕ))
      → IsTaking pending degrees (drop i xs) live order ready → i < length xs → get_or xs i 0 < length slots → r ≡ get_or degrees (get_or xs i 0) r
      → read ≡ get_or (set degrees (get_or xs i 0) (r - 1)) (get_or xs i 0) read → read ≡ 0 → IsSome (get_or slots (get_or xs i 0) None)
      → pending2 ≡ set pending (get_or xs i 0) None → MatchOption (get_or pending (get_or xs i 0) None) (ready2 ≡ ready) (λ x. IsPermutation ((x, get_or xs i 0) ∷ ready) ready2)
      → IsTaking pending2 (set degrees (get_or xs i 0) (r - 1)) (drop (i + 1) xs) live order ready2
  edge_readied {pending} {degrees} {live} {order} {ready} xs i r read pending2 ready2 k lt within e new none present is moved =
      let t = get_or xs i 0 in
      let below : t < length degrees = rw (k.counters) within in
      let some = edge_counts xs i r k lt within e in
      let was = read_is degrees t r below e in
      let after : read ≡ r - 1 = new ∙ get_or-set_same degrees t (r - 1) read below in
      let gone : 0 ≡ r - 1 = omega arith in
      subst (λ (d : ℕ). IsTaking pending2 (set degrees t d) (drop (i + 1) xs) live order ready2) gone
      (taking_taken t pending2 ready2 (at_next xs i k lt) within (omega arith) present is moved)

  -- the node that is left at an index
  pub left_is : {pending : List (Option T)} {degrees : List ℕ} {live : List (List ℕ)} {order : List ℕ} {ready : List (T × ℕ)} → ready ≡ [] → IsTaking pending degrees [] live order ready
      → (j : ℕ) (o : Option T) → j < length slots → get_or pending j None ≡ o → IsSome o
      → MatchOption o ((k : ℕ) → k < length slots → Contains order k)
      (λ x. (k : ℕ) × (k < length slots) × (get_or slots k None ≡ Some x) × (Contains order k → ⊥) × IsStuck (index_graph ts) (λ k. k < length slots) order)
  left_is empty k j None lt is some = absurd (true≢false (sym some))
  left_is empty k j (Some x) lt is some = let l = left_over k j x lt is in (j, lt, l.0, l.1, stuck empty k)

  pub popped_index : {pending : List (Option T)} {degrees extra : List ℕ} {live : List (List ℕ)} {order : List ℕ} {ready : List (T × ℕ)} (x : T) (i : ℕ) (ready2 : List (T × ℕ))
      → IsTaking pending degrees extra live order ready → IsPermutation ready ((x, i) ∷ ready2) → (i < length slots) × (get_or slots i None ≡ Some x)
  popped_index {ready = ready} x i ready2 k perm =
      k.heaped x i (Contains-permutation {X = T × ℕ} ((x, i) ∷ ready2) ready (x, i) (IsPermutation-sym ready ((x, i) ∷ ready2) perm) (0, omega arith, refl))

  pub popped_above : (x : T) (i : ℕ) (ready : List (T × ℕ)) → IsUpperBound (λ p q. ordering_then (cmp p.0 q.0) (nat_cmp p.1 q.1)) (x, i) ready → IsPopped x i ready
  popped_above x i ready up y k h =
      All-contains {X = T × ℕ} (λ q. is_lt (ordering_then (cmp x q.0) (nat_cmp i q.1)) ≡ false) ready (y, k) (All-from_recursion _ ready up) h

  pub picked_push : (xs ys : List T) (order : List ℕ) (x : T) (i : ℕ) → map (λ x. Some x) xs ≡ map (λ k. get_or slots k None) order → get_or slots i None ≡ Some x → ys ≡ xs ++ x ∷ []
      → map (λ x. Some x) ys ≡ map (λ k. get_or slots k None) (order ++ i ∷ [])
  picked_push xs ys order x i e is pushed =
      ap (map (λ x. Some x)) pushed ∙ map_push (λ x. Some x) xs x ∙ ap (λ l. l ++ Some x ∷ []) e ∙ ap (λ o. map (λ k. get_or slots k None) order ++ o ∷ []) (sym is) ∙ sym (map_push (λ k. get_or slots k None) order i)
