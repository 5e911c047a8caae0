-- From an order of indices to an order of the numbers at them.
use Rattle.std.proofs.Common.{◌≡◌, ℕ, zero, suc, ◌<◌, List, [], ◌∷◌, ◌++◌, length, map, get_or, refl, sym, ◌∙◌, ap, subst, arith}
use Rattle.std.specs.List.{Contains}
use Rattle.std.proofs.lemmas.List.{get_or_default}
use Rattle.std.proofs.lemmas.List.Elements.{Contains-append_left, Contains-get_or}
use Rattle.jj_dag.specs.Graph.{Graph, HasEdge, IsWalkOfLength, StrictlyReaches}
use Rattle.jj_dag.specs.Collecting.{IsInjective}
use Rattle.jj_dag.specs.ReadyNodes.{IsReady, TakesGreatestReady, index_graph}
use Rattle.jj_dag.proofs.Reaching.{Contains-split}
use Rattle.jj_dag.proofs.ReadyOrders.{here, later}

pub Contains-map : {X Y : Type 0} (f : X → Y) (xs : List X) (x : X) → Contains xs x → Contains (map f xs) (f x)
Contains-map f [] x (k, lt, e) = absurd (omega arith)
Contains-map f (y ∷ ys) x (zero, lt, e) = (0, omega arith, ap f e)
Contains-map f (y ∷ ys) x (suc k, lt, e) = later (f y) (map f ys) (f x) (Contains-map f ys x (k, omega arith, e))

pub Contains-unmap : {X Y : Type 0} (f : X → Y) (xs : List X) (y : Y) → Contains (map f xs) y → (x : X) × Contains xs x × (f x ≡ y)
Contains-unmap f [] y (k, lt, e) = absurd (omega arith)
Contains-unmap f (x ∷ xs) y (zero, lt, e) = (x, here x xs, e)
Contains-unmap f (x ∷ xs) y (suc k, lt, e) = let r = Contains-unmap f xs y (k, omega arith, e) in (r.0, later x xs r.0 r.1, r.2)

pub split_map : {X Y : Type 0} (f : X → Y) (xs : List X) (front back : List Y) (a : Y) → map f xs ≡ front ++ a ∷ back
    → (before : List X) × (x : X) × (after : List X) × (xs ≡ before ++ x ∷ after) × (map f before ≡ front) × (f x ≡ a)
split_map f [] [] back a e = absurd cc
split_map f [] (y ∷ front) back a e = absurd cc
split_map f (x ∷ xs) [] back a e = ([], x, xs, refl, refl, cc)
split_map f (x ∷ xs) (y ∷ front) back a e =
    let t : map f xs ≡ front ++ a ∷ back = cc in
    let h : f x ≡ y = cc in
    let r = split_map f xs front back a t in
    (x ∷ r.0, r.1, r.2, ap (λ l. x ∷ l) r.3, ap (λ l. f x ∷ l) r.4 ∙ ap (λ n. n ∷ front) h, r.5)

module _ (g : Graph) (ns : List ℕ) (ts : List (List ℕ)) (injective : IsInjective ns)
    (edges : (k : ℕ) → k < length ns → map (λ j. get_or ns j 0) (get_or ts k []) ≡ g (get_or ns k 0))
    (within : (a b : ℕ) → Contains (get_or ts a []) b → b < length ns) where
  abbrev number : ℕ → ℕ
  number k = get_or ns k 0

  -- an edge of the indices is an edge of the numbers, and the other way round
  edge_up : (a b : ℕ) → a < length ns → Contains (get_or ts a []) b → HasEdge g (number a) (number b)
  edge_up a b lt h = subst (λ (l : List ℕ). Contains l (number b)) (edges a lt) (Contains-map (λ j. get_or ns j 0) (get_or ts a []) b h)

  edge_down : (a b : ℕ) → a < length ns → b < length ns → HasEdge g (number a) (number b) → Contains (get_or ts a []) b
  edge_down a b la lb h =
      let r = Contains-unmap (λ j. get_or ns j 0) (get_or ts a []) (number b) (subst (λ (l : List ℕ). Contains l (number b)) (sym (edges a la)) h) in
      let e : r.0 ≡ b = injective r.0 b (within a r.0 r.1) lb r.2 in
      subst (λ (n : ℕ). Contains (get_or ts a []) n) e r.1

  index_of : (a : ℕ) → Contains ns a → (k : ℕ) × (k < length ns) × (number k ≡ a)
  index_of a (k, lt, e) = (k, lt, get_or_default ns k 0 a lt ∙ e)

  numbered : (k : ℕ) → k < length ns → Contains ns (number k)
  numbered k lt = Contains-get_or ns k 0 lt

  -- an index of one of the numbers is among the indices
  unnumbered : (front : List ℕ) → ((k : ℕ) → Contains front k → k < length ns) → (j : ℕ) → j < length ns → Contains (map (λ j. get_or ns j 0) front) (number j) → Contains front j
  unnumbered front below j lt h =
      let r = Contains-unmap (λ j. get_or ns j 0) front (number j) h in
      subst (λ (n : ℕ). Contains front n) (injective r.0 j (below r.0 r.1) lt r.2) r.1

  -- from all indices of these numbers to the numbers
  abbrev pub AtPlaces : (ℕ → ℕ → Type 0) → ℕ → ℕ → Type 0
  AtPlaces P a b = (i j : ℕ) → i < length ns → j < length ns → get_or ns i 0 ≡ a → get_or ns j 0 ≡ b → P i j

  pub relabelled : (P : ℕ → ℕ → Type 0) (order : List ℕ) → TakesGreatestReady (index_graph ts) (λ k. k < length ns) P order
      → TakesGreatestReady g (Contains ns) (AtPlaces P) (map (λ k. get_or ns k 0) order)
  relabelled P order k = record {
    ready = λ front back a e.
        let s = split_map (λ k. get_or ns k 0) order front back a e in
        let r = k.ready s.0 s.2 s.1 s.3 in
        subst (λ (n : ℕ). IsReady g (Contains ns) front n) s.5 (subst (λ (l : List ℕ). IsReady g (Contains ns) l (number s.1)) s.4 (up s.0 s.1 (below_front s.0 s.2 s.1 s.3) r));
    greatest = λ front back a b e r.
        let s = split_map (λ k. get_or ns k 0) order front back a e in
        let q = index_of b r.0 in
        let x_in = (k.ready s.0 s.2 s.1 s.3).0 in
        let ready_q = down s.0 q.0 q.1 (below_front s.0 s.2 s.1 s.3) (subst (λ (n : ℕ). IsReady g (Contains ns) (map (λ k. get_or ns k 0) s.0) n) (sym q.2) (subst (λ (l : List ℕ). IsReady g (Contains ns) l b) (sym s.4) r)) in
        let holds = k.greatest s.0 s.2 s.1 q.0 s.3 ready_q in
        λ i j il jl ei ej.
        let ii : i ≡ s.1 = injective i s.1 il x_in (ei ∙ sym s.5) in
        let jj : j ≡ q.0 = injective j q.0 jl q.1 (ej ∙ sym q.2) in
        subst (λ (n : ℕ). P n j) (sym ii) (subst (λ (n : ℕ). P s.1 n) (sym jj) holds);
  }
    where
      below_front : (front back : List ℕ) (x : ℕ) → order ≡ front ++ x ∷ back → (j : ℕ) → Contains front j → j < length ns
      below_front front back x e j h =
          let in_order : Contains order j = subst (λ (l : List ℕ). Contains l j) (sym e) (Contains-append_left front (x ∷ back) j h) in
          let s = Contains-split order j in_order in
          (k.ready s.0 s.1 j s.2).0

      up : (front : List ℕ) (x : ℕ) → ((j : ℕ) → Contains front j → j < length ns) → IsReady (index_graph ts) (λ k. k < length ns) front x → IsReady g (Contains ns) (map (λ k. get_or ns k 0) front) (number x)
      up front x below r = (
        numbered x r.0,
        λ h. r.1 (unnumbered front below x r.0 h),
        λ c is edge.
            let p = index_of c is in
            let edge_p : HasEdge g (number p.0) (number x) = subst (λ (n : ℕ). HasEdge g n (number x)) (sym p.2) edge in
            subst (λ (n : ℕ). Contains (map (λ k. get_or ns k 0) front) n) p.2 (Contains-map (λ k. get_or ns k 0) front p.0 (r.2 p.0 p.1 (edge_down p.0 x p.1 r.0 edge_p))),
      )

      down : (front : List ℕ) (x : ℕ) → x < length ns → ((j : ℕ) → Contains front j → j < length ns) → IsReady g (Contains ns) (map (λ k. get_or ns k 0) front) (number x) → IsReady (index_graph ts) (λ k. k < length ns) front x
      down front x lt below r = (lt, λ h. r.1 (Contains-map (λ k. get_or ns k 0) front x h), λ c is edge. unnumbered front below c is (r.2 (number c) (numbered c is) (edge_up c x is edge)))

  -- a cycle of the indices is a cycle of the numbers
  path_up : (n a b : ℕ) → a < length ns → IsWalkOfLength (index_graph ts) a b n → IsWalkOfLength g (number a) (number b) n
  path_up zero a b lt p = ap (λ k. get_or ns k 0) p
  path_up (suc n) a b lt (c, edge, p) = (number c, edge_up a c lt edge, path_up n c b (within a c edge) p)

  pub StrictlyReaches-up : (a b : ℕ) → a < length ns → StrictlyReaches (index_graph ts) a b → StrictlyReaches g (number a) (number b)
  StrictlyReaches-up a b lt s = (s.0, path_up (suc s.0) a b lt s.1)
