-- Nodes of any type by numbers below a bound: the maximal and the closest common nodes are those of
-- the maximal and the closest common numbers.
use Rattle.std.proofs.Common.{◌≡◌, ◌≢◌, ◌∙◌, ◌↔◌, ◌<◌, ℕ, zero, suc, List, length, get_or, map, eqb, refl, ap, sym, subst, arith}
use Rattle.std.specs.Prelude.{AllPairs}
use Rattle.std.specs.List.{Contains, IsDistinct}
use Rattle.std.proofs.lemmas.Bool.Decides.{Decides-eqb}
use Rattle.std.proofs.lemmas.List.{get_or-map, length-map}
use Rattle.std.proofs.lemmas.List.Elements.{Contains-get_or}
use Rattle.std.proofs.lemmas.Map.Made.{AllPairs-from_IsDistinct}
use Rattle.jj_dag.specs.CommonNodes.{AreClosestCommon, IsCommon}
use Rattle.jj_dag.specs.Graph.{Graph, AreMaximalElements, IsMaximal, IsWalkOfLength, ReachedFrom, StrictlyReaches}
use Rattle.jj_dag.specs.NodeGraph.{AreMaximalNodes, IsCommonNode, IsMaximalNode, NodeGraph, NodePath, ReachesNode, StrictlyReachesNode}
use Rattle.jj_dag.proofs.Relabelled.{Contains-map, Contains-unmap}

-- where each edge goes to a lesser number, no number is on a cycle
module _ (numbers : Graph) (falls : (a b : ℕ) → Contains (numbers a) b → b < a) where
  walk_falls : (steps a b : ℕ) → IsWalkOfLength numbers a b (suc steps) → b < a
  walk_falls zero a b (next, edge, p) = subst (λ c. c < a) p (falls a next edge)
  walk_falls (suc steps) a b (next, edge, p) = omega (arith, falls a next edge, walk_falls steps next b p)

  pub falling_acyclic : (a : ℕ) → StrictlyReaches numbers a a → ⊥
  falling_acyclic a (steps, p) = omega (arith, walk_falls steps a a p)

-- if all edges are between the first n numbers, these reach no other number
module _ (numbers : Graph) (n : ℕ) (within : (a b : ℕ) → Contains (numbers a) b → (a < n) × (b < n)) where
  pub stays : (steps a b : ℕ) → a < n → IsWalkOfLength numbers a b steps → b < n
  stays zero a b inside p = subst (λ c. c < n) p inside
  stays (suc steps) a b inside (next, edge, p) = stays steps next b (within a next edge).1 p

  pub reached_within : (starts : List ℕ) → ((a : ℕ) → Contains starts a → a < n) → (a : ℕ) → ReachedFrom numbers starts a → a < n
  reached_within starts inside a (b, among, (steps, p)) = stays steps b a (inside b among) p

-- `named` is the graph of the names of the first n numbers, which differ
module _ {A : Type 0} (numbers : Graph) (named : NodeGraph A) (name : ℕ → A) (n : ℕ)
    (one_to_one : (a b : ℕ) → a < n → b < n → name a ≡ name b → a ≡ b)
    (within : (a b : ℕ) → Contains (numbers a) b → (a < n) × (b < n))
    (edges : (a : ℕ) → a < n → map name (numbers a) ≡ named (name a)) where
  abbrev pub AreNumbers : List ℕ → Type 0
  AreNumbers xs = (a : ℕ) → Contains xs a → a < n

  distinct_named : (xs : List ℕ) → AreNumbers xs → IsDistinct eqb xs → AllPairs (λ a b. a ≢ b) (map name xs)
  distinct_named xs inside once i j d less below same =
      let size = length-map xs name in
      let second : j < length xs = omega (arith, size, below) in
      let first : i < length xs = omega (arith, less, second) in
      AllPairs-from_IsDistinct Decides-eqb xs once i j 0 less second
      (one_to_one (get_or xs i 0) (get_or xs j 0) (inside (get_or xs i 0) (Contains-get_or xs i 0 first)) (inside (get_or xs j 0) (Contains-get_or xs j 0 second))
      (sym (get_or-map name xs i 0 d first) ∙ same ∙ get_or-map name xs j 0 d second))

  -- ---- paths

  edge_up : (a b : ℕ) → Contains (numbers a) b → Contains (named (name a)) (name b)
  edge_up a b h = subst (λ l. Contains l (name b)) (edges a (within a b h).0) (Contains-map name (numbers a) b h)

  edge_down : (a : ℕ) (c : A) → a < n → Contains (named (name a)) c → (b : ℕ) × Contains (numbers a) b × (name b ≡ c)
  edge_down a c inside h = Contains-unmap name (numbers a) c (subst (λ l. Contains l c) (sym (edges a inside)) h)

  path_up : (steps a b : ℕ) → IsWalkOfLength numbers a b steps → NodePath named (name a) (name b) steps
  path_up zero a b p = ap name p
  path_up (suc steps) a b (next, edge, p) = (name next, edge_up a next edge, path_up steps next b p)

  path_down : (steps a : ℕ) (c : A) → a < n → NodePath named (name a) c steps → (b : ℕ) × (b < n) × (name b ≡ c) × IsWalkOfLength numbers a b steps
  path_down zero a c inside p = (a, inside, p, refl)
  path_down (suc steps) a c inside (next, edge, p) =
      let m = edge_down a next inside edge in
      let q = path_down steps m.0 c (within a m.0 m.1).1 (subst (λ x. NodePath named x c steps) (sym m.2) p) in
      (q.0, q.1, q.2, (m.0, m.1, q.3))

  strictly_up : (a b : ℕ) → StrictlyReaches numbers a b → StrictlyReachesNode named (name a) (name b)
  strictly_up a b (steps, p) = (steps, path_up (suc steps) a b p)

  strictly_down : (a b : ℕ) → a < n → b < n → StrictlyReachesNode named (name a) (name b) → StrictlyReaches numbers a b
  strictly_down a b inside below (steps, p) =
      let q = path_down (suc steps) a (name b) inside p in
      (steps, subst (λ c. IsWalkOfLength numbers a c (suc steps)) (one_to_one q.0 b q.1 below q.2) q.3)

  reached_up : (starts : List ℕ) (a : ℕ) → ReachedFrom numbers starts a → ReachesNode named (map name starts) (name a)
  reached_up starts a (b, among, (steps, p)) = (name b, Contains-map name starts b among, (steps, path_up steps b a p))

  reached_down : (starts : List ℕ) (c : A) → AreNumbers starts → ReachesNode named (map name starts) c → (a : ℕ) × (a < n) × (name a ≡ c) × ReachedFrom numbers starts a
  reached_down starts c inside (b, among, (steps, p)) =
      let s = Contains-unmap name starts b among in
      let q = path_down steps s.0 c (inside s.0 s.1) (subst (λ x. NodePath named x c steps) (sym s.2) p) in
      (q.0, q.1, q.2, (s.0, s.1, (steps, q.3)))

  -- ---- maximal members of a set, by their numbers

  module _ (IsNumber : ℕ → Type 0) (IsMember : A → Type 0) (inside : (a : ℕ) → IsNumber a → a < n) (up : (a : ℕ) → IsNumber a → IsMember (name a))
      (down : (c : A) → IsMember c → (a : ℕ) × (name a ≡ c) × IsNumber a) where
    maximal_up : (a : ℕ) → IsMaximal numbers IsNumber a → IsMaximalNode named IsMember (name a)
    maximal_up a (is, none) = (
      up a is,
      λ c member differ reaches.
          let m = down c member in
          none m.0 m.2 (λ same. differ (sym m.1 ∙ ap name same))
          (strictly_down m.0 a (inside m.0 m.2) (inside a is) (subst (λ x. StrictlyReachesNode named x (name a)) (sym m.1) reaches)),
    )

    maximal_down : (c : A) → IsMaximalNode named IsMember c → (a : ℕ) × (name a ≡ c) × IsMaximal numbers IsNumber a
    maximal_down c (is, none) =
        let m = down c is in (
          m.0,
          m.1,
          (
            m.2,
            λ b member differ reaches. none (name b) (up b member) (λ same. differ (one_to_one b m.0 (inside b member) (inside m.0 m.2) (same ∙ sym m.1)))
                (subst (λ x. StrictlyReachesNode named (name b) x) m.1 (strictly_up b m.0 reaches)),
          ),
        )

    maximal_named : (found : List ℕ) → ((a : ℕ) → Contains found a ↔ IsMaximal numbers IsNumber a) → IsDistinct eqb found → AreMaximalNodes named IsMember (map name found)
    maximal_named found all once = record {
      all = λ c. (
        (λ among.
            let m = Contains-unmap name found c among in
            subst (IsMaximalNode named IsMember) m.2 (maximal_up m.0 ((all m.0).0 m.1))),
        λ is.
            let m = maximal_down c is in
            subst (Contains (map name found)) m.1 (Contains-map name found m.0 ((all m.0).1 m.2)),
      );
      once = distinct_named found (λ a among. inside a ((all a).0 among).0) once;
    }

  pub heads_named : (starts heads : List ℕ) → AreNumbers starts → AreMaximalElements numbers starts heads → AreMaximalNodes named (Contains (map name starts)) (map name heads)
  heads_named starts heads inside found =
      maximal_named (Contains starts) (Contains (map name starts)) inside (Contains-map name starts)
      (λ c among. let m = Contains-unmap name starts c among in (m.0, m.2, m.1)) heads found.all found.once

  pub closest_named : (set1 set2 closest : List ℕ) → AreNumbers set1 → AreNumbers set2 → AreClosestCommon numbers set1 set2 closest
      → AreMaximalNodes named (IsCommonNode named (map name set1) (map name set2)) (map name closest)
  closest_named set1 set2 closest inside1 inside2 found =
      maximal_named (IsCommon numbers set1 set2) (IsCommonNode named (map name set1) (map name set2)) (λ a is. reached_within numbers n within set1 inside1 a is.0)
      (λ a is. (reached_up set1 a is.0, reached_up set2 a is.1))
      (λ c is.
      let one = reached_down set1 c inside1 is.0 in
      let other = reached_down set2 c inside2 is.1 in
      (one.0, one.2, (one.3, subst (ReachedFrom numbers set2) (one_to_one other.0 one.0 other.1 one.1 (other.2 ∙ sym one.2)) other.3)))
      closest found.all found.once
