-- From the graph of the numbers of nodes to the graph of the nodes.
use Rattle.std.proofs.Common.{◌≡◌, ◌≢◌, ◌∙◌, ℕ, zero, suc, List, [], ◌∷◌, ◌++◌, map, refl, sym, ap, subst, arith, eqb}
use Rattle.std.specs.Prelude.{◌↔◌, AllPairs}
use Rattle.std.specs.List.{Contains, IsDistinct}
use Rattle.std.proofs.lemmas.Bool.Decides.{Decides-eqb}
use Rattle.std.proofs.lemmas.List.{get_or-map, length-map}
use Rattle.std.proofs.lemmas.List.Elements.{Contains-append_right}
use Rattle.std.proofs.lemmas.Map.Made.{AllPairs-from_IsDistinct}
use Rattle.jj_dag.specs.CommonNodes.{AreClosestCommon, HasNoCommonCycle, IsCommon}
use Rattle.jj_dag.specs.Graph.{Graph, IsAcyclicFrom, IsTopologicalOrder, IsMaximal, AreMaximalElements, IsWalkOfLength, ReachedFrom, ReachesCycle, Precedes, StrictlyReaches}
use Rattle.jj_dag.specs.NodeGraph.{AreMaximalNodes, HasNoCommonNodeCycle, IsChildFirstOrder, IsCommonNode, IsMaximalNode, IsNodeBefore, NodeGraph, NodePath, ReachesNoCycle, ReachesNode, ReachesSomeCycle, StrictlyReachesNode}

pub Contains-map : {A : Type 0} (number : A → ℕ) (xs : List A) (a : A) → Contains xs a → Contains (map number xs) (number a)
Contains-map number xs a (k, within, is) =
    (k, omega (arith, length-map xs number), get_or-map number xs k a (number a) within ∙ ap number is)

pub Contains-from_map : {A : Type 0} (number : A → ℕ) (xs : List A) (b : ℕ) → Contains (map number xs) b → (a : A) × (b ≡ number a) × Contains xs a
Contains-from_map number [] b (k, within, is) = absurd (omega arith)
Contains-from_map number (x ∷ xs) b (zero, within, is) = (x, sym is, (0, omega arith, refl))
Contains-from_map number (x ∷ xs) b (suc k, within, is) =
    let r = Contains-from_map number xs b (k, omega arith, is) in
    (r.0, r.1, Contains-append_right (x ∷ []) xs r.0 r.2)

-- a node that is one step away from a reached one is reached
path_more : {A : Type 0} (g : NodeGraph A) (steps : ℕ) (a b c : A) → NodePath g a b steps → Contains (g b) c → NodePath g a c (suc steps)
path_more g zero a b c e edge = (c, subst (λ x. Contains (g x) c) (sym e) edge, refl)
path_more g (suc steps) a b c (d, first, rest) edge = (d, first, path_more g steps d b c rest edge)

pub reaches_more : {A : Type 0} (g : NodeGraph A) (starts : List A) (b c : A) → ReachesNode g starts b → Contains (g b) c → ReachesNode g starts c
reaches_more g starts b c (a, from, (steps, p)) edge = (a, from, (suc steps, path_more g steps a b c p edge))

-- where the numbers are split at one of them, so are the nodes
split_map : {A : Type 0} (number : A → ℕ) (xs : List A) (front back : List ℕ) (b : ℕ) → map number xs ≡ front ++ b ∷ back
    → (a : A) × (nodes others : List A) × (xs ≡ nodes ++ a ∷ others) × (b ≡ number a) × (back ≡ map number others)
split_map number [] [] back b e = absurd cc
split_map number [] (y ∷ front) back b e = absurd cc
split_map number (x ∷ xs) [] back b e =
    let first : number x ≡ b = cc in
    let rest : map number xs ≡ back = cc in
    (x, [], xs, refl, sym first, sym rest)
split_map number (x ∷ xs) (y ∷ front) back b e =
    let rest : map number xs ≡ front ++ b ∷ back = cc in
    let r = split_map number xs front back b rest in
    (r.0, x ∷ r.1, r.2, ap (λ l. x ∷ l) r.3, r.4, r.5)

-- Nodes by numbers: each node has one, which no other node has.
module _ {A : Type 0} (g : NodeGraph A) (number : A → ℕ) (id_of : ℕ → A) (inverse : (a : A) → id_of (number a) ≡ a) where
  -- the graph of the numbers
  abbrev pub numbers_graph : Graph
  numbers_graph a = map number (g (id_of a))

  pub one_node : (a b : A) → number a ≡ number b → a ≡ b
  one_node a b e = sym (inverse a) ∙ ap id_of e ∙ inverse b

  Contains-back : (xs : List A) (a : A) → Contains (map number xs) (number a) → Contains xs a
  Contains-back xs a h = let r = Contains-from_map number xs (number a) h in subst (Contains xs) (sym (one_node a r.0 r.1)) r.2

  path_up : (steps : ℕ) (a b : A) → NodePath g a b steps → IsWalkOfLength numbers_graph (number a) (number b) steps
  path_up zero a b e = ap number e
  path_up (suc steps) a b (c, edge, rest) =
      (number c, subst (λ x. Contains (map number (g x)) (number c)) (sym (inverse a)) (Contains-map number (g a) c edge), path_up steps c b rest)

  pub path_down : (steps : ℕ) (a : A) (b : ℕ) → IsWalkOfLength numbers_graph (number a) b steps → (y : A) × (b ≡ number y) × NodePath g a y steps
  path_down zero a b e = (a, sym e, refl)
  path_down (suc steps) a b (c, edge, rest) =
      let r = Contains-from_map number (g a) c (subst (λ x. Contains (map number (g x)) c) (inverse a) edge) in
      let below = path_down steps r.0 b (subst (λ x. IsWalkOfLength numbers_graph x b steps) r.1 rest) in
      (below.0, below.1, (r.0, r.2, below.2))

  path_back : (steps : ℕ) (a b : A) → IsWalkOfLength numbers_graph (number a) (number b) steps → NodePath g a b steps
  path_back steps a b p = let r = path_down steps a (number b) p in subst (λ y. NodePath g a y steps) (sym (one_node b r.0 r.1)) r.2

  strictly_up : (a b : A) → StrictlyReachesNode g a b → StrictlyReaches numbers_graph (number a) (number b)
  strictly_up a b (steps, p) = (steps, path_up (suc steps) a b p)

  strictly_back : (a b : A) → StrictlyReaches numbers_graph (number a) (number b) → StrictlyReachesNode g a b
  strictly_back a b (steps, p) = (steps, path_back (suc steps) a b p)

  pub reached_up : (starts : List A) (b : A) → ReachesNode g starts b → ReachedFrom numbers_graph (map number starts) (number b)
  reached_up starts b (a, from, (steps, p)) = (number a, Contains-map number starts a from, (steps, path_up steps a b p))

  pub reached_down : (starts : List A) (b : ℕ) → ReachedFrom numbers_graph (map number starts) b → (y : A) × (b ≡ number y) × ReachesNode g starts y
  reached_down starts b (a, from, (steps, p)) =
      let r = Contains-from_map number starts a from in
      let below = path_down steps r.0 b (subst (λ x. IsWalkOfLength numbers_graph x b steps) r.1 p) in
      (below.0, below.1, (r.0, r.2, (steps, below.2)))

  pub reached_back : (starts : List A) (b : A) → ReachedFrom numbers_graph (map number starts) (number b) → ReachesNode g starts b
  reached_back starts b h = let r = reached_down starts (number b) h in subst (ReachesNode g starts) (sym (one_node b r.0 r.1)) r.2

  -- where a number is on a cycle, its node is
  cycle_back : (a : ℕ) (y : A) → a ≡ number y → StrictlyReaches numbers_graph a a → StrictlyReachesNode g y y
  cycle_back a y e cycle = strictly_back y y (subst (λ x. StrictlyReaches numbers_graph x x) e cycle)

  pub no_cycle_up : (starts : List A) → ReachesNoCycle g starts → IsAcyclicFrom numbers_graph (map number starts)
  no_cycle_up starts none a reached cycle = let r = reached_down starts a reached in none r.0 r.2 (cycle_back a r.0 r.1 cycle)

  pub no_cycle_back : (starts : List A) → IsAcyclicFrom numbers_graph (map number starts) → ReachesNoCycle g starts
  no_cycle_back starts none a reached cycle = none (number a) (reached_up starts a reached) (strictly_up a a cycle)

  pub cycle_node : (starts : List A) → ReachesCycle numbers_graph (map number starts) → ReachesSomeCycle g starts
  cycle_node starts (a, (reached, cycle)) = let r = reached_down starts a reached in (r.0, r.2, cycle_back a r.0 r.1 cycle)

  distinct_back : (xs : List A) → IsDistinct eqb (map number xs) → AllPairs (λ a b. a ≢ b) xs
  distinct_back xs once i j d less within same =
      let differ = AllPairs-from_IsDistinct Decides-eqb (map number xs) once i j (number d) less (omega (arith, length-map xs number)) in
      differ (get_or-map number xs i d (number d) (omega arith) ∙ ap number same ∙ sym (get_or-map number xs j d (number d) within))

  -- Members by their numbers.
  module _ (IsNumber : ℕ → Type 0) (IsMember : A → Type 0) (up : (a : A) → IsMember a → IsNumber (number a))
      (down : (b : ℕ) → IsNumber b → (y : A) × (b ≡ number y) × IsMember y) where
    member_back : (a : A) → IsNumber (number a) → IsMember a
    member_back a h = let r = down (number a) h in subst IsMember (sym (one_node a r.0 r.1)) r.2

    maximal_back : (a : A) → IsMaximal numbers_graph IsNumber (number a) → IsMaximalNode g IsMember a
    maximal_back a (is, none) = (member_back a is, λ b member differ above. none (number b) (up b member) (λ e. differ (one_node b a e)) (strictly_up b a above))

    maximal_up : (a : A) → IsMaximalNode g IsMember a → IsMaximal numbers_graph IsNumber (number a)
    maximal_up a (is, none) = (
      up a is,
      λ b h differ above.
          let r = down b h in
          none r.0 r.2 (λ e. differ (r.1 ∙ ap number e)) (strictly_back r.0 a (subst (λ x. StrictlyReaches numbers_graph x (number a)) r.1 above)),
    )

    maximal_list : (xs : List A) → ((a : ℕ) → Contains (map number xs) a ↔ IsMaximal numbers_graph IsNumber a) → IsDistinct eqb (map number xs) → AreMaximalNodes g IsMember xs
    maximal_list xs all once = record {
      all = λ a. ((λ h. maximal_back a ((all (number a)).0 (Contains-map number xs a h))), λ h. Contains-back xs a ((all (number a)).1 (maximal_up a h)));
      once = distinct_back xs once;
    }

  -- the maximal members of a set
  pub maximal_nodes : (set xs : List A) → AreMaximalElements numbers_graph (map number set) (map number xs) → AreMaximalNodes g (Contains set) xs
  maximal_nodes set xs k = maximal_list (Contains (map number set)) (Contains set) (Contains-map number set) (Contains-from_map number set) xs k.all k.once

  common_up : (set1 set2 : List A) (a : A) → IsCommonNode g set1 set2 a → IsCommon numbers_graph (map number set1) (map number set2) (number a)
  common_up set1 set2 a (first, second) = (reached_up set1 a first, reached_up set2 a second)

  common_down : (set1 set2 : List A) (b : ℕ) → IsCommon numbers_graph (map number set1) (map number set2) b → (y : A) × (b ≡ number y) × IsCommonNode g set1 set2 y
  common_down set1 set2 b (first, second) =
      let r = reached_down set1 b first in
      (r.0, r.1, (r.2, reached_back set2 r.0 (subst (ReachedFrom numbers_graph (map number set2)) r.1 second)))

  pub no_common_cycle_up : (set1 set2 : List A) → HasNoCommonNodeCycle g set1 set2 → HasNoCommonCycle numbers_graph (map number set1) (map number set2)
  no_common_cycle_up set1 set2 none a common cycle = let r = common_down set1 set2 a common in none r.0 r.2 (cycle_back a r.0 r.1 cycle)

  -- the closest common nodes of two sets
  pub closest_nodes : (set1 set2 xs : List A) → AreClosestCommon numbers_graph (map number set1) (map number set2) (map number xs) → AreMaximalNodes g (IsCommonNode g set1 set2) xs
  closest_nodes set1 set2 xs k =
      maximal_list (IsCommon numbers_graph (map number set1) (map number set2)) (IsCommonNode g set1 set2) (common_up set1 set2) (common_down set1 set2) xs k.all k.once

  before_back : (order : List A) (a b : A) → Precedes (map number order) (number a) (number b) → IsNodeBefore order a b
  before_back order a b (front, back, e, h) =
      let (y, nodes, others, split, same, rest) = split_map number order front back (number a) e in
      (nodes, others, split ∙ ap (λ z. nodes ++ z ∷ others) (sym (one_node a y same)), Contains-back others b (subst (λ l. Contains l (number b)) rest h))

  -- the order in which each node is before those that it reaches
  pub child_first_nodes : (starts order : List A) → IsTopologicalOrder numbers_graph (map number starts) (map number order) → IsChildFirstOrder g starts order
  child_first_nodes starts order k = record {
    all = λ a. ((λ h. reached_back starts a ((k.all (number a)).0 (Contains-map number order a h))), λ h. Contains-back order a ((k.all (number a)).1 (reached_up starts a h)));
    once = distinct_back order k.once;
    before = λ a b inside below. before_back order a b (k.before (number a) (number b) (Contains-map number order a inside) (strictly_up a b below));
  }
