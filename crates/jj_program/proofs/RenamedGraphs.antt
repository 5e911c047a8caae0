-- Nodes under new names that ascend with the old ones: walks, cycles, maximal elements, closest common
-- nodes and the greatest topological order are the same under either.
use Rattle.std.proofs.Common.{◌≡◌, ◌∙◌, ◌↔◌, ◌+◌, ◌<◌, ℕ, zero, suc, List, [], ◌∷◌, ◌++◌, append_assoc, get_or, map, eqb, refl, ap, sym, subst, arith, ⊎_elim}
use Rattle.std.specs.List.{Contains, IsDistinct}
use Rattle.std.specs.List.Sorted.{IsStrictlyIncreasing}
use Rattle.std.proofs.lemmas.Bool.{cases_lt}
use Rattle.std.proofs.lemmas.List.{append_cancel_left, get_or-map, length-map, map-append}
use Rattle.jj_dag.specs.CommonNodes.{AreClosestCommon, IsCommon}
use Rattle.jj_dag.specs.Graph.{Graph, AreMaximalElements, IsGreatestTopologicalOrder, IsMaximal, IsTopologicalOrder, IsWalkOfLength, Precedes, ReachedFrom, StrictlyReaches}
use Rattle.jj_dag.specs.NodeGraph.{AreMaximalNodes, IsCommonNode, IsMaximalNode, NodePath, ReachesNode}
use Rattle.jj_dag.proofs.NamedNodes as nodes
use Rattle.jj_dag.proofs.Reaching.{Contains-split}
use Rattle.jj_dag.proofs.ReadyOrders.{at_split, distinct, here, later, twice}
use Rattle.jj_dag.proofs.Relabelled.{Contains-map, Contains-unmap, split_map}
use Rattle.jj_program.specs.GraphCommand.{HasCycle}

-- ascending numbers have ascending names
pub ascending_named : (name : ℕ → ℕ) → ((i j : ℕ) → i < j → name i < name j) → (xs : List ℕ) → IsStrictlyIncreasing xs → IsStrictlyIncreasing (map name xs)
ascending_named name rises xs up k inside =
    let size = length-map xs name in
    let first = get_or-map name xs k 0 0 (omega arith) in
    let second = get_or-map name xs (k + 1) 0 0 (omega arith) in
    omega (arith, first, second, rises (get_or xs k 0) (get_or xs (k + 1) 0) (up k (omega arith)))

-- ---- the words of numbers and those of nodes

path_of : (g : Graph) (steps a b : ℕ) → IsWalkOfLength g a b steps → NodePath g a b steps
path_of g zero a b p = p
path_of g (suc steps) a b (next, edge, p) = (next, edge, path_of g steps next b p)

walk_of : (g : Graph) (steps a b : ℕ) → NodePath g a b steps → IsWalkOfLength g a b steps
walk_of g zero a b p = p
walk_of g (suc steps) a b (next, edge, p) = (next, edge, walk_of g steps next b p)

reached_node : (g : Graph) (starts : List ℕ) (a : ℕ) → ReachedFrom g starts a ↔ ReachesNode g starts a
reached_node g starts a = (λ (b, among, (steps, p)). (b, among, (steps, path_of g steps b a p)), λ (b, among, (steps, p)). (b, among, (steps, walk_of g steps b a p)))

maximal_number : (g : Graph) (P Q : ℕ → Type 0) → ((a : ℕ) → P a ↔ Q a) → (a : ℕ) → IsMaximalNode g Q a ↔ IsMaximal g P a
maximal_number g P Q same a = (
  (λ (is, none). ((same a).1 is, λ b member differ (steps, p). none b ((same b).0 member) differ (steps, path_of g (suc steps) b a p))),
  λ (is, none). ((same a).0 is, λ b member differ (steps, p). none b ((same b).1 member) differ (steps, walk_of g (suc steps) b a p)),
)

maximal_numbers : (g : Graph) (P Q : ℕ → Type 0) → ((a : ℕ) → P a ↔ Q a) → (xs : List ℕ) → AreMaximalNodes g Q xs → (a : ℕ) → Contains xs a ↔ IsMaximal g P a
maximal_numbers g P Q same xs found a =
    let k = maximal_number g P Q same a in
    (λ among. k.0 ((found.all a).0 among), λ is. (found.all a).1 (k.1 is))

-- `named` is the graph of the names of the first n numbers
module _ (numbers named : Graph) (name : ℕ → ℕ) (n : ℕ) (rises : (i j : ℕ) → i < j → name i < name j)
    (within : (a b : ℕ) → Contains (numbers a) b → (a < n) × (b < n))
    (edges : (a : ℕ) → a < n → map name (numbers a) ≡ named (name a)) where
  -- ---- names

  pub one_to_one : (a b : ℕ) → name a ≡ name b → a ≡ b
  one_to_one a b same =
      ⊎_elim (λ less. absurd (omega (arith, rises a b less, same)))
      (λ most. ⊎_elim (λ more. absurd (omega (arith, rises b a more, same))) (λ least. omega arith) (cases_lt b a)) (cases_lt a b)

  map_once : (xs ys : List ℕ) → map name xs ≡ map name ys → xs ≡ ys
  map_once [] [] e = refl
  map_once [] (y ∷ ys) e = absurd cc
  map_once (x ∷ xs) [] e = absurd cc
  map_once (x ∷ xs) (y ∷ ys) e =
      let first : name x ≡ name y = cc in
      let rest : map name xs ≡ map name ys = cc in
      λ i. one_to_one x y first i ∷ map_once xs ys rest i

  contains_named : (xs : List ℕ) (a : ℕ) → Contains (map name xs) (name a) → Contains xs a
  contains_named xs a h =
      let m = Contains-unmap name xs (name a) h in
      subst (Contains xs) (one_to_one m.0 a m.2) m.1

  again : (xs front : List ℕ) (a : ℕ) (back : List ℕ) → IsDistinct eqb xs → xs ≡ front ++ a ∷ back → Contains front a → ⊥
  again xs front a back once e h =
      let s = Contains-split front a h in
      twice xs s.0 (s.1 ++ a ∷ back) a once (e ∙ ap (λ l. l ++ a ∷ back) s.2 ∙ append_assoc s.0 (a ∷ s.1) (a ∷ back)) (at_split s.1 a back)

  distinct_named : (xs : List ℕ) → IsDistinct eqb xs → IsDistinct eqb (map name xs)
  distinct_named xs once = distinct (map name xs) (λ front back a e h.
      let s = split_map name xs front back a e in
      let m = Contains-unmap name s.0 a (subst (λ (l : List ℕ). Contains l a) (sym s.4) h) in
      again xs s.0 s.1 s.2 once s.3 (subst (Contains s.0) (one_to_one m.0 s.1 (m.2 ∙ sym s.5)) m.1))

  distinct_unnamed : (xs : List ℕ) → IsDistinct eqb (map name xs) → IsDistinct eqb xs
  distinct_unnamed xs once = distinct xs (λ front back a e h.
      again (map name xs) (map name front) (name a) (map name back) once (ap (map name) e ∙ map-append name front (a ∷ back)) (Contains-map name front a h))

  -- ---- walks

  edge_up : (a b : ℕ) → Contains (numbers a) b → Contains (named (name a)) (name b)
  edge_up a b h = subst (λ (l : List ℕ). Contains l (name b)) (edges a (within a b h).0) (Contains-map name (numbers a) b h)

  edge_down : (a c : ℕ) → a < n → Contains (named (name a)) c → (b : ℕ) × Contains (numbers a) b × (name b ≡ c)
  edge_down a c inside h = Contains-unmap name (numbers a) c (subst (λ (l : List ℕ). Contains l c) (sym (edges a inside)) h)

  walk_up : (steps a b : ℕ) → IsWalkOfLength numbers a b steps → IsWalkOfLength named (name a) (name b) steps
  walk_up zero a b p = ap name p
  walk_up (suc steps) a b (next, edge, p) = (name next, edge_up a next edge, walk_up steps next b p)

  walk_down : (steps a c : ℕ) → a < n → IsWalkOfLength named (name a) c steps → (b : ℕ) × (name b ≡ c) × IsWalkOfLength numbers a b steps
  walk_down zero a c inside p = (a, p, refl)
  walk_down (suc steps) a c inside (next, edge, p) =
      let m = edge_down a next inside edge in
      let q = walk_down steps m.0 c (within a m.0 m.1).1 (subst (λ (b : ℕ). IsWalkOfLength named b c steps) (sym m.2) p) in
      (q.0, q.1, (m.0, m.1, q.2))

  strictly_up : (a b : ℕ) → StrictlyReaches numbers a b → StrictlyReaches named (name a) (name b)
  strictly_up a b (steps, p) = (steps, walk_up (suc steps) a b p)

  strictly_down : (a b : ℕ) → a < n → StrictlyReaches named (name a) (name b) → StrictlyReaches numbers a b
  strictly_down a b inside (steps, p) =
      let q = walk_down (suc steps) a (name b) inside p in
      (steps, subst (λ (c : ℕ). IsWalkOfLength numbers a c (suc steps)) (one_to_one q.0 b q.1) q.2)

  -- ---- cycles

  pub cycle_named : HasCycle numbers → HasCycle named
  cycle_named (a, cycle) = (name a, strictly_up a a cycle)

  -- a cycle of names is one of numbers, if each neighbor has a number
  pub cycle_unnamed : ((c d : ℕ) → Contains (named c) d → (b : ℕ) × (b < n) × (name b ≡ d)) → HasCycle named → HasCycle numbers
  cycle_unnamed numbered (c, (steps, (next, edge, way))) =
      let m = numbered c next edge in
      let q = walk_down steps m.0 c m.1 (subst (λ (b : ℕ). IsWalkOfLength named b c steps) (sym m.2) way) in
      let cycle : StrictlyReaches named c c = (steps, (next, edge, way)) in
      (q.0, strictly_down q.0 q.0 (nodes.stays numbers n within steps m.0 q.0 m.1 q.2) (subst (λ (b : ℕ). StrictlyReaches named b b) (sym q.1) cycle))

  -- ---- what some numbers reach

  abbrev pub AreNumbers : List ℕ → Type 0
  AreNumbers xs = (a : ℕ) → Contains xs a → a < n

  reached_up : (starts : List ℕ) (a : ℕ) → ReachedFrom numbers starts a → ReachedFrom named (map name starts) (name a)
  reached_up starts a (b, among, (steps, p)) = (name b, Contains-map name starts b among, (steps, walk_up steps b a p))

  reached_down : (starts : List ℕ) (c : ℕ) → AreNumbers starts → ReachedFrom named (map name starts) c → (a : ℕ) × (name a ≡ c) × ReachedFrom numbers starts a
  reached_down starts c inside (b, among, (steps, p)) =
      let s = Contains-unmap name starts b among in
      let q = walk_down steps s.0 c (inside s.0 s.1) (subst (λ (a : ℕ). IsWalkOfLength named a c steps) (sym s.2) p) in
      (q.0, q.1, (s.0, s.1, (steps, q.2)))

  -- ---- maximal elements

  pub heads_named : (starts heads : List ℕ) → AreNumbers starts → AreMaximalElements numbers starts heads → AreMaximalElements named (map name starts) (map name heads)
  heads_named starts heads inside found = record {
    all = maximal_numbers named (Contains (map name starts)) (Contains (map name starts)) (λ a. (λ among. among, λ among. among)) (map name heads)
        (nodes.heads_named numbers named name n (λ a b below_a below_b. one_to_one a b) within edges starts heads inside found);
    once = distinct_named heads found.once;
  }

  pub closest_named : (set1 set2 closest : List ℕ) → AreNumbers set1 → AreNumbers set2 → AreClosestCommon numbers set1 set2 closest
      → AreClosestCommon named (map name set1) (map name set2) (map name closest)
  closest_named set1 set2 closest inside1 inside2 found = record {
    all = maximal_numbers named (IsCommon named (map name set1) (map name set2)) (IsCommonNode named (map name set1) (map name set2))
        (λ a.
        let first = reached_node named (map name set1) a in
        let second = reached_node named (map name set2) a in
        (λ common. (first.0 common.0, second.0 common.1), λ common. (first.1 common.0, second.1 common.1)))
        (map name closest) (nodes.closest_named numbers named name n (λ a b below_a below_b. one_to_one a b) within edges set1 set2 closest inside1 inside2 found);
    once = distinct_named closest found.once;
  }

  -- ---- topological orders

  module _ (starts : List ℕ) (inside : AreNumbers starts) where
    ordered_up : (order : List ℕ) → IsTopologicalOrder numbers starts order → IsTopologicalOrder named (map name starts) (map name order)
    ordered_up order k = record {
      all = λ c. (
        (λ among.
            let m = Contains-unmap name order c among in
            subst (ReachedFrom named (map name starts)) m.2 (reached_up starts m.0 ((k.all m.0).0 m.1))),
        λ reached.
            let q = reached_down starts c inside reached in
            subst (Contains (map name order)) q.1 (Contains-map name order q.0 ((k.all q.0).1 q.2)),
      );
      once = distinct_named order k.once;
      before = λ a b among (steps, p).
          let m = Contains-unmap name order a among in
          let q = walk_down (suc steps) m.0 b (nodes.reached_within numbers n within starts inside m.0 ((k.all m.0).0 m.1)) (subst (λ (c : ℕ). IsWalkOfLength named c b (suc steps)) (sym m.2) p) in
          let s = k.before m.0 q.0 m.1 (steps, q.2) in
          let split : map name order ≡ map name s.0 ++ name m.0 ∷ map name s.1 = ap (map name) s.2 ∙ map-append name s.0 (m.0 ∷ s.1) in
          subst (λ (c : ℕ). Precedes (map name order) c b) m.2
          (subst (λ (c : ℕ). Precedes (map name order) (name m.0) c) q.1 (map name s.0, map name s.1, split, Contains-map name s.1 q.0 s.3));
    }

    ordered_down : (order : List ℕ) → IsTopologicalOrder named (map name starts) (map name order) → IsTopologicalOrder numbers starts order
    ordered_down order k = record {
      all = λ a. (
        (λ among.
            let q = reached_down starts (name a) inside ((k.all (name a)).0 (Contains-map name order a among)) in
            subst (ReachedFrom numbers starts) (one_to_one q.0 a q.1) q.2),
        λ reached. contains_named order a ((k.all (name a)).1 (reached_up starts a reached)),
      );
      once = distinct_unnamed order k.once;
      before = λ a b among reaches.
          let s = k.before (name a) (name b) (Contains-map name order a among) (strictly_up a b reaches) in
          let t = split_map name order s.0 s.1 (name a) s.2 in
          let same : t.1 ≡ a = one_to_one t.1 a t.5 in
          let split : order ≡ t.0 ++ a ∷ t.2 = t.3 ∙ ap (λ c. t.0 ++ c ∷ t.2) same in
          let whole : s.0 ++ name a ∷ map name t.2 ≡ s.0 ++ name a ∷ s.1 =
          ap (λ l. l ++ name a ∷ map name t.2) (sym t.4) ∙ sym (map-append name t.0 (a ∷ t.2)) ∙ sym (ap (map name) split) ∙ s.2 in
          let tails : name a ∷ map name t.2 ≡ name a ∷ s.1 = append_cancel_left s.0 (name a ∷ map name t.2) (name a ∷ s.1) whole in
          let rest : map name t.2 ≡ s.1 = cc in
          (t.0, t.2, split, contains_named t.2 b (subst (λ (l : List ℕ). Contains l (name b)) (sym rest) s.3));
    }

    numbered_list : (xs : List ℕ) → ((c : ℕ) → Contains xs c → ReachedFrom named (map name starts) c) → (ys : List ℕ) × (map name ys ≡ xs)
    numbered_list [] reached = ([], refl)
    numbered_list (c ∷ xs) reached =
        let q = reached_down starts c inside (reached c (here c xs)) in
        let r = numbered_list xs (λ d among. reached d (later c xs d among)) in
        (q.0 ∷ r.0, λ i. q.1 i ∷ r.1 i)

    pub greatest_named : (order : List ℕ) → IsGreatestTopologicalOrder numbers starts order → IsGreatestTopologicalOrder named (map name starts) (map name order)
    greatest_named order best = record {
      child_first = ordered_up order best.child_first;
      greatest = λ other is front highs lows a b e f differ.
          let u = numbered_list other (λ c among. (is.all c).0 among) in
          let below = ordered_down u.0 (subst (IsTopologicalOrder named (map name starts)) (sym u.1) is) in
          let s = split_map name order front highs a e in
          let t = split_map name u.0 front lows b (u.1 ∙ f) in
          let fronts : t.0 ≡ s.0 = map_once t.0 s.0 (t.4 ∙ sym s.4) in
          let less = best.greatest u.0 below s.0 s.2 t.2 s.1 t.1 s.3 (t.3 ∙ ap (λ l. l ++ t.1 ∷ t.2) fronts) (λ same. differ (sym s.5 ∙ ap name same ∙ t.5)) in
          omega (arith, rises t.1 s.1 less, s.5, t.5);
    }
