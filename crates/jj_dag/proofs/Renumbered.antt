-- A walk under other numbers: closures define the renumbered graph too, if the numbering is
-- one-to-one.
use Rattle.std.proofs.Common.{◌≡◌, ◌≢◌, ◌<◌, ℕ, zero, suc, append_assoc, Bool, true, false, cond, ◌&&◌, ◌==◌, List, [], ◌∷◌, ◌++◌, map, refl, sym, ◌∙◌, ap, subst}
use Rattle.std.specs.List.{Contains}
use Rattle.std.specs.Fn.{Mut, AlwaysReturns, ReturnsEach}
use Rattle.std.proofs.lemmas.Bool.Decides.{Decides-eqb}
use Rattle.std.proofs.lemmas.List.{map-append}
use Rattle.std.proofs.lemmas.List.Elements.{Contains-append_left}
use Rattle.std.proofs.lemmas.Bool.{and_from, and_parts}
use Rattle.jj_dag.specs.Graph.{HasEdge, IsWalkOfLength, ReachedFrom, Precedes, IsTopologicalOrder, IsGreatestTopologicalOrder}
use Rattle.jj_dag.specs.Walk.{GraphModel, AreNodes}
use Rattle.jj_dag.proofs.Collecting.{are_nodes}
use Rattle.jj_dag.proofs.Reaching.{Contains-split}
use Rattle.jj_dag.proofs.ReadyOrders.{at_split, distinct, here, later, twice}
use Rattle.jj_dag.proofs.Relabelled.{Contains-map, Contains-unmap, split_map}

-- ---- tests, and calls

-- from a property of each call to one that follows
pub AlwaysReturns-weaker : {F X R : Type 0} (g : Mut F X R) (P Q : X → R → Type 0) (f : F) → ((a : X) (r : R) → P a r → Q a r) → AlwaysReturns g P f → AlwaysReturns g Q f
AlwaysReturns-weaker {F} {X} {R} g P Q f h k = record { at = λ xs. each xs f (k.at xs) }
  where
    each : (xs : List X) (s : F) → ReturnsEach g P s xs → ReturnsEach g Q s xs
    each [] s p = tt
    each (a ∷ xs) s p = λ r t c. (h a r (p r t c).0, each xs t (p r t c).1)

-- ---- graphs

-- The nodes have the numbers of `to`, and `back` is its inverse. A value that is no node has a
-- number that no node has.
module _ {T ID : Type 0} (w : GraphModel T ID) (to back : ℕ → ℕ) (unused : ℕ) where
  abbrev pub number_of : ℕ → ℕ
  number_of n = cond (w.is_node n) (to n) unused

  abbrev pub renumbered : GraphModel T ID
  renumbered = record {
    graph = λ b. map to (w.graph (back b));
    is_node = λ b. w.is_node (back b) && (to (back b) == b);
    node = λ x. number_of (w.node x);
    id = λ i. number_of (w.id i);
  }

  module _ (undo : (n : ℕ) → w.is_node n ≡ true → back (to n) ≡ n) (free : (n : ℕ) → w.is_node n ≡ true → to n ≢ unused)
      (closed : (a : ℕ) → w.is_node a ≡ true → AreNodes w (w.graph a)) where
    pub number_is : (n : ℕ) → w.is_node n ≡ true → number_of n ≡ to n
    number_is n is = ap (λ b. cond b (to n) unused) is

    pub is_renumbered : (n : ℕ) → w.is_node n ≡ true → renumbered.is_node (to n) ≡ true
    is_renumbered n is =
        let e = undo n is in
        and_from _ _ (ap w.is_node e ∙ is) ((Decides-eqb (to (back (to n))) (to n)).1 (ap to e))

    pub is_node_of : (n : ℕ) → renumbered.is_node (number_of n) ≡ true → w.is_node n ≡ true
    is_node_of n is =
        let P : Bool → Type 0 = λ b. w.is_node n ≡ b → b ≡ true in
        elim (w.is_node n) as P [
          | true ↦ λ e. refl
          | false ↦ λ e.
              let out : number_of n ≡ unused = ap (λ b. cond b (to n) unused) e in
              let at : renumbered.is_node unused ≡ true = subst (λ (m : ℕ). renumbered.is_node m ≡ true) out is in
              let k = and_parts (w.is_node (back unused)) (to (back unused) == unused) at in
              absurd (free (back unused) k.0 ((Decides-eqb (to (back unused)) unused).0 k.1))
        ] refl

    pub one_to_one : (a b : ℕ) → w.is_node a ≡ true → w.is_node b ≡ true → to a ≡ to b → a ≡ b
    one_to_one a b is_a is_b e = sym (undo a is_a) ∙ ap back e ∙ undo b is_b

    pub renumbered_closed : (a : ℕ) → renumbered.is_node a ≡ true → AreNodes renumbered (renumbered.graph a)
    renumbered_closed a is b h =
        let k = and_parts (w.is_node (back a)) (to (back a) == a) is in
        let m = Contains-unmap to (w.graph (back a)) b h in
        subst (λ (n : ℕ). renumbered.is_node n ≡ true) m.2 (is_renumbered m.0 (closed (back a) k.0 m.0 m.1))

    pub numbers_are : (ns : List ℕ) → AreNodes w ns → map number_of ns ≡ map to ns
    numbers_are [] nodes = refl
    numbers_are (n ∷ ns) nodes =
        ap (λ m. m ∷ map number_of ns) (number_is n (nodes n (here n ns))) ∙ ap (λ l. to n ∷ l) (numbers_are ns (λ a h. nodes a (later n ns a h)))

    pub renumbered_nodes : (ns : List ℕ) → AreNodes w ns → AreNodes renumbered (map to ns)
    renumbered_nodes ns nodes b h =
        let m = Contains-unmap to ns b h in
        subst (λ (n : ℕ). renumbered.is_node n ≡ true) m.2 (is_renumbered m.0 (nodes m.0 m.1))

    -- ---- the graph of the closures

    -- ---- orders

    edge_up : (a b : ℕ) → w.is_node a ≡ true → HasEdge w.graph a b → HasEdge renumbered.graph (to a) (to b)
    edge_up a b is h = subst (λ (n : ℕ). Contains (map to (w.graph n)) (to b)) (sym (undo a is)) (Contains-map to (w.graph a) b h)

    path_up : (n a b : ℕ) → w.is_node a ≡ true → IsWalkOfLength w.graph a b n → IsWalkOfLength renumbered.graph (to a) (to b) n
    path_up zero a b is p = ap to p
    path_up (suc n) a b is (c, edge, p) = (to c, edge_up a c is edge, path_up n c b (closed a is c edge) p)

    path_down : (n a c : ℕ) → w.is_node a ≡ true → IsWalkOfLength renumbered.graph (to a) c n → (b : ℕ) × (to b ≡ c) × IsWalkOfLength w.graph a b n
    path_down zero a c is p = (a, p, refl)
    path_down (suc n) a c is (d, edge, p) =
        let m = Contains-unmap to (w.graph (back (to a))) d edge in
        let there : HasEdge w.graph a m.0 = subst (λ (l : ℕ). Contains (w.graph l) m.0) (undo a is) m.1 in
        let q = path_down n m.0 c (closed a is m.0 there) (subst (λ (l : ℕ). IsWalkOfLength renumbered.graph l c n) (sym m.2) p) in
        (q.0, q.1, (m.0, there, q.2))

    -- a child-first list is child-first under the other numbers
    pub renumbered_child_first : (starts order : List ℕ) → AreNodes w starts → IsTopologicalOrder w.graph starts order → IsTopologicalOrder renumbered.graph (map to starts) (map to order)
    renumbered_child_first starts order nodes k = record {
      all = λ a. (
        λ h.
            let m = Contains-unmap to order a h in
            let r = (k.all m.0).0 m.1 in
            subst (λ (n : ℕ). ReachedFrom renumbered.graph (map to starts) n) m.2 (to r.0, Contains-map to starts r.0 r.1, (r.2.0, path_up r.2.0 r.0 m.0 (nodes r.0 r.1) r.2.1)),
        λ r.
            let s = Contains-unmap to starts r.0 r.1 in
            let q = path_down r.2.0 s.0 a (nodes s.0 s.1) (subst (λ (n : ℕ). IsWalkOfLength renumbered.graph n a r.2.0) (sym s.2) r.2.1) in
            subst (λ (n : ℕ). Contains (map to order) n) q.1 (Contains-map to order q.0 ((k.all q.0).1 (s.0, s.1, (r.2.0, q.2)))),
      );
      once = distinct (map to order) (λ front back a e h.
          let s = split_map to order front back a e in
          let m = Contains-unmap to s.0 a (subst (λ (l : List ℕ). Contains l a) (sym s.4) h) in
          let same : m.0 ≡ s.1 = one_to_one m.0 s.1 (order_node m.0 (front_in s.0 s.1 s.2 s.3 m.0 m.1)) (order_node s.1 (subst (λ (l : List ℕ). Contains l s.1) (sym s.3) (at_split s.0 s.1 s.2))) (m.2 ∙ sym s.5) in
          again s.0 s.1 s.2 s.3 (subst (λ (n : ℕ). Contains s.0 n) same m.1));
      before = λ a b h r.
          let m = Contains-unmap to order a h in
          let q = path_down (suc r.0) m.0 b (order_node m.0 m.1) (subst (λ (n : ℕ). IsWalkOfLength renumbered.graph n b (suc r.0)) (sym m.2) r.1) in
          let s = k.before m.0 q.0 m.1 (r.0, q.2) in
          let split : map to order ≡ map to s.0 ++ to m.0 ∷ map to s.1 = ap (map to) s.2 ∙ map-append to s.0 (m.0 ∷ s.1) in
          subst (λ (n : ℕ). Precedes (map to order) n b) m.2 (subst (λ (n : ℕ). Precedes (map to order) (to m.0) n) q.1 (map to s.0, map to s.1, split, Contains-map to s.1 q.0 s.3));
    }
      where
        order_node : (a : ℕ) → Contains order a → w.is_node a ≡ true
        order_node a h = are_nodes {E = ℕ} w (λ n. []) starts closed nodes a ((k.all a).0 h)

        front_in : (front : List ℕ) (a : ℕ) (back : List ℕ) → order ≡ front ++ a ∷ back → (b : ℕ) → Contains front b → Contains order b
        front_in front a back e b h = subst (λ (l : List ℕ). Contains l b) (sym e) (Contains-append_left front (a ∷ back) b h)

        again : (front : List ℕ) (a : ℕ) (back : List ℕ) → order ≡ front ++ a ∷ back → Contains front a → ⊥
        again front a back e h =
            let s = Contains-split front a h in
            twice order s.0 (s.1 ++ a ∷ back) a k.once (e ∙ ap (λ l. l ++ a ∷ back) s.2 ∙ append_assoc s.0 (a ∷ s.1) (a ∷ back)) (at_split s.1 a back)

    -- where a list that is greatest under the other numbers first differs from another child-first
    -- list, it has the node with the greater number
    pub greater_there : (starts order other front highs lows : List ℕ) (a b : ℕ) → AreNodes w starts → IsGreatestTopologicalOrder renumbered.graph (map to starts) (map to order)
        → IsTopologicalOrder w.graph starts order → IsTopologicalOrder w.graph starts other → order ≡ front ++ a ∷ highs → other ≡ front ++ b ∷ lows → a ≢ b → to b < to a
    greater_there starts order other front highs lows a b nodes best k l e f ne =
        best.greatest (map to other) (renumbered_child_first starts other nodes l) (map to front) (map to highs) (map to lows) (to a) (to b)
        (ap (map to) e ∙ map-append to front (a ∷ highs)) (ap (map to) f ∙ map-append to front (b ∷ lows))
        (λ same. ne (one_to_one a b
        (are_nodes {E = ℕ} w (λ n. []) starts closed nodes a ((k.all a).0 (subst (λ (m : List ℕ). Contains m a) (sym e) (at_split front a highs))))
        (are_nodes {E = ℕ} w (λ n. []) starts closed nodes b ((l.all b).0 (subst (λ (m : List ℕ). Contains m b) (sym f) (at_split front b lows)))) same))
