-- The reverse of the graph of a list of commits has their children.
use Rattle.std.proofs.Common.{◌≡◌, ℕ, Bool, true, false, cond, List, [], ◌∷◌, ◌++◌, length, map, reverse, Result, Ok, eqb, refl, sym, ◌∙◌, ap, subst, arith, ⊎_elim}
use Rattle.std.specs.Bool.{one_answer}
use Rattle.std.specs.Global.{Global}
use Rattle.std.specs.Iterator.{Drains}
use Rattle.std.specs.Vec.Iter.{into_iter_items, into_iter_len, into_iter_steps}
use Rattle.std.specs.declared.vec.IntoIter.{IntoIter}
use Rattle.std.proofs.lemmas.Iterator.Adapters.{YieldsList-from_vec}
use Rattle.jj_dag.proofs.Walking.{drained_are}
use Rattle.std.specs.List.{AllByRecursion, AllZip, Contains, IsDistinct, filter, list_any}
use Rattle.std.specs.declared.vec.Vec.{Vec}
use Rattle.std.proofs.lemmas.Bool.Decides.{Decides-eqb}
use Rattle.std.proofs.lemmas.List.{reverse-append, map-append, map-id}
use Rattle.std.proofs.lemmas.List.Elements.{Contains-append_left, Contains-append_right}
use Rattle.std.proofs.lemmas.Map.Keys.{IsDistinct-head, IsDistinct-tail}
use denote.Ref.{Bor}
use Rattle.jj_walks.specs.declared.graph.GraphEdge.{GraphEdge}
use Rattle.jj_walks.specs.Reversed.{LeadsToId, HasEdgesById, EdgeLists, edge_to, incoming_edges, reversed_graph, edge_lists, reversed_edges, with_incoming}
use Rattle.jj_walks.proofs.Expanding.{at_first, first_or_rest, in_map, in_rest}
use Rattle.jj_walks.proofs.GroupedOrders.{append-cases}
use Rattle.jj_walks_tests.specs.declared.commits.Commit.{Commit}
use Rattle.jj_walks_tests.specs.Branches.{ImplementsCommits, parent_edge, parent_edges}
use Rattle.jj_walks_tests.specs.Children.{HaveChildren}
use Rattle.jj_walks_tests.specs.Commits.{ids_of}

abbrev pub Shown : Type 0
Shown = Bor Commit × Vec (GraphEdge ℕ) Global

abbrev pub id_of : Bor Commit → ℕ
id_of c = c.now.id

-- ---- lists

from_map : {X Y : Type 0} (f : X → Y) (xs : List X) (y : Y) → Contains (map f xs) y → (x : X) × Contains xs x × (f x ≡ y)
from_map f [] y h = absurd (omega (arith, h.1))
from_map f (x ∷ xs) y h =
    ⊎_elim (λ here. (x, at_first x xs, here)) (λ there. let q = from_map f xs y there in (q.0, in_rest x xs q.0 q.1, q.2)) (first_or_rest (f x) (map f xs) y h)

back_in : {X : Type 0} (xs : List X) (x : X) → Contains (reverse xs) x → Contains xs x
back_in [] x h = h
back_in {X} (y ∷ xs) x h =
    ⊎_elim (λ late. in_rest y xs x (back_in xs x late)) (λ one. ⊎_elim (λ same. subst (λ z. Contains (y ∷ xs) z) same (at_first y xs)) (λ none. absurd (omega (arith, none.1))) (first_or_rest y [] x one))
    (append-cases (reverse xs) (y ∷ []) x (subst (λ (l : List X). Contains l x) (reverse-append (y ∷ []) xs) h))

map_back : {X Y : Type 0} (f : X → Y) (xs : List X) → map f (reverse xs) ≡ reverse (map f xs)
map_back f [] = refl
map_back f (x ∷ xs) =
    ap (map f) (reverse-append (x ∷ []) xs) ∙ map-append f (reverse xs) (x ∷ []) ∙ ap (λ l. l ++ f x ∷ []) (map_back f xs) ∙ sym (reverse-append (f x ∷ []) (map f xs))

zip_back : {X Y : Type 0} (R : X → Y → Type 0) (xs : List X) (ys : List Y) → AllZip R xs ys → (y : Y) → Contains ys y → (x : X) × Contains xs x × R x y
zip_back R [] [] k y h = absurd (omega (arith, h.1))
zip_back R [] (z ∷ ys) k y h = absurd k
zip_back R (x ∷ xs) [] k y h = absurd k
zip_back R (x ∷ xs) (z ∷ ys) k y h =
    ⊎_elim (λ here. (x, at_first x xs, subst (λ w. R x w) here k.0)) (λ there. let q = zip_back R xs ys k.1 y there in (q.0, in_rest x xs q.0 q.1, q.2)) (first_or_rest z ys y h)

eqb_turned : (a b : ℕ) → eqb a b ≡ eqb b a
eqb_turned a b = one_answer (eqb a b) (eqb b a) (Decides-eqb a b) ((λ h. sym ((Decides-eqb b a).0 h)), (λ e. (Decides-eqb b a).1 (sym e)))

no_later : (n : ℕ) (later : List (Bor Commit)) → AllByRecursion (λ y. eqb n y ≡ false) (map id_of later) → list_any (λ other. eqb (id_of other) n) later ≡ false
no_later n [] h = refl
no_later n (c ∷ later) h = let first : eqb (id_of c) n ≡ false = eqb_turned (id_of c) n ∙ h.0 in rw (first, no_later n later h.1) refl

-- a vector's iterator yields its items
pub listed_items : {X : Type 0} (items : List X) (s : IntoIter X Global) (xs : List X) → into_iter_items s ≡ items → into_iter_len s ≡ length items → Drains into_iter_steps s xs → xs ≡ items
listed_items items s xs same len d =
    sym (map-id xs)
    ∙ drained_are (λ a b. b ≡ a) into_iter_steps s xs (λ y. y) items (λ it b. YieldsList-from_vec {s = it} items (ap into_iter_items b ∙ same) (ap into_iter_len b ∙ len)) (s, refl, d)

-- ---- edges

module _ (commits : List Commit) where
  abbrev pub edges_of : List (Bor Commit) → EdgeLists (Bor Commit) ℕ
  edges_of shown = map {B = Bor Commit × List (GraphEdge ℕ)} (λ c. (c, parent_edges commits c.now)) shown

  pub graph_shown : (shown : List (Bor Commit)) (nodes : List Shown) → ImplementsCommits commits shown (map {B = Result Shown ℕ} (λ n. Ok n) nodes) → edge_lists nodes ≡ edges_of shown
  graph_shown [] [] h = refl
  graph_shown [] (n ∷ nodes) h = absurd h
  graph_shown (c ∷ shown) [] h = absurd h
  graph_shown (c ∷ shown) (n ∷ nodes) h = let rest = graph_shown shown nodes h.1 in let first = h.0 in λ i. (first.0 i, first.1 i) ∷ rest i

  turned_from : (i : ℕ) (c : Bor Commit) (ps : List ℕ) (e : GraphEdge (Bor Commit)) → Contains (reversed_edges eqb i c (map (parent_edge commits) ps)) e → Contains ps i × (e.target ≡ c)
  turned_from i c [] e h = absurd (omega (arith, h.1))
  turned_from i c (p ∷ ps) e h =
      let rest = reversed_edges eqb i c (map (parent_edge commits) ps) in
      let P : Bool → Type 0 = λ b. eqb p i ≡ b → Contains (map (edge_to c) (cond b (parent_edge commits p ∷ filter (λ edge. eqb edge.target i) (map (parent_edge commits) ps)) (filter (λ edge. eqb edge.target i) (map (parent_edge commits) ps)))) e
      → Contains (p ∷ ps) i × (e.target ≡ c) in
      elim (eqb p i) as P [
        | true ↦ λ t at.
            ⊎_elim (λ here. (subst (λ n. Contains (p ∷ ps) n) ((Decides-eqb p i).0 t) (at_first p ps), ap (λ x. x.target) (sym here)))
            (λ there. let q = turned_from i c ps e there in (in_rest p ps i q.0, q.1)) (first_or_rest (edge_to c (parent_edge commits p)) rest e at)
        | false ↦ λ t at. let q = turned_from i c ps e at in (in_rest p ps i q.0, q.1)
      ] refl h

  turned_has : (i : ℕ) (c : Bor Commit) (ps : List ℕ) → Contains ps i → (e : GraphEdge (Bor Commit)) × Contains (reversed_edges eqb i c (map (parent_edge commits) ps)) e × (e.target ≡ c)
  turned_has i c [] h = absurd (omega (arith, h.1))
  turned_has i c (p ∷ ps) h =
      let rest = reversed_edges eqb i c (map (parent_edge commits) ps) in
      let P : Bool → Type 0 = λ b. eqb p i ≡ b → (e : GraphEdge (Bor Commit))
      × Contains (map (edge_to c) (cond b (parent_edge commits p ∷ filter (λ edge. eqb edge.target i) (map (parent_edge commits) ps)) (filter (λ edge. eqb edge.target i) (map (parent_edge commits) ps)))) e
      × (e.target ≡ c) in
      elim (eqb p i) as P [
        | true ↦ λ t. (edge_to c (parent_edge commits p), at_first (edge_to c (parent_edge commits p)) rest, refl)
        | false ↦ λ t.
            turned_has i c ps
            (⊎_elim (λ here. absurd (let s : true ≡ false = sym ((Decides-eqb p i).1 here) ∙ t in cc)) (λ there. there) (first_or_rest p ps i h))
      ] refl

  incoming_from : (i : ℕ) (shown : List (Bor Commit)) (e : GraphEdge (Bor Commit)) → Contains (incoming_edges eqb i (edges_of shown)) e → (c : Bor Commit) × Contains shown c × Contains c.now.parents.items i × (e.target ≡ c)
  incoming_from i [] e h = absurd (omega (arith, h.1))
  incoming_from i (c ∷ shown) e h =
      ⊎_elim (λ own. let q = turned_from i c c.now.parents.items e own in (c, at_first c shown, q.0, q.1))
      (λ later. let q = incoming_from i shown e later in (q.0, in_rest c shown q.0 q.1, q.2, q.3))
      (append-cases (reversed_edges eqb i c (parent_edges commits c.now)) (incoming_edges eqb i (edges_of shown)) e h)

  incoming_has : (i : ℕ) (shown : List (Bor Commit)) (c : Bor Commit) → Contains shown c → Contains c.now.parents.items i → (e : GraphEdge (Bor Commit)) × Contains (incoming_edges eqb i (edges_of shown)) e × (e.target ≡ c)
  incoming_has i [] c at parent = absurd (omega (arith, at.1))
  incoming_has i (d ∷ shown) c at parent =
      let own = reversed_edges eqb i d (parent_edges commits d.now) in
      let later = incoming_edges eqb i (edges_of shown) in
      ⊎_elim (λ here.
      let q = turned_has i d d.now.parents.items (subst (λ (x : Bor Commit). Contains x.now.parents.items i) (sym here) parent) in
      (q.0, Contains-append_left own later q.0 q.1, q.2 ∙ here))
      (λ there. let q = incoming_has i shown c there parent in (q.0, Contains-append_right own later q.0 q.1, q.2)) (first_or_rest d shown c at)

-- ---- nodes

module _ (graph : EdgeLists (Bor Commit) ℕ) where
  abbrev Node : Type 0
  Node = Bor Commit × List (GraphEdge (Bor Commit))

  own_edges : (ns : List (Bor Commit)) → IsDistinct eqb (map id_of ns) → (expected : Node) → Contains (with_incoming eqb id_of graph ns) expected → expected.1 ≡ incoming_edges eqb expected.0.now.id graph
  own_edges [] once expected h = absurd (omega (arith, h.1))
  own_edges (c ∷ ns) once expected h =
      ⊎_elim (λ here.
      let all : cond (list_any (λ other. eqb (id_of other) (id_of c)) ns) [] (incoming_edges eqb (id_of c) graph) ≡ incoming_edges eqb (id_of c) graph =
      ap (λ b. cond b [] (incoming_edges eqb (id_of c) graph)) (no_later (id_of c) ns (IsDistinct-head eqb (id_of c) (map id_of ns) once)) in
      subst (λ (w : Node). w.1 ≡ incoming_edges eqb w.0.now.id graph) here all)
      (λ there. own_edges ns (IsDistinct-tail eqb (id_of c) (map id_of ns) once) expected there)
      (first_or_rest (c, cond (list_any (λ other. eqb (id_of other) (id_of c)) ns) [] (incoming_edges eqb (id_of c) graph)) (with_incoming eqb id_of graph ns) expected h)

  all_nodes : (ns : List (Bor Commit)) → map (λ (expected : Node). expected.0.now) (with_incoming eqb id_of graph ns) ≡ map (λ c. c.now) ns
  all_nodes [] = refl
  all_nodes (c ∷ ns) = ap (λ l. c.now ∷ l) (all_nodes ns)

module _ (clone : ℕ → ℕ → Type 0) (cloned : (a b : ℕ) → clone a b → b ≡ a) where
  abbrev Match : Bor Commit × List (GraphEdge (Bor Commit)) → Bor Commit × List (GraphEdge ℕ) → Type 0
  Match expected actual = (actual.0 ≡ expected.0) × AllZip (LeadsToId clone id_of) expected.1 actual.1

  targets : (edges : List (GraphEdge (Bor Commit))) (returned : List (GraphEdge ℕ)) → AllZip (LeadsToId clone id_of) edges returned → map (λ edge. edge.target) returned ≡ map (λ edge. id_of edge.target) edges
  targets [] [] k = refl
  targets [] (y ∷ returned) k = absurd k
  targets (x ∷ edges) [] k = absurd k
  targets (x ∷ edges) (y ∷ returned) k = let first = cloned (id_of x.target) y.target k.0.0 in let rest = targets edges returned k.1 in λ i. first i ∷ rest i

  same_order : (wants : List (Bor Commit × List (GraphEdge (Bor Commit)))) (nodes : List Shown) → AllZip Match wants (edge_lists nodes) → map (λ node. node.0.now) nodes ≡ map (λ expected. expected.0.now) wants
  same_order [] [] k = refl
  same_order [] (n ∷ nodes) k = absurd k
  same_order (w ∷ wants) [] k = absurd k
  same_order (w ∷ wants) (n ∷ nodes) k = let first = k.0.0 in let rest = same_order wants nodes k.1 in λ i. (first i).now ∷ rest i

  module _ (commits : List Commit) (once : IsDistinct eqb (ids_of commits)) (shown : List (Bor Commit)) (same : map (λ c. c.now) shown ≡ commits) where
    shown_nodes : (cs : List (Bor Commit)) → map (λ entry. entry.0) (edges_of commits cs) ≡ cs
    shown_nodes [] = refl
    shown_nodes (c ∷ cs) = ap (λ l. c ∷ l) (shown_nodes cs)

    shown_ids : (cs : List (Bor Commit)) → map id_of cs ≡ ids_of (map (λ c. c.now) cs)
    shown_ids [] = refl
    shown_ids (c ∷ cs) = ap (λ l. id_of c ∷ l) (shown_ids cs)

    pub have_children : (nodes : List Shown) → HasEdgesById clone id_of (reversed_graph eqb id_of (edges_of commits shown)) (edge_lists nodes) → HaveChildren commits nodes
    have_children nodes shows =
        let graph = edges_of commits shown in
        let wants = with_incoming eqb id_of graph shown in
        let k : AllZip Match (reverse wants) (edge_lists nodes) = subst (λ (l : List (Bor Commit)). HasEdgesById clone id_of (reverse (with_incoming eqb id_of graph l)) (edge_lists nodes)) (shown_nodes shown) shows in
        let distinct : IsDistinct eqb (map id_of shown) = subst (λ (l : List ℕ). IsDistinct eqb l) (ap ids_of (sym same) ∙ sym (shown_ids shown)) once in
        record {
          order = same_order (reverse wants) nodes k ∙ map_back (λ expected. expected.0.now) wants ∙ ap reverse (all_nodes graph shown ∙ same);
          children = λ node at id.
              let actual = zip_back Match (reverse wants) (edge_lists nodes) k (node.0, node.1.items) (in_map {Y = Bor Commit × List (GraphEdge ℕ)} (λ entry. (entry.0, entry.1.items)) nodes node at) in
              let edges : actual.0.1 ≡ incoming_edges eqb node.0.now.id graph = own_edges graph shown distinct actual.0 (back_in wants actual.0 actual.1) ∙ ap (λ c. incoming_edges eqb c.now.id graph) (sym actual.2.0) in
              let listed : map (λ edge. edge.target) node.1.items ≡ map (λ edge. id_of edge.target) (incoming_edges eqb node.0.now.id graph) =
              targets actual.0.1 node.1.items actual.2.1 ∙ ap (map (λ edge. id_of edge.target)) edges in (
                λ h.
                    let e = from_map (λ edge. id_of edge.target) (incoming_edges eqb node.0.now.id graph) id (subst (λ (l : List ℕ). Contains l id) listed h) in
                    let c = incoming_from commits node.0.now.id shown e.0 e.1 in
                    (c.0.now, subst (λ (l : List Commit). Contains l c.0.now) same (in_map (λ x. x.now) shown c.0 c.1), ap id_of (sym c.3) ∙ e.2, c.2),
                λ (child, within, named, parent).
                    let c = from_map (λ x. x.now) shown child (subst (λ (l : List Commit). Contains l child) (sym same) within) in
                    let e = incoming_has commits node.0.now.id shown c.0 c.1 (subst (λ (x : Commit). Contains x.parents.items node.0.now.id) (sym c.2) parent) in
                    let is : id_of e.0.target ≡ id = ap id_of e.2 ∙ ap (λ x. x.id) c.2 ∙ named in
                    subst (λ (l : List ℕ). Contains l id) (sym listed) (subst (λ (n : ℕ). Contains (map (λ edge. id_of edge.target) (incoming_edges eqb node.0.now.id graph)) n) is (in_map (λ edge. id_of edge.target) (incoming_edges eqb node.0.now.id graph) e.0 e.1)),
              );
        }
