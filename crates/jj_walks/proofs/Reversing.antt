-- The lists of incoming edges by id, while a graph is reversed.
use Rattle.std.proofs.Common.{◌≡◌, Bool, true, false, cond, ◌||◌, List, [], ◌∷◌, ◌++◌, map, reverse, refl, sym, ◌∙◌, ap, subst, append-nil, append_assoc}
use Rattle.std.proofs.lemmas.List.{map-append, reverse-append}
use Rattle.std.proofs.lemmas.List.Elements.{filter-append}
use Rattle.std.specs.List.{AllZip, list_any}
use Rattle.std.specs.Global.{Global}
use Rattle.std.specs.declared.vec.Vec.{Vec}
use Rattle.jj_walks.specs.declared.graph.GraphEdge.{GraphEdge}
use Rattle.jj_walks.specs.Reversed.{EdgeLists, edge_lists, edge_to, reversed_edges, incoming_edges, with_incoming, reversed_graph, LeadsToId, HasEdgesById}

AllZip-append : {A B : Type 0} (R : A → B → Type 0) (xs more : List A) (ys last : List B) → AllZip R xs ys → AllZip R more last → AllZip R (xs ++ more) (ys ++ last)
AllZip-append R [] more [] last k h = h
AllZip-append R [] more (y ∷ ys) last k h = absurd k
AllZip-append R (x ∷ xs) more [] last k h = absurd k
AllZip-append R (x ∷ xs) more (y ∷ ys) last k h = (k.0, AllZip-append R xs more ys last k.1 h)

module _ {N ID : Type 0} (eq : ID → ID → Bool) where
  turned_edges-push : (q : ID) (node : N) (edges : List (GraphEdge ID)) (edge : GraphEdge ID)
      → reversed_edges eq q node (edges ++ edge ∷ []) ≡ reversed_edges eq q node edges ++ cond (eq edge.target q) (edge_to node edge ∷ []) []
  turned_edges-push q node edges edge =
      ap (map (edge_to node)) (filter-append (λ e. eq e.target q) edges (edge ∷ [])) ∙ map-append (edge_to node) _ _ ∙ ap (λ l. reversed_edges eq q node edges ++ l) (one (eq edge.target q))
    where
      one : (b : Bool) → map (edge_to node) (cond b (edge ∷ []) []) ≡ cond b (edge_to node edge ∷ []) []
      one true = refl
      one false = refl

  incoming_edges-push : (q : ID) (graph : EdgeLists N ID) (node : N) (edges : List (GraphEdge ID))
      → incoming_edges eq q (graph ++ (node, edges) ∷ []) ≡ incoming_edges eq q graph ++ reversed_edges eq q node edges
  incoming_edges-push q [] node edges = append-nil (reversed_edges eq q node edges)
  incoming_edges-push q (entry ∷ graph) node edges =
      ap (λ l. reversed_edges eq q entry.0 entry.1 ++ l) (incoming_edges-push q graph node edges)
      ∙ sym (append_assoc (reversed_edges eq q entry.0 entry.1) (incoming_edges eq q graph) (reversed_edges eq q node edges))

  module _ (clone : ID → ID → Type 0) (id : N → ID) where
    abbrev Leads : List (GraphEdge N) → List (GraphEdge ID) → Type 0
    Leads edges returned = AllZip (LeadsToId clone id) edges returned

    -- one more edge of a node is reversed
    pub leads_turned : (before : List (GraphEdge N)) (edges : List (GraphEdge ID)) (edge : GraphEdge ID) (node : N) (source q : ID) (old new : List (GraphEdge ID)) → clone (id node) source
        → new ≡ cond (eq edge.target q) (old ++ record { target = source; edge_type = edge.edge_type } ∷ []) old
        → Leads (before ++ reversed_edges eq q node edges) old → Leads (before ++ reversed_edges eq q node (edges ++ edge ∷ [])) new
    leads_turned before edges edge node source q old new copy puts k =
        subst (λ (l : List (GraphEdge N)). Leads (before ++ l) new) (sym (turned_edges-push q node edges edge))
        (subst (λ (l : List (GraphEdge ID)). Leads (before ++ (reversed_edges eq q node edges ++ cond (eq edge.target q) (edge_to node edge ∷ []) [])) l) (sym puts) (step (eq edge.target q)))
      where
        step : (b : Bool) → Leads (before ++ (reversed_edges eq q node edges ++ cond b (edge_to node edge ∷ []) [])) (cond b (old ++ record { target = source; edge_type = edge.edge_type } ∷ []) old)
        step true = subst (λ (l : List (GraphEdge N)). Leads l (old ++ record { target = source; edge_type = edge.edge_type } ∷ [])) (append_assoc before (reversed_edges eq q node edges) (edge_to node edge ∷ []))
            (AllZip-append (LeadsToId clone id) (before ++ reversed_edges eq q node edges) (edge_to node edge ∷ []) old (record { target = source; edge_type = edge.edge_type } ∷ []) k ((copy, refl), tt))
        step false = subst (λ (l : List (GraphEdge N)). Leads (before ++ l) old) (sym (append-nil (reversed_edges eq q node edges))) k

    pub leads_nothing : (before : List (GraphEdge N)) (returned : List (GraphEdge ID)) → Leads before returned → Leads (before ++ []) returned
    leads_nothing before returned k = subst (λ (l : List (GraphEdge N)). Leads l returned) (sym (append-nil before)) k

    -- all edges of a node are reversed
    pub leads_entered : (nodes : List (N × Vec (GraphEdge ID) Global)) (entry : N × Vec (GraphEdge ID) Global) (edges returned : List (GraphEdge ID)) (q : ID) → edges ≡ entry.1.items
        → Leads (incoming_edges eq q (edge_lists nodes) ++ reversed_edges eq q entry.0 edges) returned → Leads (incoming_edges eq q (edge_lists (nodes ++ entry ∷ []))) returned
    leads_entered nodes entry edges returned q same k =
        subst (λ (l : List (GraphEdge N)). Leads l returned) (
        ap (λ l. incoming_edges eq q (edge_lists nodes) ++ reversed_edges eq q entry.0 l) same ∙ sym (incoming_edges-push q (edge_lists nodes) entry.0 entry.1.items)
        ∙ ap (incoming_edges eq q) (sym (map-append {B = N × List (GraphEdge ID)} (λ e. (e.0, e.1.items)) nodes (entry ∷ [])))
        ) k

    -- the edges of one more id were removed
    pub leads_left : (node : N) (later : List N) (edges : List (GraphEdge N)) (i q : ID) (old new : List (GraphEdge ID)) → i ≡ id node → new ≡ cond (eq i q) [] old
        → Leads (cond (list_any (λ other. eq (id other) q) later) [] edges) old → Leads (cond (list_any (λ other. eq (id other) q) (node ∷ later)) [] edges) new
    leads_left node later edges i q old new same takes k =
        subst (λ (l : List (GraphEdge ID)). Leads (cond (eq (id node) q || list_any (λ other. eq (id other) q) later) [] edges) l) (sym (takes ∙ ap (λ j. cond (eq j q) [] old) same))
        (step (eq (id node) q) (list_any (λ other. eq (id other) q) later) k)
      where
        step : (b c : Bool) → Leads (cond c [] edges) old → Leads (cond (b || c) [] edges) (cond b [] old)
        step true c h = tt
        step false c h = h

    -- one more node was emitted
    pub shows_more : (graph : EdgeLists N ID) (later : List N) (node : N) (edges : Vec (GraphEdge ID) Global) (done more : List (N × Vec (GraphEdge ID) Global)) → more ≡ done ++ (node, edges) ∷ []
        → Leads (cond (list_any (λ other. eq (id other) (id node)) later) [] (incoming_edges eq (id node) graph)) edges.items
        → HasEdgesById clone id (reverse (with_incoming eq id graph later)) (edge_lists done) → HasEdgesById clone id (reverse (with_incoming eq id graph (node ∷ later))) (edge_lists more)
    shows_more graph later node edges done more pushed leads k =
        subst (λ (l : EdgeLists N N). HasEdgesById clone id l (edge_lists more))
        (sym (reverse-append ((node, cond (list_any (λ other. eq (id other) (id node)) later) [] (incoming_edges eq (id node) graph)) ∷ []) (with_incoming eq id graph later)))
        (subst (λ (l : EdgeLists N ID). HasEdgesById clone id (reverse (with_incoming eq id graph later) ++ (node, cond (list_any (λ other. eq (id other) (id node)) later) [] (incoming_edges eq (id node) graph)) ∷ []) l)
        (sym (ap edge_lists pushed ∙ map-append {B = N × List (GraphEdge ID)} (λ e. (e.0, e.1.items)) done ((node, edges) ∷ [])))
        (AllZip-append (λ expected actual. (actual.0 ≡ expected.0) × AllZip (LeadsToId clone id) expected.1 actual.1) (reverse (with_incoming eq id graph later)) _ (edge_lists done) _ k ((refl, leads), tt)))

    -- all nodes were emitted
    pub shows_all : (nodes : List (N × Vec (GraphEdge ID) Global)) (rest later : List N) (returned : EdgeLists N ID) → map (λ x. x.0) nodes ≡ rest ++ later → rest ≡ []
        → HasEdgesById clone id (reverse (with_incoming eq id (edge_lists nodes) later)) returned → HasEdgesById clone id (reversed_graph eq id (edge_lists nodes)) returned
    shows_all nodes rest later returned all none k =
        subst (λ (l : List N). HasEdgesById clone id (reverse (with_incoming eq id (edge_lists nodes) l)) returned) (sym (nodes_of nodes ∙ all ∙ ap (λ l. l ++ later) none)) k
      where
        nodes_of : (ns : List (N × Vec (GraphEdge ID) Global)) → map (λ entry. entry.0) (edge_lists ns) ≡ map (λ x. x.0) ns
        nodes_of [] = refl
        nodes_of (n ∷ ns) = ap (λ l. n.0 ∷ l) (nodes_of ns)
