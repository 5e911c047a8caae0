-- Depth-first searches whose `neighbors_fn` lists the same items of a node at each call.
use Rattle.std.proofs.Common.{◌≡◌, ◌⊎◌, inl, inr, ℕ, ◌==◌, Bool, true, Result, Ok, Err, List, [], map, reverse, sym, ◌∙◌, ap, subst, ⊎_elim, eqb}
use Rattle.std.specs.Prelude.{◌↔◌}
use Rattle.std.specs.Fn.{Shared, Mut, AlwaysReturns}
use Rattle.std.specs.List.{Contains, IsDistinct}
use Rattle.std.specs.declared.alloc.AllocError.{AllocError}
use denote.Ref.{Bor}
use Rattle.jj_dag.specs.ClosureGraph.{ReturnsId}
use Rattle.jj_dag.specs.FallibleGraphs.{FallibleGraph, FalliblePreorder, ok_items, ok_graph}
use Rattle.jj_dag.specs.Graph.{HasEdge, ReachedFrom}
use Rattle.jj_dag.specs.Walk.{AreNodes, GraphModel}
use Rattle.jj_dag.proofs.FailingWalks.{Contains-from_ok_items, Contains-ok_items}
use Rattle.jj_dag.proofs.Plain.{nothing}
use Rattle.jj_dag.proofs.Reaching.{Contains-reached}
use Rattle.jj_dag.proofs.Renumbered.{AlwaysReturns-weaker}
use Rattle.jj_walks.specs.Expansions.{ImplementsItems, IsRun, item_of}
use Rattle.jj_walks.proofs.DfsOkRuns.{error_back, yielded_once, node_of, preorder_of_items, reached, ok_numbers, start_errors_given}
use Rattle.jj_walks.proofs.Expanding.{in_map, in_reverse}
use Rattle.jj_walks.proofs.Preorders.{FalliblePreorder-closed, FalliblePreorder-error, FalliblePreorder-gives, from_reverse}

module _ {T ID E F N R : Type 0} (eq : ID → ID → Bool) (ids : Shared F (Bor T × Unit {0}) (Result ID AllocError)) (lists : Mut N (Bor T × Unit {0}) R) (yields : R → List (Result T E) → Type 0) (id_fn : F) (neighbors_fn : N)
    (g : GraphModel T ID) (items : FallibleGraph E) where
  -- The items of each node, by numbers, are those of a graph, and the nodes among them are the
  -- node's neighbors.
  pub record ListsItems : Type 0 where
    pub closed : (a : ℕ) → g.is_node a ≡ true → AreNodes g (g.graph a)
    pub apart : (i j : ID) → g.is_node (g.id i) ≡ true → g.is_node (g.id j) ≡ true → eq i j ≡ (g.id i == g.id j)
    pub ids_match : (x : T) (i : ID) → g.is_node (g.node x) ≡ true → ReturnsId ids id_fn x i → g.id i ≡ g.node x
    pub same_nodes : (a : ℕ) → g.is_node a ≡ true → ok_graph items a ≡ g.graph a
    pub listed : AlwaysReturns lists (λ a r. (xs : List (Result T E)) → g.is_node (g.node a.0.now) ≡ true → yields r xs → map (item_of g.node) xs ≡ items (g.node a.0.now)) neighbors_fn

  module _ (k : ListsItems) where
    pub implements_items : ImplementsItems g eq ids lists yields id_fn neighbors_fn
    implements_items = record {
      complete = record {
        closed = k.closed;
        apart = k.apart;
        ids_match = k.ids_match;
        neighbors = AlwaysReturns-weaker lists _ _ neighbors_fn (λ a r listed xs is d.
            sym (ok_numbers E g.node xs) ∙ ap ok_items (listed (map (λ x. Ok x) xs) is d) ∙ k.same_nodes (g.node a.0.now) is) k.listed;
      };
      partial = AlwaysReturns-weaker lists _ _ neighbors_fn (λ a r listed xs x is d at.
          subst (λ (l : List ℕ). Contains l (g.node x)) (ap ok_items (listed xs is d) ∙ k.same_nodes (g.node a.0.now) is)
          (Contains-ok_items (map (item_of g.node) xs) (g.node x) (in_map (item_of g.node) xs (Ok x) at))) k.listed;
    }

    module _ (starts yielded : List (Result T E)) (start_nodes : AreNodes g (ok_items (map (item_of g.node) starts))) (run : IsRun eq ids lists yields id_fn neighbors_fn starts yielded) where
      abbrev numbers : List (Result T E) → List (Result ℕ E)
      numbers xs = map (item_of g.node) xs

      abbrev pub nodes_of : List (Result T E) → List ℕ
      nodes_of xs = ok_items (map (item_of g.node) xs)

      order : FalliblePreorder items (reverse (numbers starts)) [] (numbers yielded)
      order = preorder_of_items eq ids lists yields id_fn neighbors_fn starts yielded run g implements_items start_nodes items k.listed

      is_reached : (a : ℕ) → Contains (nodes_of yielded) a → ReachedFrom g.graph (nodes_of starts) a
      is_reached a h = reached eq ids lists yields id_fn neighbors_fn starts yielded run g implements_items start_nodes a h

      own_items : (a : ℕ) → Contains (numbers yielded) (Ok a) → (y : Result ℕ E) → Contains (items a) y → Contains (numbers yielded) y
      own_items a h = ⊎_elim (λ none. absurd (nothing (Ok a) none)) (λ all. all) (FalliblePreorder-closed items (reverse (numbers starts)) [] (numbers yielded) order a h)

      all_starts : (y : Result ℕ E) → Contains (numbers starts) y → Contains (numbers yielded) y
      all_starts y h = FalliblePreorder-gives items (reverse (numbers starts)) [] (numbers yielded) order y (in_reverse (numbers starts) y h)

      edge_given : (a b : ℕ) → Contains (nodes_of yielded) a → HasEdge g.graph a b → Contains (nodes_of yielded) b
      edge_given a b h edge =
          let is = node_of eq ids lists yields id_fn neighbors_fn starts yielded run g implements_items start_nodes a h in
          let item = Contains-from_ok_items (items a) b (subst (λ (l : List ℕ). Contains l b) (sym (k.same_nodes a is)) edge) in
          Contains-ok_items (numbers yielded) b (own_items a (Contains-from_ok_items (numbers yielded) a h) (Ok b) item)

      -- the nodes yielded are exactly those that the starts reach
      pub nodes_exactly : (a : ℕ) → Contains (nodes_of yielded) a ↔ ReachedFrom g.graph (nodes_of starts) a
      nodes_exactly a = (
        is_reached a,
        λ (b, at, (n, path)). Contains-reached g.graph (nodes_of yielded) edge_given n b a (Contains-ok_items (numbers yielded) b (all_starts (Ok b) (Contains-from_ok_items (numbers starts) b at))) path,
      )

      -- each once
      pub nodes_once : IsDistinct eqb (nodes_of yielded)
      nodes_once = yielded_once eq ids lists yields id_fn neighbors_fn starts yielded run g implements_items start_nodes

      -- and the errors are exactly those among the starts, and among the items of these nodes
      pub errors_exactly : (e : E) → Contains yielded (Err e) ↔ (Contains starts (Err e) ⊎ ((a : ℕ) × ReachedFrom g.graph (nodes_of starts) a × Contains (items a) (Err e)))
      errors_exactly e = (
        λ h. ⊎_elim (λ none. absurd (nothing (Err e) none))
            (⊎_elim (λ start. inl (error_back g.node starts e (from_reverse (numbers starts) (Err e) start))) (λ (a, at, listed). inr (a, is_reached a (Contains-ok_items (numbers yielded) a at), listed)))
            (FalliblePreorder-error items (reverse (numbers starts)) [] (numbers yielded) order e (in_map (item_of g.node) yielded (Err e) h)),
        ⊎_elim (λ start. start_errors_given eq ids lists yields id_fn neighbors_fn starts yielded run g implements_items start_nodes e start)
            (λ (a, r, listed). error_back g.node yielded e (own_items a (Contains-from_ok_items (numbers yielded) a ((nodes_exactly a).1 r)) (Err e) listed)),
      )
