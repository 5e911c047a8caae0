-- Closures that list parents as items implement the graph of the commits.
use Rattle.std.proofs.Common.{◌≡◌, ◌≢◌, ◌==◌, ℕ, Bool, true, List, [], ◌∷◌, ◌++◌, map, refl, sym, ◌∙◌, ap, Result, Ok, Err, eqb, inl, inr, ◌⊎◌}
use Rattle.std.specs.Fn.{Called, Mut, Shared}
use Rattle.std.proofs.lemmas.Fn.{always_returns_same}
use Rattle.std.specs.Iterator.{YieldsFirst, YieldsFirstBy}
use Rattle.std.specs.Bool.{one_answer}
use Rattle.std.proofs.lemmas.Bool.Decides.{Decides-eqb}
use Rattle.std.specs.declared.alloc.AllocError.{AllocError}
use Rattle.std.specs.declared.iter.IntoIterator as into
use Rattle.std.specs.declared.iter.Iterator as iter
use Rattle.std.proofs.lemmas.Iterator.Consumers.{YieldsList-from_first}
use Rattle.std.proofs.lemmas.List.{map-id}
use denote.Ref.{Bor}
use Rattle.jj_dag.specs.ClosureGraph.{ClosureGraph, Implements, InEachModel, IsInputError, IsMadeBesideCycle, IsNeighborsError, Listing, MayReturn, ReturnsId}
use Rattle.jj_dag.specs.Graph.{ReachesCycle}
use Rattle.jj_dag.specs.FallibleGraphs.{FailsAfterNodes}
use Rattle.jj_dag.specs.Walk.{DrainsTo, GraphModel}
use Rattle.jj_dag.proofs.ClosureGraphs.{may_return_says}
use Rattle.jj_dag.proofs.FailingWalks.{begun_are}
use Rattle.jj_dag.proofs.GreatestOrder.{map_twice}
use Rattle.jj_dag.proofs.Renumbered.{AlwaysReturns-weaker, is_node_of, number_is, number_of, numbers_are, one_to_one, renumbered, renumbered_closed}
use Rattle.jj_dag.proofs.Walking.{drained_are}
use Rattle.jj_dag.proofs.Wrapped.{ok_same}
use Rattle.jj_walks.proofs.OkLists.{no_error_in}
use Rattle.jj_walks.specs.declared.lazy_order.LazyOrder.{LazyOrder}
use Rattle.jj_walks.specs.LazySteps.{FailsNext, IsLeftOf}
use Rattle.jj_walks_tests.specs.declared.commits.Commit.{Commit}
use Rattle.jj_walks_tests.specs.declared.commits.OkCommits.{OkCommits}
use Rattle.jj_walks_tests.specs.declared.commits.OkIds.{OkIds}
use Rattle.jj_walks_tests.specs.Commits.{known_ids, parents_in, parent_graph}
use Rattle.jj_walks_tests.specs.Parents.{value_of_item, ids_left, items_left}
use Rattle.jj_walks_tests.proofs.Numbering.{node, node_stands, walk_closed, walk_neighbors, walk_of}
use Rattle.jj_walks_tests.proofs.OkItems.{becomes, commits_drained, drained_starts, id_walk, known_are_nodes, never_fails, shown_are}

-- the complete lists of such items
abbrev pub YieldsCommits : OkCommits → List (Bor Commit) → Type 0
YieldsCommits r xs = DrainsTo becomes (YieldsFirstBy value_of_item items_left) r (map (λ x. Ok x) xs)

abbrev pub YieldsIds : OkIds → List ℕ → Type 0
YieldsIds r xs = DrainsTo (λ s t. t ≡ s) (YieldsFirst ids_left) r (map (λ n. Ok n) xs)

-- an error that is not one of the starts
pub past_starts : {T ID E : Type 0} {graph : ClosureGraph T ID E} {start : Listing T E} {e : E} {Made : Type 0} → IsInputError graph start e ⊎ Made → (start.fails e → ⊥) → IsNeighborsError graph start e ⊎ Made
past_starts (inl (inl failed)) none = absurd (none failed)
past_starts (inl (inr failed)) none = inl failed
past_starts (inr made) none = inr made

module _ (commits : List Commit) where
  -- Closures that return the id of a commit and its parents.
  module _ {F N : Type 0} (ids : Shared F (Bor (Bor Commit) × Unit {0}) (Result (Bor ℕ) AllocError)) (lists : Mut N (Bor (Bor Commit) × Unit {0}) OkCommits) (id_fn : F) (neighbors_fn : N)
      (looks : (a : Bor (Bor Commit) × Unit {0}) (r : OkCommits) (after : N) → Called lists neighbors_fn a r after
      → (r.found.commits.now ≡ commits) × (r.found.ids.now ≡ a.0.now.now.parents.items) × (after ≡ neighbors_fn)) where
    pub commits_implemented : ((x : Bor Commit) (i : Bor ℕ) → ReturnsId ids id_fn x i → i.now ≡ x.now.id) → Implements (walk_of commits) (λ i j. eqb i.now j.now) ids lists YieldsCommits id_fn neighbors_fn
    commits_implemented same_id = record {
      closed = walk_closed commits;
      apart = λ i j a b. refl;
      ids_match = λ x i is h. same_id x i h ∙ node_stands commits x is;
      neighbors = always_returns_same lists _ neighbors_fn (λ a r after h.
          let k = looks a r after h in (
            λ xs here d. walk_neighbors commits a.0.now xs here (shown_are xs (parents_in commits a.0.now.now) (commits_drained commits a.0.now.now.parents.items r (map (λ x. Ok x) xs) k.0 k.1 d)),
            k.2,
          ));
    }

  -- Closures that return an id itself and the ids of parents.
  module _ {F N : Type 0} (ids : Shared F (Bor ℕ × Unit {0}) (Result ℕ AllocError)) (lists : Mut N (Bor ℕ × Unit {0}) OkIds) (id_fn : F) (neighbors_fn : N)
      (looks : (a : Bor ℕ × Unit {0}) (r : OkIds) (after : N) → Called lists neighbors_fn a r after
      → (ids_left r ≡ map (λ n. Ok n) (parent_graph commits a.0.now)) × (after ≡ neighbors_fn)) where
    pub ids_implemented : ((n i : ℕ) → ReturnsId ids id_fn n i → i ≡ n) → Implements (id_walk commits) eqb ids lists YieldsIds id_fn neighbors_fn
    ids_implemented same_id = record {
      closed = λ a h b e. refl;
      apart = λ i j a b. refl;
      ids_match = λ x i is h. same_id x i h;
      neighbors = always_returns_same lists _ neighbors_fn (λ a r after h.
          let k = looks a r after h in (
            λ xs here d.
                let drained = drained_are (λ s t. t ≡ s) (YieldsFirst ids_left) r (map (λ n. Ok n) xs) (λ y. y) (map (λ n. Ok n) (parent_graph commits a.0.now)) (λ it b. YieldsList-from_first (λ y. y) ids_left _ (ap ids_left b ∙ k.0)) d in
                map-id xs ∙ ok_same ℕ xs (parent_graph commits a.0.now) (sym (map-id (map (λ n. Ok n) xs)) ∙ drained),
            k.1,
          ));
    }

  -- such lists never fail
  pub no_commit_fails : {N : Type 0} {lists : Mut N (Bor (Bor Commit) × Unit {0}) OkCommits} {neighbors_fn : N} {x : Bor Commit} {e : ℕ} → ((r : OkCommits) × MayReturn lists neighbors_fn x r × FailsAfterNodes becomes (YieldsFirstBy value_of_item items_left) r e)
      → ((a : Bor (Bor Commit) × Unit {0}) (r : OkCommits) (after : N) → Called lists neighbors_fn a r after → (r.found.commits.now ≡ commits) × (r.found.ids.now ≡ a.0.now.now.parents.items) × (after ≡ neighbors_fn)) → ⊥
  no_commit_fails {lists = lists} {neighbors_fn} {x} {e} (r, may, (xs, begins)) looks =
      let said : (r.found.commits.now ≡ commits) × (r.found.ids.now ≡ x.now.parents.items) =
      may_return_says lists (λ y s. (s.found.commits.now ≡ commits) × (s.found.ids.now ≡ y.now.parents.items)) (always_returns_same lists _ neighbors_fn (λ a s after h. let k = looks a s after h in ((k.0, k.1), k.2))) may in
      never_fails commits x.now.parents.items r (map (λ y. Ok y) xs) e said.0 said.1 begins

  pub no_id_may_fail : {N : Type 0} {lists : Mut N (Bor ℕ × Unit {0}) OkIds} {neighbors_fn : N} {x e : ℕ} → ((r : OkIds) × MayReturn lists neighbors_fn x r × FailsAfterNodes (λ s t. t ≡ s) (YieldsFirst ids_left) r e)
      → ((a : Bor ℕ × Unit {0}) (r : OkIds) (after : N) → Called lists neighbors_fn a r after → (ids_left r ≡ map (λ n. Ok n) (parent_graph commits a.0.now)) × (after ≡ neighbors_fn)) → ⊥
  no_id_may_fail {lists = lists} {neighbors_fn} {x} {e} (r, may, (xs, begins)) looks =
      let said : ids_left r ≡ map (λ n. Ok n) (parent_graph commits x) = may_return_says lists (λ y s. ids_left s ≡ map (λ n. Ok n) (parent_graph commits y)) (always_returns_same lists _ neighbors_fn looks) may in
      let items = map {B = Result ℕ ℕ} (λ y. Ok y) xs in
      let begun = begun_are (λ s t. t ≡ s) (YieldsFirst ids_left) r (items ++ Err e ∷ []) (λ y. y) (map (λ n. Ok n) (parent_graph commits x)) (λ it b. YieldsList-from_first (λ y. y) ids_left _ (ap ids_left b ∙ said)) begins in
      no_error_in items e begun.0 (parent_graph commits x) (begun.1 ∙ ap (λ l. l ++ begun.0) (map-id (items ++ Err e ∷ [])))

  -- a property of each model is one of the commits with some ids
  pub of_commits : {E : Type 0} {graph : ClosureGraph (Bor Commit) (Bor ℕ) E} {start : Listing (Bor Commit) E} {P : GraphModel (Bor Commit) (Bor ℕ) → List ℕ → Type 0} (ids : List ℕ)
      → ((xs : List (Bor Commit)) → start.yields xs → map (node commits) xs ≡ known_ids commits ids) → InEachModel graph start P → graph.implements (walk_of commits) → P (walk_of commits) (known_ids commits ids)
  of_commits ids same k implemented = let starts = same k.starts k.yielded in rw starts at (k.holds (walk_of commits) implemented (rw starts (known_are_nodes commits ids)))

  -- an error of a walk from them, whose lists never fail, was made beside a cycle
  pub beside_cycle : {E : Type 0} {graph : ClosureGraph (Bor Commit) (Bor ℕ) E} {start : Listing (Bor Commit) E} {made : Bor Commit → E → Type 0} {e : E} → IsNeighborsError graph start e ⊎ IsMadeBesideCycle made graph start e
      → (ids : List ℕ) → ((xs : List (Bor Commit)) → start.yields xs → map (node commits) xs ≡ known_ids commits ids) → ((x : Bor Commit) → graph.fails x e → ⊥) → graph.implements (walk_of commits) → ReachesCycle (parent_graph commits) (known_ids commits ids)
  beside_cycle (inl failed) ids same never implemented = absurd (never failed.node failed.fails)
  beside_cycle (inr made) ids same never implemented = (of_commits ids same made.holds implemented).1

  -- a lazy order from the commits with some ids, of which none fails
  pub known_rest : {F N C : Type 0} {eq : Bor ℕ → Bor ℕ → Bool} {same_id : Shared F (Bor (Bor Commit) × Unit {0}) (Result (Bor ℕ) AllocError)} {lists : Mut N (Bor (Bor Commit) × Unit {0}) OkCommits}
      {value : into.Ghosts OkCommits (Result (Bor Commit) ℕ) OkCommits} {items : iter.Ghosts OkCommits (Result (Bor Commit) ℕ)} {id_fn : F} {neighbors_fn : N} {on_cycle : C} {it : LazyOrder (Bor Commit) (Bor ℕ) ℕ F N C}
      (ids : List ℕ) (starts : OkCommits) → starts.found.commits.now ≡ commits → starts.found.ids.now ≡ ids
      → ((xs : List (Bor Commit)) × YieldsCommits starts xs × IsLeftOf eq same_id lists value items id_fn neighbors_fn on_cycle xs [] it)
      ⊎ ((error : ℕ) × FailsAfterNodes becomes (YieldsFirstBy value_of_item items_left) starts error × FailsNext error it)
      → ((a : Bor (Bor Commit) × Unit {0}) (r : OkCommits) (after : N) → Called lists neighbors_fn a r after → (r.found.commits.now ≡ commits) × (r.found.ids.now ≡ a.0.now.now.parents.items) × (after ≡ neighbors_fn))
      → ((x : Bor Commit) (i : Bor ℕ) → ReturnsId same_id id_fn x i → i.now ≡ x.now.id)
      → (xs : List (Bor Commit)) × (map (node commits) xs ≡ known_ids commits ids) × IsLeftOf eq same_id lists value items id_fn neighbors_fn on_cycle xs [] it
      × Implements (walk_of commits) (λ i j. eqb i.now j.now) same_id lists YieldsCommits id_fn neighbors_fn
      × ((x : Bor Commit) (e : ℕ) → ((r : OkCommits) × MayReturn lists neighbors_fn x r × FailsAfterNodes becomes (YieldsFirstBy value_of_item items_left) r e) → ⊥)
  known_rest {same_id = same_id} {lists} {id_fn = id_fn} {neighbors_fn} ids starts same list (inl (xs, drained, k)) looks returns =
      (xs, drained_starts commits ids starts xs same list drained, k, commits_implemented same_id lists id_fn neighbors_fn looks returns, λ x e failed. no_commit_fails failed looks)
  known_rest ids starts same list (inr (error, (xs, begins), next)) looks returns = absurd (never_fails commits ids starts (map (λ x. Ok x) xs) error same list begins)

-- Closures that implement a model implement it under other numbers.
module _ {T ID F N R : Type 0} (w : GraphModel T ID) (to back : ℕ → ℕ) (unused : ℕ) (undo : (n : ℕ) → w.is_node n ≡ true → back (to n) ≡ n) (free : (n : ℕ) → w.is_node n ≡ true → to n ≢ unused)
    (eq : ID → ID → Bool) (ids : Shared F (Bor T × Unit {0}) (Result ID AllocError)) (lists : Mut N (Bor T × Unit {0}) R) (yields : R → List T → Type 0) {id_fn : F} {neighbors_fn : N} where
  pub renumbered_implemented : Implements w eq ids lists yields id_fn neighbors_fn → Implements (renumbered w to back unused) eq ids lists yields id_fn neighbors_fn
  renumbered_implemented k =
      let W = renumbered w to back unused in
      let number : ℕ → ℕ = λ n. number_of w to back unused n in
      let is_node : (n : ℕ) → W.is_node (number n) ≡ true → w.is_node n ≡ true = λ n is. is_node_of w to back unused undo free k.closed n is in
      record {
        closed = renumbered_closed w to back unused undo free k.closed;
        apart = λ i j is_i is_j.
            let at_i = is_node (w.id i) is_i in
            let at_j = is_node (w.id j) is_j in
            k.apart i j at_i at_j
            ∙ one_answer (w.id i == w.id j) (number (w.id i) == number (w.id j)) (Decides-eqb (w.id i) (w.id j)) (
              λ e. one_to_one w to back unused undo free k.closed (w.id i) (w.id j) at_i at_j
                  (sym (number_is w to back unused undo free k.closed (w.id i) at_i) ∙ (Decides-eqb (number (w.id i)) (number (w.id j))).0 e ∙ number_is w to back unused undo free k.closed (w.id j) at_j),
              λ e. (Decides-eqb (number (w.id i)) (number (w.id j))).1 (ap number e),
            );
        ids_match = λ x i is h. ap number (k.ids_match x i (is_node (w.node x) is) h);
        neighbors = AlwaysReturns-weaker lists _ _ neighbors_fn (λ a r listed xs is d.
            let n = w.node a.0.now in
            let here = is_node n is in
            let at : back (number n) ≡ n = ap back (number_is w to back unused undo free k.closed n here) ∙ undo n here in
            sym (map_twice number w.node xs) ∙ ap (map number) (listed xs here d) ∙ numbers_are w to back unused undo free k.closed (w.graph n) (k.closed n here) ∙ ap (λ m. map to (w.graph m)) (sym at)) k.neighbors;
      }
