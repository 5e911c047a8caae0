-- Closures that list parents implement the graph of the commits.
use Rattle.std.proofs.Common.{◌≡◌, ℕ, List, Result, refl, ◌∙◌, ap, eqb}
use Rattle.std.specs.Fn.{Called, Mut, Shared}
use Rattle.std.specs.Iterator.{YieldsFirstRef}
use Rattle.std.specs.List.{filter_map}
use Rattle.std.proofs.lemmas.Fn.{always_returns_same}
use Rattle.std.proofs.lemmas.Iterator.Consumers.{YieldsList-from_first}
use Rattle.std.specs.declared.alloc.AllocError.{AllocError}
use denote.Ref.{Bor}
use Rattle.jj_dag.specs.ClosureGraph.{Implements, ReturnsId}
use Rattle.jj_dag.specs.Walk.{DrainsTo}
use Rattle.jj_dag.proofs.Walking.{drained_are}
use Rattle.jj_walks_tests.specs.declared.commits.Commit.{Commit}
use Rattle.jj_walks_tests.specs.declared.commits.Parents.{Parents}
use Rattle.jj_walks_tests.specs.Commits.{commit_with, parents_in}
use Rattle.jj_walks_tests.specs.Parents.{parents_left}
use Rattle.jj_walks_tests.proofs.Numbering.{node_stands, walk_closed, walk_neighbors, walk_of}

module _ (commits : List Commit) {F N : Type 0} (id_fn : F) (neighbors_fn : N) where
  module _ (ids : Shared F (Bor (Bor Commit) × Unit {0}) (Result (Bor ℕ) AllocError)) (lists : Mut N (Bor (Bor Commit) × Unit {0}) Parents)
      (same_id : (x : Bor Commit) (i : Bor ℕ) → ReturnsId ids id_fn x i → i.now ≡ x.now.id)
      (looks : (a : Bor (Bor Commit) × Unit {0}) (r : Parents) (after : N) → Called lists neighbors_fn a r after
      → (r.commits.now ≡ commits) × (r.ids.now ≡ a.0.now.now.parents.items) × (after ≡ neighbors_fn)) where
    -- as commits with their parents
    pub parents_implemented : Implements (walk_of commits) (λ i j. eqb i.now j.now) ids lists (DrainsTo (λ s t. t ≡ s) (YieldsFirstRef parents_left)) id_fn neighbors_fn
    parents_implemented = record {
      closed = walk_closed commits;
      apart = λ i j a b. refl;
      ids_match = λ x i is h. same_id x i h ∙ node_stands commits x is;
      neighbors = always_returns_same lists _ neighbors_fn (λ a r after h.
          let k = looks a r after h in
          let left : parents_left r ≡ parents_in commits a.0.now.now = ap (λ cs. filter_map (commit_with cs) r.ids.now) k.0 ∙ ap (filter_map (commit_with commits)) k.1 in (
            λ xs here d. walk_neighbors commits a.0.now xs here (drained_are (λ s t. t ≡ s) (YieldsFirstRef parents_left) r xs (λ y. y.now) (parents_in commits a.0.now.now)
                (λ it b. YieldsList-from_first (λ y. y.now) parents_left _ (ap parents_left b ∙ left)) d),
            k.2,
          ));
    }
