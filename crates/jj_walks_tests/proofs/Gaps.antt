-- The numbering of a list of commits that may lack parents of its commits.
use Rattle.std.proofs.Common.{◌≡◌, ℕ, zero, suc, true, false, cond, List, [], ◌∷◌, map, Option, None, Some, is_some, Result, Ok, Err, refl, sym, ◌∙◌, ap, subst, arith}
use Rattle.std.specs.Prelude.{IfOk, IfErr, eqb}
use Rattle.std.specs.List.{Contains, IsDistinct, filter_map}
use Rattle.jj_dag.specs.Graph.{AreMaximalElements, ReachedFrom}
use Rattle.jj_dag.proofs.Heads.{Contains-map}
use Rattle.std.specs.Fn.{Called, Mut, Shared}
use Rattle.std.specs.declared.alloc.AllocError.{AllocError}
use Rattle.std.specs.Iterator.{YieldsFirstRef}
use Rattle.std.specs.String.{string_bytes, string_eq}
use Rattle.std.specs.Bool.{Decides}
use Rattle.std.proofs.lemmas.Bool.Decides.{Decides-eqb}
use Rattle.std.proofs.lemmas.Fn.{always_returns_same}
use Rattle.std.proofs.lemmas.Slice.Eq.{slice_eq-Decides}
use Rattle.std.proofs.lemmas.Iterator.Consumers.{YieldsList-from_first}
use denote.Ref.{Bor}
use Rattle.jj_dag.specs.ClosureGraph.{Implements, MayReturn, ReturnsId, YieldsOk}
use Rattle.jj_dag.specs.Walk.{AreNodes, DrainsTo, GraphModel}
use Rattle.jj_dag.proofs.ClosureGraphs.{may_return_says}
use Rattle.jj_dag.proofs.Collecting.{are_nodes}
use Rattle.jj_dag.proofs.Walking.{drained_are}
use Rattle.jj_walks_tests.specs.declared.commits.Commit.{Commit}
use Rattle.jj_walks_tests.specs.declared.commits.Parents.{Parents}
use Rattle.jj_walks_tests.specs.declared.commits.Gap.{Gap}
use Rattle.jj_walks_tests.specs.declared.commits.Gap.TheVariants.{Memory, Text}
use Rattle.jj_walks_tests.specs.Commits.{ids_of, commit_with, parents_in, parent_graph}
use Rattle.jj_walks_tests.specs.Parents.{parents_left}
use Rattle.jj_walks_tests.specs.Gaps.{has_ids, whole_graph, describes_gap, HasTextOf, IsGapIn}
use Rattle.jj_walks_tests.proofs.Numbering.{walk_closed, walk_neighbors, node, node_has, node_stands, has_found, found_has, found_id, ids_are, starts_are_nodes}

module _ (commits : List Commit) where
  abbrev pub walk_whole : GraphModel (Bor Commit) ℕ
  walk_whole = record { graph = whole_graph commits; is_node = λ n. is_some (commit_with commits n); node = node commits; id = λ i. i }

  pub whole_closed : (n : ℕ) → is_some (commit_with commits n) ≡ true → AreNodes walk_whole (whole_graph commits n)
  whole_closed n h b at = walk_closed commits n h b (of (commit_with commits n) at)
    where
      of : (o : Option Commit) → Contains (elim o [ None ↦ [] | Some c ↦ cond (has_ids commits c.parents.items) (ids_of (parents_in commits c)) [] ]) b → Contains (elim o [ None ↦ [] | Some c ↦ ids_of (parents_in commits c) ]) b
      of None at = at
      of (Some c) at = elim (has_ids commits c.parents.items) as (λ t. Contains (cond t (ids_of (parents_in commits c)) []) b → Contains (ids_of (parents_in commits c)) b) [
        | true ↦ λ h. h
        | false ↦ λ (k, lt, e). absurd (omega arith)
      ] at

  has_text : (c : Commit) (gap : Gap) → describes_gap c gap ≡ true → HasTextOf c gap
  has_text c Memory h = tt
  has_text c (Text text) h =
      let one : Decides (string_eq text c.text) (string_bytes text ≡ string_bytes c.text) = slice_eq-Decides Decides-eqb (string_bytes text) (string_bytes c.text) _ refl in
      one.0 h

  -- if the list has all parents of a commit, they are its neighbors
  whole_list : (n : ℕ) (d : Commit) → commit_with commits n ≡ Some d → has_ids commits d.parents.items ≡ true → parent_graph commits n ≡ whole_graph commits n
  whole_list n d e has =
      ap (λ (o : Option Commit). elim o [ None ↦ [] | Some c ↦ ids_of (parents_in commits c) ]) e ∙ ap (λ b. cond b (ids_of (parents_in commits d)) []) (sym has)
      ∙ sym (ap (λ (o : Option Commit). elim o [ None ↦ [] | Some c ↦ cond (has_ids commits c.parents.items) (ids_of (parents_in commits c)) [] ]) e)

  -- a complete list of parents of a node
  whole_listed : (x : Bor Commit) (r : Result Parents Gap) (xs : List (Bor Commit)) → is_some (commit_with commits (node commits x)) ≡ true
      → IfOk r (λ parents. has_ids commits x.now.parents.items ≡ true) → IfOk r (λ parents. (parents.commits.now ≡ commits) × (parents.ids.now ≡ x.now.parents.items))
      → YieldsOk (DrainsTo (λ s t. t ≡ s) (YieldsFirstRef parents_left)) r xs → map (node commits) xs ≡ whole_graph commits (node commits x)
  whole_listed x (Ok list) xs here has (same, ids) d =
      let left : parents_left list ≡ parents_in commits x.now = ap (λ cs. filter_map (commit_with cs) list.ids.now) same ∙ ap (filter_map (commit_with commits)) ids in
      let yielded = drained_are (λ s t. t ≡ s) (YieldsFirstRef parents_left) list xs (λ y. y.now) (parents_in commits x.now) (λ it b. YieldsList-from_first (λ y. y.now) parents_left _ (ap parents_left b ∙ left)) d in
      let f = has_found commits x.now (node_has commits x here) in
      let found = ap (commit_with commits) (sym (node_stands commits x here)) ∙ f.1 in
      walk_neighbors commits x xs here yielded ∙ whole_list (node commits x) f.0 found (ap (has_ids commits) f.2.2 ∙ has)
  whole_listed x (Err gap) xs here has parents d = absurd d

  -- Closures that return a commit's id and list its parents, or its description if one is missing.
  module _ {F N : Type 0} (ids : Shared F (Bor (Bor Commit) × Unit {0}) (Result ℕ AllocError)) (lists : Mut N (Bor (Bor Commit) × Unit {0}) (Result Parents Gap)) (id_fn : F) (neighbors_fn : N)
      (same_id : (x : Bor Commit) (i : ℕ) → ReturnsId ids id_fn x i → i ≡ x.now.id)
      (looks : (a : Bor (Bor Commit) × Unit {0}) (r : Result Parents Gap) (after : N) → Called lists neighbors_fn a r after
      → IfOk r (λ parents. has_ids commits a.0.now.now.parents.items ≡ true)
      × IfOk r (λ parents. (parents.commits.now ≡ commits) × (parents.ids.now ≡ a.0.now.now.parents.items))
      × IfErr r (λ gap. (has_ids commits a.0.now.now.parents.items ≡ false) × (describes_gap a.0.now.now gap ≡ true)) × (after ≡ neighbors_fn)) where
    -- they implement the graph of the commits
    pub whole_implemented : Implements walk_whole eqb ids lists (YieldsOk (DrainsTo (λ s t. t ≡ s) (YieldsFirstRef parents_left))) id_fn neighbors_fn
    whole_implemented = record {
      closed = whole_closed;
      apart = λ i j a b. refl;
      ids_match = λ x i is h. same_id x i h ∙ node_stands commits x is;
      neighbors = always_returns_same lists _ neighbors_fn (λ a r after h. let k = looks a r after h in (λ xs here d. whole_listed a.0.now r xs here k.0 k.1 d, k.3));
    }

  module _ {N : Type 0} (lists : Mut N (Bor (Bor Commit) × Unit {0}) (Result Parents Gap)) (neighbors_fn : N)
      (looks : (a : Bor (Bor Commit) × Unit {0}) (r : Result Parents Gap) (after : N) → Called lists neighbors_fn a r after
      → IfErr r (λ gap. (has_ids commits a.0.now.now.parents.items ≡ false) × (describes_gap a.0.now.now gap ≡ true)) × (after ≡ neighbors_fn)) where
    -- an error that a reached commit may return is that of a commit that lacks a parent
    pub gap_found : (starts : List ℕ) → AreNodes walk_whole starts → (x : Bor Commit) (gap : Gap) → (r : Result Parents Gap) × MayReturn lists neighbors_fn x r × (r ≡ Err gap)
        → ReachedFrom (whole_graph commits) starts (node commits x) → IsGapIn commits gap
    gap_found starts nodes x gap (r, may, is) reached =
        let P : Bor Commit → Result Parents Gap → Type 0 = λ y s. IfErr s (λ g. (has_ids commits y.now.parents.items ≡ false) × (describes_gap y.now g ≡ true)) in
        let says : P x r = may_return_says lists P (always_returns_same lists _ neighbors_fn looks) may in
        let own = subst (λ (s : Result Parents Gap). P x s) is says in
        (x.now, node_has commits x (are_nodes {E = ℕ} walk_whole (λ a. []) starts whole_closed nodes (node commits x) reached), own.0, has_text x.now gap own.1)

  -- a set of nodes that is maximal has their ids for its numbers
  pub whole_maximal : IsDistinct eqb (ids_of commits) → (xs : List (Bor Commit)) → AreMaximalElements (whole_graph commits) (ids_of commits) (map (node commits) xs)
      → AreMaximalElements (whole_graph commits) (ids_of commits) (map (λ x. x.now.id) xs)
  whole_maximal once xs m = subst (λ l. AreMaximalElements (whole_graph commits) (ids_of commits) l)
      (ids_are commits xs (λ x h. node_has commits x (starts_are_nodes commits once (node commits x) ((m.all (node commits x)).0 (Contains-map (node commits) xs x h)).0))) m
