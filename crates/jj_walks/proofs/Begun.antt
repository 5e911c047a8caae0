-- Items of a run of `DepthFirstOk` that is cut off.
use Rattle.std.proofs.Common.{◌≡◌, ℕ, Bool, true, false, Option, Result, Ok, Err, List, [], ◌∷◌, ◌++◌, map, reverse, refl, sym, ◌∙◌, ap, subst, append_assoc, append-nil, true≢false}
use Rattle.std.specs.Fn.{Shared, Mut}
use Rattle.std.specs.List.{Contains}
use Rattle.std.specs.declared.alloc.AllocError.{AllocError}
use Rattle.std.proofs.lemmas.List.Elements.{Contains-append_left}
use denote.Ref.{Bor}
use Rattle.jj_walks.specs.declared.depth_first.DepthFirstOk.{DepthFirstOk}
use Rattle.jj_dag.specs.FallibleGraphs.{FallibleGraph, FalliblePreorder, IsFalliblePreorder, ok_items}
use Rattle.jj_dag.specs.FallibleGraphs.FalliblePreorder.{ended, failed, passed, entered}
use Rattle.jj_dag.specs.Walk.{AreNodes, DrainsTo, GraphModel}
use Rattle.jj_dag.proofs.FailingWalks.{Contains-from_ok_items, Contains-ok_items}
use Rattle.jj_dag.proofs.Walking.{Contains-from_has, has, has-from_Contains}
use Rattle.jj_walks.specs.Expansions.{Expansion, ImplementsItems, expansions_graph, item_of}
use Rattle.jj_walks.specs.DfsOkSteps.{IsLeftOf}
use Rattle.jj_walks.proofs.Expanding.{at_first, in_map, in_reverse}
use Rattle.jj_walks.proofs.DfsOkRuns.{graph_from}

-- the emitted items are a prefix of all items
pub FalliblePreorder-extends : {K : Type 0} (g : FallibleGraph K) (todo yielded out : List (Result ℕ K)) → FalliblePreorder g todo yielded out → (more : List (Result ℕ K)) × (out ≡ yielded ++ more)
FalliblePreorder-extends g [] yielded out ended = ([], sym (append-nil yielded))
FalliblePreorder-extends g (Err e ∷ todo) yielded out (failed p) =
    let q = FalliblePreorder-extends g todo (yielded ++ Err e ∷ []) out p in (Err e ∷ q.0, q.1 ∙ append_assoc yielded (Err e ∷ []) q.0)
FalliblePreorder-extends g (Ok x ∷ todo) yielded out (passed k p) = FalliblePreorder-extends g todo yielded out p
FalliblePreorder-extends {K} g (Ok x ∷ todo) yielded out (entered {below = below} k m p) =
    let inner = FalliblePreorder-extends g (reverse (g x)) (yielded ++ Ok x ∷ []) below m in
    let outer = FalliblePreorder-extends g todo below out p in
    (Ok x ∷ (inner.0 ++ outer.0), outer.1 ∙ ap (λ (l : List (Result ℕ K)). l ++ outer.0) inner.1 ∙ append_assoc (yielded ++ Ok x ∷ []) inner.0 outer.0 ∙ append_assoc yielded (Ok x ∷ []) (inner.0 ++ outer.0))

none_in : {X : Type 0} (xs : List X) → ((y : X) → Contains xs y → ⊥) → xs ≡ []
none_in [] none = refl
none_in (x ∷ xs) none = absurd (none x (at_first x xs))

-- if each other node has no items, the search ends
finishes : {K : Type 0} (g : FallibleGraph K) (todo yielded : List (Result ℕ K)) → ((a : ℕ) → (Contains yielded (Ok a) → ⊥) → g a ≡ []) → (out : List (Result ℕ K)) × FalliblePreorder g todo yielded out
finishes g [] yielded none = (yielded, ended)
finishes g (Err e ∷ todo) yielded none =
    let q = finishes g todo (yielded ++ Err e ∷ []) (λ a no. none a (λ at. no (Contains-append_left yielded (Err e ∷ []) (Ok a) at))) in (q.0, failed q.1)
finishes {K} g (Ok x ∷ todo) yielded none =
    let P : Bool → Type 0 = λ b. has (ok_items yielded) x ≡ b → (out : List (Result ℕ K)) × FalliblePreorder g (Ok x ∷ todo) yielded out in
    elim (has (ok_items yielded) x) as P [
      | true ↦ λ e. let q = finishes g todo yielded none in (q.0, passed (Contains-from_ok_items yielded x (Contains-from_has (ok_items yielded) x e)) q.1)
      | false ↦ λ e.
          let fresh : Contains yielded (Ok x) → ⊥ = λ at. true≢false (sym (has-from_Contains (ok_items yielded) x (Contains-ok_items yielded x at)) ∙ e) in
          let q = finishes g todo (yielded ++ Ok x ∷ []) (λ a no. none a (λ at. no (Contains-append_left yielded (Ok x ∷ []) (Ok a) at))) in
          let inner = subst (λ (l : List (Result ℕ K)). FalliblePreorder g (reverse l) (yielded ++ Ok x ∷ []) (yielded ++ Ok x ∷ [])) (sym (none x fresh)) ended in
          (q.0, entered fresh inner q.1)
    ] refl

module _ {T ID E F N U S : Type 0} (ids : Shared F (Bor T × Unit {0}) (Result ID AllocError)) (lists : Mut N (Bor T × Unit {0}) U)
    (eq : ID → ID → Bool) (becomes : U → S → Type 0) (steps : S → Option (Result T E) → S → Type 0) (id_fn : F) (neighbors_fn : N)
    (starts yielded : List (Result T E)) (s : DepthFirstOk T ID E F N) (left : IsLeftOf ids lists eq becomes steps id_fn neighbors_fn starts yielded s)
    (g : GraphModel T ID) (implemented : ImplementsItems g eq ids lists (DrainsTo becomes steps) id_fn neighbors_fn) (start_nodes : AreNodes g (ok_items (map (item_of g.node) starts))) where
  -- at each step the emitted items are a prefix of a preorder of the graph so far
  pub begun : (more : List (Result ℕ E)) × IsFalliblePreorder (expansions_graph g.node left.expansions) (map (item_of g.node) starts) (map (item_of g.node) yielded ++ more)
  begun =
      let listed_graph : FallibleGraph E = expansions_graph g.node left.expansions in
      let k = left.walks g implemented start_nodes in
      let here = k.walking listed_graph k.has_items in
      let nodes : List T = map (λ (a : Expansion T E). a.node) left.expansions in
      let unasked : (a : ℕ) → (Contains (map (item_of g.node) yielded) (Ok a) → ⊥) → listed_graph a ≡ [] = λ a no. none_in (listed_graph a) (λ y at.
      let from = graph_from g.node left.expansions a y at in
      let yielded_at : Contains yielded (Ok from.0.node) = Contains-from_ok_items yielded from.0.node
      (subst (λ (l : List T). Contains l from.0.node) left.expanded (in_reverse nodes from.0.node (in_map (λ (b : Expansion T E). b.node) left.expansions from.0 from.1))) in
      no (subst (λ (n : ℕ). Contains (map (item_of g.node) yielded) (Ok n)) from.2 (in_map (item_of g.node) yielded (Ok from.0.node) yielded_at))) in
      let q = finishes listed_graph (reverse (map (item_of g.node) s.work.items)) (map (item_of g.node) yielded) unasked in
      let more = FalliblePreorder-extends listed_graph (reverse (map (item_of g.node) s.work.items)) (map (item_of g.node) yielded) q.0 q.1 in
      (more.0, subst (λ (l : List (Result ℕ E)). IsFalliblePreorder listed_graph (map (item_of g.node) starts) l) more.1 (here.rest q.0 q.1))
