-- Steps of a depth-first search.
use Rattle.std.proofs.Common.{◌≡◌, ℕ, Bool, true, true≢false, Result, Ok, Err, Option, None, Some, IfNone, IfSome, IfOk, IfErr, IsNone, List, [], ◌∷◌, ◌++◌, map, reverse, refl, sym, ◌∙◌, ap, subst, append_assoc, append-nil}
use Rattle.std.specs.Fn.{Shared, Mut, FnReturns}
use Rattle.std.specs.Iterator.{Count, IsFiniteIterable}
use Rattle.std.specs.HashSet.{contains}
use Rattle.std.specs.List.{Contains}
use Rattle.std.specs.declared.alloc.AllocError.{AllocError}
use Rattle.std.proofs.lemmas.List.{reverse-append}
use Rattle.std.proofs.lemmas.List.Elements.{Contains-append_left, Contains-append_right, Contains-push}
use denote.Ref.{Bor}
use Rattle.jj_walks.specs.declared.depth_first.DepthFirst.{DepthFirst}
use Rattle.jj_walks.specs.declared.depth_first.DepthFirstOk.{DepthFirstOk}
use Rattle.jj_dag.specs.declared.walk_error.WalkError.{WalkError}
use Rattle.jj_dag.specs.declared.walk_error.WalkError.TheVariants.{Memory, Node}
use Rattle.jj_dag.specs.ClosureGraph.{IsWalkable, MayReturn, ReturnsId}
use Rattle.jj_dag.specs.Errors.{IfMemory, IfNode}
use Rattle.jj_dag.specs.FallibleGraphs.{ok_items}
use Rattle.jj_dag.specs.Graph.{IsPreorder}
use Rattle.jj_dag.specs.Walk.{AreNodes, DrainsTo, IsWalking, GraphModel}
use Rattle.jj_walks.specs.NextItem.{Enters, Fails, IsNode, Passes, WasVisited}
use Rattle.jj_walks.specs.Expansions.{Expansion, ImplementsItems, IsRun, expansions_graph, item_of}
use Rattle.jj_walks.specs.DfsSteps.{IsLeftOf}
use Rattle.jj_walks.specs.DfsOkSteps.{IsLeftOf as IsLeftOfItems, IsWalkingExpansions, Steps}
use Rattle.jj_dag.specs.ClosureGraph.MayReturn.{at_once}
use Rattle.jj_dag.proofs.ClosureGraphs.{implements_after, may_return_says, may_return_later}
use Rattle.jj_dag.proofs.Walking.{is_node_on_top, walked, walking_entered, walking_passed}
use Rattle.jj_dag.proofs.FailingWalks.{Contains-from_ok_items, ok_items-append, walked_items}
use Rattle.jj_walks.specs.Expansions.ExpansionsLead.{one_more}
use Rattle.jj_walks.proofs.Chains.{chain_leads}
use Rattle.jj_walks.proofs.Expanding.{expansions_entered, expansions_failed, expansions_passed, in_map, in_reverse, numbered_back, on_top_is_node}

-- ---- infallible items

module _ {T E ID F P N U S : Type 0} (finds : Shared P (T × Unit {0}) (Result T E)) (ids : Shared F (Bor T × Unit {0}) (Result ID AllocError)) (lists : Mut N (Bor T × Unit {0}) U)
    (eq : ID → ID → Bool) (node_of : P) (itself : (item node : T) → FnReturns finds node_of (item, tt) (Ok node) → item ≡ node)
    (w : GraphModel T ID) (becomes : U → S → Type 0) (steps : S → Option T → S → Type 0) (starts : List ℕ) (yielded : List T) (s : DepthFirst T ID F N)
    (left : IsLeftOf ids lists w eq becomes steps starts yielded s) where
  -- the id of the node on top of the stack
  id_on_top : (work rest : List T) (item node : T) (i : ID) → IsWalking w starts (contains eq s.visited) work yielded → work ≡ rest ++ item ∷ []
      → IsNode finds ids eq node_of s.id_fn s.visited item node i → (item ≡ node) × (w.id i ≡ w.node item)
  id_on_top work rest item node i k e is =
      let same : item ≡ node = itself item node is.0 in
      (same, rw same (left.implemented.ids_match node i (subst (λ (x : T). w.is_node (w.node x) ≡ true) same (is_node_on_top w rest item k e)) is.1))

  -- visited nodes on top of it may be popped
  without_passed : (passed rest work : List T) → IsWalking w starts (contains eq s.visited) work yielded → work ≡ rest ++ passed
      → ((x : T) → Contains passed x → WasVisited finds ids eq node_of s.id_fn s.visited x) → IsWalking w starts (contains eq s.visited) rest yielded
  without_passed [] rest work k e each = subst (λ (l : List T). IsWalking w starts (contains eq s.visited) l yielded) (e ∙ append-nil rest) k
  without_passed (x ∷ xs) rest work k e each =
      let below = without_passed xs (rest ++ x ∷ []) work k (e ∙ sym (append_assoc rest (x ∷ []) xs)) (λ y at. each y (Contains-append_right (x ∷ []) xs y at)) in
      let seen = each x (Contains-append_left (x ∷ []) xs x (Contains-push [] x)) in
      walking_passed w rest x seen.1 below refl (id_on_top (rest ++ x ∷ []) rest x seen.0 seen.1 below refl seen.2).1 (sym seen.3)

  left_after : (rest : List T) → Passes finds ids eq node_of s.id_fn s.visited s.work.items rest → IsWalking w starts (contains eq s.visited) rest yielded
  left_after rest k = without_passed k.passed rest s.work.items left.walking k.above k.visited_before

  -- a node that is entered is emitted next
  pub node_yielded : (node : T) (t : DepthFirst T ID F N) → t.id_fn ≡ s.id_fn
      → Enters finds ids eq node_of s.id_fn s.visited lists becomes steps s.work.items s.neighbors_fn node t.work.items t.visited t.neighbors_fn
      → IsLeftOf ids lists w eq becomes steps starts (yielded ++ node ∷ []) t
  node_yielded node t kept did =
      let before = left_after (did.rest ++ did.item ∷ []) did.passes in
      let known = id_on_top (did.rest ++ did.item ∷ []) did.rest did.item node did.id before refl did.is_node in
      let after = implements_after w eq ids lists (DrainsTo becomes steps) left.implemented did.called in
      record {
        implemented = rw kept after.0;
        walking = walking_entered w eq _ did.rest did.item did.id did.neighbors _ _ left.implemented.closed left.implemented.apart before refl known.1 (sym did.fresh)
            (λ here. rw known.0 (after.1 did.neighbors (rw known.0 at here) did.listed))
            did.queued (ap (λ x. yielded ++ x ∷ []) (sym known.0)) did.updates.0;
      }

  -- if only visited nodes are pending, the search is complete
  pub all_yielded : Passes finds ids eq node_of s.id_fn s.visited s.work.items [] → IsPreorder w.graph starts (map w.node yielded)
  all_yielded k = walked w (left_after [] k) refl

-- ---- items that may fail

module _ {T E ID F P N U S : Type 0} (finds : Shared P (Result T E × Unit {0}) (Result T E)) (ids : Shared F (Bor T × Unit {0}) (Result ID AllocError)) (lists : Mut N (Bor T × Unit {0}) U)
    (eq : ID → ID → Bool) (node_of : P) (itself : (item found : Result T E) → FnReturns finds node_of (item, tt) found → item ≡ found)
    (becomes : U → S → Type 0) (steps : S → Option (Result T E) → S → Type 0) (s : DepthFirstOk T ID E F N) where
  module _ (id_fn : F) (neighbors_fn : N) (starts yielded : List (Result T E))
      (left : IsLeftOfItems ids lists eq becomes steps id_fn neighbors_fn starts yielded s) where
    -- each list is that of an emitted node
    was_yielded : (x : Expansion T E) → Contains left.expansions x → Contains yielded (Ok x.node)
    was_yielded x h =
        let nodes : List T = map (λ (a : Expansion T E). a.node) left.expansions in
        let turned : Contains (reverse nodes) x.node = in_reverse nodes x.node (in_map (λ (a : Expansion T E). a.node) left.expansions x h) in
        Contains-from_ok_items yielded x.node (subst (λ (l : List T). Contains l x.node) left.expanded turned)

    module _ (g : GraphModel T ID) (implemented : ImplementsItems g eq ids lists (DrainsTo becomes steps) id_fn neighbors_fn)
        (start_nodes : AreNodes g (ok_items (map (item_of g.node) starts))) where
      -- the pending items of the search
      abbrev Waits : List (Result T E) → Type 0
      Waits work = IsWalkingExpansions g (contains eq s.visited) left.expansions starts work yielded

      -- the top of the stack is the item that was popped
      top_is : (rest : List (Result T E)) (item found : Result T E) → Waits (rest ++ item ∷ []) → FnReturns finds node_of (item, tt) found → Waits (rest ++ found ∷ [])
      top_is rest item found k is = subst Waits (ap (λ y. rest ++ y ∷ []) (itself item found is)) k

      -- the id of the node on top of the stack
      item_id_on_top : (rest : List (Result T E)) (node : T) (i : ID) → Waits (rest ++ Ok node ∷ []) → ReturnsId ids s.id_fn node i → g.id i ≡ g.node node
      item_id_on_top rest node i k is = implemented.complete.ids_match node i (on_top_is_node g rest node k refl) (subst (λ (f : F). ReturnsId ids f node i) left.same_ids is)

      -- visited nodes on top of it may be popped
      items_without_passed : (passed rest work : List (Result T E)) → Waits work → work ≡ rest ++ passed
          → ((x : Result T E) → Contains passed x → WasVisited finds ids eq node_of s.id_fn s.visited x) → Waits rest
      items_without_passed [] rest work k e each = subst Waits (e ∙ append-nil rest) k
      items_without_passed (x ∷ xs) rest work k e each =
          let all = items_without_passed xs (rest ++ x ∷ []) work k (e ∙ sym (append_assoc rest (x ∷ []) xs)) (λ y at. each y (Contains-append_right (x ∷ []) xs y at)) in
          let seen = each x (Contains-append_left (x ∷ []) xs x (Contains-push [] x)) in
          let below = top_is rest x (Ok seen.0) all seen.2.0 in
          expansions_passed g rest seen.0 seen.1 below refl (item_id_on_top rest seen.0 seen.1 below seen.2.1) (sym seen.3)

      items_left_after : (rest : List (Result T E)) → Passes finds ids eq node_of s.id_fn s.visited s.work.items rest → Waits rest
      items_left_after rest k = items_without_passed k.passed rest s.work.items (left.walks g implemented start_nodes) k.above k.visited_before

      -- the neighbors returned for a node are nodes
      listed_nodes : (node : T) (neighbor_list : U) (below : List (Result T E)) → MayReturn lists neighbors_fn node neighbor_list → DrainsTo becomes steps neighbor_list below → g.is_node (g.node node) ≡ true
          → AreNodes g (ok_items (map (item_of g.node) below))
      listed_nodes node neighbor_list below may listed here a h =
          let says = may_return_says lists (λ (y : T) (r : U). (xs : List (Result T E)) (x : T) → g.is_node (g.node y) ≡ true → DrainsTo becomes steps r xs → Contains xs (Ok x)
          → Contains (g.graph (g.node y)) (g.node x)) implemented.partial may in
          let back = numbered_back g.node below a (Contains-from_ok_items (map (item_of g.node) below) a h) in
          subst (λ (n : ℕ). g.is_node n ≡ true) back.2 (implemented.complete.closed (g.node node) here (g.node back.0) (says below back.0 here listed back.1))

    -- a node that is entered is emitted next
    item_yielded : (node : T) (t : DepthFirstOk T ID E F N) → t.id_fn ≡ s.id_fn
        → Enters finds ids eq node_of s.id_fn s.visited lists becomes steps s.work.items s.neighbors_fn node t.work.items t.visited t.neighbors_fn
        → IsLeftOfItems ids lists eq becomes steps id_fn neighbors_fn starts (yielded ++ Ok node ∷ []) t
    item_yielded node t kept did =
        let new : Expansion T E = record { node = node; items = did.neighbors } in
        let may : MayReturn lists neighbors_fn node did.neighbor_list = may_return_later (chain_leads lists (DrainsTo becomes steps) neighbors_fn left.in_turn) (at_once did.called) in
        let nodes : List T = map (λ (a : Expansion T E). a.node) left.expansions in
        record {
          same_ids = kept ∙ left.same_ids;
          expansions = new ∷ left.expansions;
          in_turn = one_more left.in_turn did.called did.listed;
          expanded = reverse-append (node ∷ []) nodes ∙ ap (λ (l : List T). l ++ node ∷ []) left.expanded ∙ sym (ok_items-append yielded (Ok node ∷ []));
          walks = λ g implemented start_nodes.
              let before = top_is g implemented start_nodes did.rest did.item (Ok node) (items_left_after g implemented start_nodes (did.rest ++ did.item ∷ []) did.passes) did.is_node.0 in
              let here = on_top_is_node g did.rest node before refl in
              subst (λ (l : List (Result T E)). IsWalkingExpansions g (contains eq t.visited) (new ∷ left.expansions) starts l (yielded ++ Ok node ∷ [])) (sym did.queued)
              (expansions_entered g eq (contains eq t.visited) did.rest node did.id did.neighbors (listed_nodes g implemented start_nodes node did.neighbor_list did.neighbors may did.listed here) implemented.complete.apart was_yielded
              before refl (item_id_on_top g implemented start_nodes did.rest node did.id before did.is_node.1) (sym did.fresh) did.updates.0);
        }

    -- a failed item is emitted in order
    failed_given : (error : E) (t : DepthFirstOk T ID E F N) → t.id_fn ≡ s.id_fn → t.visited ≡ s.visited → t.neighbors_fn ≡ s.neighbors_fn
        → Fails finds ids eq node_of s.id_fn s.visited s.work.items error t.work.items
        → IsLeftOfItems ids lists eq becomes steps id_fn neighbors_fn starts (yielded ++ Err error ∷ []) t
    failed_given error t kept same_visited same_neighbors did = record {
      same_ids = kept ∙ left.same_ids;
      expansions = left.expansions;
      in_turn = rw same_neighbors left.in_turn;
      expanded = left.expanded ∙ sym (ok_items-append yielded (Err error ∷ []) ∙ append-nil (ok_items yielded));
      walks = λ g implemented start_nodes.
          let before = top_is g implemented start_nodes t.work.items did.item (Err error) (items_left_after g implemented start_nodes (t.work.items ++ did.item ∷ []) did.passes) did.failed in
          subst (λ v. IsWalkingExpansions g (contains eq v) left.expansions starts t.work.items (yielded ++ Err error ∷ [])) (sym same_visited) (expansions_failed g t.work.items error before refl);
    }

    -- if only visited nodes are pending, the search is complete
    all_items_yielded : Passes finds ids eq node_of s.id_fn s.visited s.work.items [] → IsRun eq ids lists (DrainsTo becomes steps) id_fn neighbors_fn starts yielded
    all_items_yielded k = record {
      expansions = left.expansions;
      last = s.neighbors_fn;
      in_turn = left.in_turn;
      expanded = left.expanded;
      preorder = λ g implemented start_nodes.
          let whole = items_left_after g implemented start_nodes [] k in
          (whole.has_items, walked_items g (expansions_graph g.node left.expansions) (whole.walking _ whole.has_items) refl);
    }

  -- one call of `next`, which returns the item of the step
  pub step_of_items : (t : DepthFirstOk T ID E F N) (can : S → Type 0) (count : S → Count) (r : Option (Result T (WalkError E))) → t.id_fn ≡ s.id_fn → IsWalkable ids lists (IsFiniteIterable becomes can count) t.id_fn t.neighbors_fn
      → (s.work.items ≡ [] → IsNone r)
      → IfNone r (Passes finds ids eq node_of s.id_fn s.visited s.work.items [] × (t.work.items ≡ []) × (t.visited ≡ s.visited) × (t.neighbors_fn ≡ s.neighbors_fn))
      → IfSome r (λ item. IfOk item (λ node. Enters finds ids eq node_of s.id_fn s.visited lists becomes steps s.work.items s.neighbors_fn node t.work.items t.visited t.neighbors_fn))
      → IfSome r (λ item. IfErr item (λ failure. IfNode failure (λ error.
      Fails finds ids eq node_of s.id_fn s.visited s.work.items error t.work.items × (t.visited ≡ s.visited) × (t.neighbors_fn ≡ s.neighbors_fn))))
      → IfSome r (λ item. IfErr item (λ failure. IfMemory failure (t.work.items ≡ [])))
      → Steps ids lists eq becomes steps can count s r t
  step_of_items t can count None kept again ended none node failed failure = record {
    walks = λ f n starts yielded k. (all_items_yielded f n starts yielded k none.0, none.1);
    again = again;
    ends = none.1;
    ended = λ e. (refl, none.1);
  }
  step_of_items t can count (Some (Ok x)) kept again ended none node failed failure = record {
    walks = λ f n starts yielded k. item_yielded f n starts yielded k x t kept node;
    again = again;
    ends = tt;
    ended = λ e. absurd (true≢false (ended e));
  }
  step_of_items t can count (Some (Err Memory)) kept again ended none node failed failure = record {
    walks = λ f n starts yielded k. failure;
    again = again;
    ends = failure;
    ended = λ e. absurd (true≢false (ended e));
  }
  step_of_items t can count (Some (Err (Node error))) kept again ended none node failed failure = record {
    walks = λ f n starts yielded k. failed_given f n starts yielded k error t kept failed.1 failed.2 failed.0;
    again = again;
    ends = tt;
    ended = λ e. absurd (true≢false (ended e));
  }
