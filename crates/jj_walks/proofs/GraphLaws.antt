-- Laws of walks over a graph of which no node fails.
use Rattle.std.proofs.Common.{◌≡◌, ◌++◌, inl, inr, ℕ, Bool, false, List, [], ◌∷◌, map, reverse, Option, None, Some, Result, Ok, Err, refl, sym, ◌∙◌, ap, subst, ⊎_elim, eqb, append_assoc}
use Rattle.std.specs.Global.{Global}
use Rattle.std.specs.HashSet.{HashSet}
use Rattle.std.specs.Fn.{Shared, Mut}
use Rattle.std.specs.Iterator.{Count, Drains, Yields}
use Rattle.std.specs.declared.alloc.AllocError.{AllocError}
use Rattle.std.specs.declared.iter.IntoIterator as into
use Rattle.std.specs.declared.iter.Iterator as iter
use denote.Ref.{Bor}
use Rattle.std.specs.List.{Contains, IsDistinct}
use Rattle.std.specs.declared.cmp.Ordering.{Ordering}
use Rattle.std.specs.declared.vec.Vec.{Vec}
use Rattle.std.proofs.lemmas.List.{reverse-append, reverse-reverse}
use Rattle.smallvec.specs.SmallVec.{SmallVec}
use Rattle.jj_dag.specs.ClosureGraph.{ClosureGraph, InEachModel, InEachModelOfTwo, IsCycleError, IsInputError, IsMadeBesideCycle, IsNeighborsError, Listing}
use Rattle.jj_dag.specs.FallibleGraphs.{FailsAfterNodes, ok_items}
use Rattle.jj_dag.specs.Graph.{Graph, HasEdge, IsAcyclicFrom, IsPostorder, IsPreorder, IsTopologicalOrder, ReachedFrom}
use Rattle.jj_dag.specs.Orders.{IsWholePostorder}
use Rattle.jj_dag.specs.Walk.{AreNodes, DrainsTo, GraphModel}
use Rattle.jj_dag.specs.declared.walk_error.WalkError.{WalkError}
use Rattle.jj_dag.specs.declared.walk_error.WalkError.TheVariants.{Node}
use Rattle.jj_walks.specs.declared.depth_first.DepthFirst.{DepthFirst}
use Rattle.jj_walks.specs.declared.depth_first.DepthFirstOk.{DepthFirstOk}
use Rattle.jj_walks.specs.declared.topo_order_lazy.TopoOrderReverseLazy.{TopoOrderReverseLazy}
use Rattle.jj_dag.proofs.Errors.{if_fails, if_ok}
use Rattle.jj_dag.proofs.GreatestOrders.{greatest_numbers}
use Rattle.jj_dag.proofs.Plain.{nothing}
use Rattle.jj_dag.proofs.Postorders.{Postorder-once, Postorder-reached, from_reverse}
use Rattle.jj_dag.proofs.Reaching.{Contains-in_reverse, Contains-postorder, Postorder-gives}
use Rattle.jj_dag.proofs.ReadyOrders.{distinct, twice}
use Rattle.jj_walks.specs.Expansions.{item_of}
use Rattle.jj_walks.specs.GraphLaws.{ChunkIsNext, ClosestAreMaximal, DefinesGraph, HeadsAreMaximal, OkOrderIsTopological, OkReverseIsTopological, OrderIsGreatest, OrderIsTopological, PlainHeadsAreMaximal, ReverseIsTopological, YieldsStarts, YieldsOkPreorder, YieldsPreorder, YieldsTopologicalOrder}
use Rattle.jj_walks.specs.LazySteps.{FailsNext, Steps as LazySteps}
use Rattle.jj_walks.proofs.DfsOkRuns.{IsRun-from_drains, as_walk_item, none_failed, preorder_without_error, ok_numbers}
use Rattle.jj_walks.proofs.DfsRuns.{IsPreorder-from_drains}
use Rattle.jj_walks.proofs.Expanding.{first_or_rest}
use Rattle.jj_walks.proofs.LazyOrders.{ended_order}
use Rattle.jj_walks.proofs.LazyRuns.{IsTopologicalOrder-from_drains}

-- ---- the reverse of a postorder

split_reversed : (order front back : List ℕ) (a : ℕ) → reverse order ≡ front ++ a ∷ back → order ≡ reverse back ++ a ∷ reverse front
split_reversed order front back a e =
    sym (reverse-reverse order) ∙ ap reverse e ∙ reverse-append front (a ∷ back)
    ∙ ap (λ l. l ++ reverse front) (reverse-append (a ∷ []) back) ∙ append_assoc (reverse back) (a ∷ []) (reverse front)

module _ (g : Graph) (starts order : List ℕ) (postorder : IsPostorder g starts order) (acyclic : IsAcyclicFrom g starts) where
  turned : (a : ℕ) → ReachedFrom g (reverse starts) a → ReachedFrom g starts a
  turned a (s, at, r) = (s, from_reverse starts s at, r)

  once : IsDistinct eqb order
  unfolding IsDistinct
  once = Postorder-once g (reverse starts) [] order (λ a r. acyclic a (turned a r)) postorder tt

  reached : (a : ℕ) → Contains (reverse order) a → ReachedFrom g starts a
  reached a h = ⊎_elim (λ old. absurd (nothing a old)) (turned a) (Postorder-reached g (reverse starts) [] order postorder a (from_reverse order a h))

  no_repeat : (front back : List ℕ) (a : ℕ) → reverse order ≡ front ++ a ∷ back → Contains front a → ⊥
  no_repeat front back a e h = twice order (reverse back) (reverse front) a once (split_reversed order front back a e) (Contains-in_reverse front a h)

  begins : (front back : List ℕ) (x : ℕ) → [] ≡ front ++ x ∷ back → (y : ℕ) → HasEdge g x y → Contains front y
  begins [] back x e y edge = absurd cc
  begins (z ∷ front) back x e y edge = absurd cc

  pub reversed_postorder : IsTopologicalOrder g starts (reverse order)
  reversed_postorder = ended_order g starts (reverse order)
      (record { reached = reached; repeated = λ front back a e h. absurd (no_repeat front back a e h) })
      (record {
        starts_visited = λ a h. inl (Contains-in_reverse order a (Contains-postorder g starts order postorder a (a, h, (0, refl))));
        left_reached = λ a h. absurd (nothing a h);
        forward = λ front back a b e edge. inl (from_reverse back b ((Postorder-gives g (reverse starts) [] order begins postorder).0 (reverse back) (reverse front) a (split_reversed order front back a e) b edge));
        above = λ a b h none. absurd (nothing b none);
      })
      (distinct (reverse order) no_repeat)

-- ---- closures that define a graph

module _ {T ID E : Type 0} {graph : ClosureGraph T ID E} {start : Listing T E} {g : GraphModel T ID} {starts : List ℕ} (yields : YieldsStarts g start starts) where
  -- a property of each model is one of the graph
  pub in_graph : {P : GraphModel T ID → List ℕ → Type 0} → DefinesGraph g graph starts → InEachModel graph start P → P g starts
  in_graph {P} defines k =
      let same = yields.yields k.starts k.yielded in
      subst (λ (l : List ℕ). P g l) same (k.holds g defines.implements (subst (λ (l : List ℕ). AreNodes g l) (sym same) yields.nodes))

  -- nothing fails
  pub no_neighbors_error : {e : E} → DefinesGraph g graph starts → IsNeighborsError graph start e → ⊥
  no_neighbors_error {e} defines k = defines.never_fails k.node e (in_graph defines k.reached) k.fails

  pub no_input_error : {e : E} → DefinesGraph g graph starts → IsInputError graph start e → ⊥
  no_input_error {e} defines (inl failed) = yields.never_fails e failed
  no_input_error defines (inr failed) = no_neighbors_error defines failed

  -- no error is made of a node beside a cycle
  no_cycle_error : {e : E} {made : T → E → Type 0} → DefinesGraph g graph starts → IsAcyclicFrom g.graph starts → IsMadeBesideCycle made graph start e → ⊥
  no_cycle_error defines acyclic k = let q = in_graph defines k.holds in let cycle = q.1 in acyclic cycle.0 cycle.1.0 cycle.1.1

  -- nor of a node on one
  no_cycle_here : {K : Type 0} {e : K} {made : T → K → Type 0} → DefinesGraph g graph starts → IsAcyclicFrom g.graph starts → IsCycleError made graph start e → ⊥
  no_cycle_here defines acyclic k = let q = in_graph defines k.on_cycle in acyclic (g.node k.node) q.0 q.1

-- the reverse of nodes in postorder
turned_postorder : {T ID : Type 0} (g : GraphModel T ID) (starts : List ℕ) (xs : List T) → IsWholePostorder g.graph starts (reverse (map g.node xs)) → IsTopologicalOrder g.graph starts (map g.node xs)
turned_postorder g starts xs whole =
    subst (λ (l : List ℕ). IsTopologicalOrder g.graph starts l) (reverse-reverse (map g.node xs)) (reversed_postorder g.graph starts (reverse (map g.node xs)) whole.postorder whole.no_cycle)

-- a property of each model of two sets is one of the graph
pub in_graph_of_two : {T ID E : Type 0} {graph : ClosureGraph T ID E} {first second : Listing T E} {g : GraphModel T ID} {set1 set2 : List ℕ} {P : GraphModel T ID → List ℕ → List ℕ → Type 0}
    → YieldsStarts g first set1 → YieldsStarts g second set2 → graph.implements g → InEachModelOfTwo graph first second P → P g set1 set2
in_graph_of_two {g = g} {set1} {set2} {P} first second implemented k =
    let same1 = first.yields k.set1 k.yielded1 in
    let same2 = second.yields k.set2 k.yielded2 in
    subst (λ (l : List ℕ). P g l set2) same1
    (subst (λ (l : List ℕ). P g (map g.node k.set1) l) same2
    (k.holds g implemented (subst (λ (l : List ℕ). AreNodes g l) (sym same1) first.nodes) (subst (λ (l : List ℕ). AreNodes g l) (sym same2) second.nodes)))

module _ {T ID E : Type 0} (graph : ClosureGraph T ID E) (start : Listing T E) where
  pub order_is_greatest : (cmp : T → T → Ordering) (made : T → E → Type 0) (r : Result (Vec T Global) (WalkError E)) → OrderIsGreatest graph start cmp made r
  order_is_greatest cmp made r order error g starts defines yields acyclic = (
    if_ok r order (λ v k. let greatest = in_graph yields defines k in (greatest, greatest_numbers cmp g starts v.items greatest)),
    if_fails r error (λ e. ⊎_elim (no_input_error yields defines) (no_cycle_error yields defines acyclic)),
  )

  pub order_is_topological : {K : Type 0} (made : T → K → Type 0) (r : Result (Vec T Global) (WalkError K)) → OrderIsTopological graph start made r
  order_is_topological made r order cycle g starts defines yields acyclic = (
    if_ok r order (λ v k. let whole = in_graph yields defines k in reversed_postorder g.graph starts (map g.node v.items) whole.postorder whole.no_cycle),
    if_fails r cycle (λ e k. no_cycle_here yields defines acyclic k),
  )

  pub reverse_is_topological : {K : Type 0} (made : T → K → Type 0) (r : Result (Vec T Global) (WalkError K)) → ReverseIsTopological graph start made r
  reverse_is_topological made r order cycle g starts defines yields acyclic = (
    if_ok r order (λ v k. turned_postorder g starts v.items (in_graph yields defines k)),
    if_fails r cycle (λ e k. no_cycle_here yields defines acyclic k),
  )

  pub ok_order_is_topological : (made : T → E → Type 0) (r : Result (Vec T Global) (WalkError E)) → OkOrderIsTopological graph start made r
  ok_order_is_topological made r order error g starts defines yields acyclic = (
    if_ok r order (λ v k. let whole = in_graph yields defines k in reversed_postorder g.graph starts (map g.node v.items) whole.postorder whole.no_cycle),
    if_fails r error (λ e. ⊎_elim (no_input_error yields defines) (no_cycle_here yields defines acyclic)),
  )

  pub ok_reverse_is_topological : (made : T → E → Type 0) (r : Result (Vec T Global) (WalkError E)) → OkReverseIsTopological graph start made r
  ok_reverse_is_topological made r order error g starts defines yields acyclic = (
    if_ok r order (λ v k. turned_postorder g starts v.items (in_graph yields defines k)),
    if_fails r error (λ e. ⊎_elim (no_input_error yields defines) (no_cycle_here yields defines acyclic)),
  )

  pub plain_heads_are_maximal : {S : Type 0} (eq : T → T → Bool) (r : Result (HashSet T S) AllocError) → PlainHeadsAreMaximal graph start eq r
  plain_heads_are_maximal eq r heads g starts defines yields acyclic stands = if_ok r heads (λ v k. in_graph yields defines k acyclic stands)

  pub heads_are_maximal : {S : Type 0} (eq : T → T → Bool) (r : Result (HashSet T S) (WalkError E)) → HeadsAreMaximal graph start eq r
  heads_are_maximal eq r heads error g starts defines yields acyclic stands = (
    if_ok r heads (λ v k. in_graph yields defines k acyclic stands),
    if_fails r error (λ e k. no_input_error yields defines k),
  )

  pub closest_are_maximal : (second : Listing T E) (r : Result (Vec T Global) (WalkError E)) → ClosestAreMaximal graph start second r
  closest_are_maximal second r closest error g set1 set2 defines first later acyclic = (
    if_ok r closest (λ v k. in_graph_of_two first later defines.implements k acyclic),
    if_fails r error (λ e k. defines.never_fails k.node e (in_graph_of_two first later defines.implements k.reached) k.fails),
  )

  pub chunk_is_next : (made : T → E → Type 0) (left : List T) (r : Result (SmallVec T) (WalkError E)) → ChunkIsNext graph start made left r
  chunk_is_next made left r chunk error g starts defines yields acyclic = (
    if_ok r chunk (λ v k. in_graph yields defines k),
    if_fails r error (λ e. ⊎_elim (no_neighbors_error yields defines) (no_cycle_error yields defines acyclic)),
  )

-- ---- whole runs

end_is_no_error : {T E : Type 0} (r : Option (Result T E)) (e : E) → r ≡ None → r ≡ Some (Err e) → ⊥
end_is_no_error r e ended failed = absurd cc

ok_is_no_error : {T E : Type 0} (r : Option (Result T E)) (x : T) (e : E) → r ≡ Some (Ok x) → r ≡ Some (Err e) → ⊥
ok_is_no_error r x e yielded failed = absurd cc

module _ {T ID E F N U S : Type 0} (ids : Shared F (Bor T × Unit {0}) (Result ID AllocError)) (lists : Mut N (Bor T × Unit {0}) U) (eq : ID → ID → Bool) (becomes : U → S → Type 0) (steps : S → Option T → S → Type 0)
    (can : S → Type 0) (left : S → Count) (graph : ClosureGraph T ID E) (start : Listing T E) where
  pub yields_preorder : (it : DepthFirst T ID F N) (yielded : List T) → YieldsPreorder ids lists eq becomes steps can left graph start it yielded
  yields_preorder it yielded k drains = record {
    starts = k.starts;
    yielded = k.yielded;
    holds = λ g implemented nodes. IsPreorder-from_drains ids lists g eq becomes steps can left (map g.node k.starts) yielded [] it (k.holds g implemented nodes) drains;
  }

-- a list that is drained and has an error fails at the first one
module _ {U S T E : Type 0} (becomes : U → S → Type 0) (steps : S → Option (Result T E) → S → Type 0) where
  first_error : (xs : List (Result T E)) (s t : S) → Yields steps s xs t → (e : E) → Contains xs (Err e) → (nodes : List T) × (failed : E) × (u : S) × Yields steps s (map (λ x. Ok x) nodes ++ Err failed ∷ []) u
  first_error [] s t run e h = absurd (nothing (Err e) h)
  first_error (Err x ∷ xs) s t (j, step, rest) e h = ([], x, j, (j, step, refl))
  first_error (Ok x ∷ xs) s t (j, step, rest) e h =
      let q = first_error xs j t rest e (⊎_elim (λ here. cc) (λ later. later) (first_or_rest (Ok x) xs (Err e) h)) in
      (x ∷ q.0, q.1, q.2, (j, step, q.3))

  pub drained_fails : (value : U) (xs : List (Result T E)) → DrainsTo becomes steps value xs → (e : E) → Contains xs (Err e) → (failed : E) × FailsAfterNodes becomes steps value failed
  drained_fails value xs (it, begins, (u, (t, run, last))) e h = let q = first_error xs it t run e h in (q.1, (q.0, (it, begins, (q.2, q.3))))

no_error_of : {T E : Type 0} (xs : List T) (e : E) → Contains (map {B = Result T E} (λ x. Ok x) xs) (Err e) → ⊥
no_error_of [] e h = nothing (Err e) h
no_error_of (x ∷ xs) e h = ⊎_elim (λ here. cc) (λ later. no_error_of xs e later) (first_or_rest (Ok x) (map (λ y. Ok y) xs) (Err e) h)

walk_items_ok : {T E : Type 0} (xs : List T) → map as_walk_item (map {B = Result T E} (λ x. Ok x) xs) ≡ map (λ x. Ok x) xs
walk_items_ok [] = refl
walk_items_ok (x ∷ xs) = ap (λ l. Ok x ∷ l) (walk_items_ok xs)

module _ {T ID E F N U S II I : Type 0} (ids : Shared F (Bor T × Unit {0}) (Result ID AllocError)) (lists : Mut N (Bor T × Unit {0}) U) (eq : ID → ID → Bool) (becomes : U → S → Type 0) (steps : S → Option (Result T E) → S → Type 0)
    (can : S → Type 0) (left : S → Count) (first : into.Ghosts II (Result T E) I) (first_items : iter.Ghosts I (Result T E)) (id_fn : F) (neighbors_fn : N) (start : II) where
  pub yields_ok_preorder : (it : DepthFirstOk T ID E F N) (yielded : List T) → YieldsOkPreorder ids lists eq becomes steps can left first first_items id_fn neighbors_fn start it yielded
  yields_ok_preorder it yielded k drains g starts implemented yields =
      let ok_items_yielded : List (Result T E) = map (λ x. Ok x) yielded in
      let run = IsRun-from_drains ids lists eq becomes steps can left id_fn neighbors_fn k.starts ok_items_yielded [] it k.whole (rw (walk_items_ok {E = E} yielded) drains) in
      let sound = none_failed k.starts (λ e h. let q = drained_fails first.into_iter_gives first_items.next_gives start k.starts k.yielded e h in yields.never_fails q.0 q.1) in
      let same : ok_items (map (item_of g.node) k.starts) ≡ starts =
      ap (λ (l : List (Result T E)). ok_items (map (item_of g.node) l)) sound.1 ∙ ok_numbers E g.node sound.0
      ∙ yields.yields sound.0 (subst (λ (l : List (Result T E)). DrainsTo first.into_iter_gives first_items.next_gives start l) sound.1 k.yielded) in
      let order = preorder_without_error eq ids lists (DrainsTo becomes steps) id_fn neighbors_fn k.starts ok_items_yielded run g implemented (subst (λ (l : List ℕ). AreNodes g l) (sym same) yields.nodes) (λ e h. no_error_of yielded e h) in
      subst (λ (l : List ℕ). IsPreorder g.graph l (map g.node yielded)) same (subst (λ (l : List ℕ). IsPreorder g.graph (ok_items (map (item_of g.node) k.starts)) l) (ok_numbers E g.node yielded) order)

module _ {T ID E F N C U J : Type 0} (eq : ID → ID → Bool) (ids : Shared F (Bor T × Unit {0}) (Result ID AllocError)) (lists : Mut N (Bor T × Unit {0}) U) (value : into.Ghosts U (Result T E) J) (items : iter.Ghosts J (Result T E))
    (cycles : Mut C (T × Unit {0}) E) (start : Listing T E) (id_fn : F) (neighbors_fn : N) (cycle_fn : C) where
  -- a run without an error does not begin where an error comes next
  no_failed_start : (it : TopoOrderReverseLazy T ID E F N C) (yielded : List T) (error : E) → it.has_ended ≡ false → FailsNext error it.order → Drains (LazySteps eq ids lists value items cycles) it (map (λ x. Ok x) yielded) → ⊥
  no_failed_start it [] error on next (u, (t, same, last)) =
      let Step : TopoOrderReverseLazy T ID E F N C → Type 0 = λ s. LazySteps eq ids lists value items cycles s None u in
      let first : Step it = subst Step (sym same) last in
      end_is_no_error None (Node error) refl (first.failed on error next)
  no_failed_start it (x ∷ yielded) error on next (u, (t, (j, first, rest), last)) =
      ok_is_no_error (Some (Ok x)) x (Node error) refl (first.failed on error next)

  pub yields_topological_order : (it : TopoOrderReverseLazy T ID E F N C) (yielded : List T) → YieldsTopologicalOrder eq ids lists value items cycles start id_fn neighbors_fn cycle_fn it yielded
  yields_topological_order it yielded k drains =
      ⊎_elim (λ (starts, listed, left).
      let all = IsTopologicalOrder-from_drains eq ids lists value items cycles yielded it k.has_ended left drains in
      record {
        starts = starts;
        yielded = listed;
        holds = λ g implemented. subst (λ (xs : List T). AreNodes g (map g.node xs) → IsTopologicalOrder g.graph (map g.node xs) (map g.node yielded) × IsAcyclicFrom g.graph (map g.node xs)) all.yielded (all.holds g implemented);
      }) (λ (error, failed, next). absurd (no_failed_start it yielded error k.has_ended next drains)) k.left
