-- Lemmas about the depth-first search that collects nodes.
use Rattle.std.proofs.Common.{◌≡◌, ℕ, ◌+◌, ◌<◌, get_or, take, Bool, true, List, [], ◌∷◌, ◌++◌, map, length, Option, Some, Result, Ok, cond, refl, sym, ◌∙◌, ap, arith}
use Rattle.std.specs.Fn.{CalledAt, Mut, Shared}
use Rattle.std.specs.Global.{Global}
use Rattle.std.specs.Iterator.{IsFiniteIterable}
use Rattle.std.specs.List.{AllZip, Contains}
use Rattle.std.proofs.lemmas.List.{length-map, length_push, map_push, take_more}
use Rattle.std.proofs.lemmas.List.Elements.{Contains-append_right}
use Rattle.std.specs.declared.iter.IntoIterator as into
use Rattle.std.specs.declared.iter.Iterator as iter
use Rattle.std.specs.declared.vec.Vec.{Vec}
use denote.Ref.{Bor}
use denote.Param.Always.{always_mut}
use Rattle.jj_dag.specs.declared.greatest_order.IndexedGraph.{IndexedGraph}
use Rattle.jj_dag.specs.declared.closures.Closures.{Closures}
use Rattle.jj_dag.specs.Collecting.{IsFilled}
use Rattle.jj_dag.specs.Expanding.{StillImplements, graph_at, whole}
use Rattle.jj_dag.specs.ClosureGraph.{CallsLead, IsWalkable}
use Rattle.jj_dag.specs.ClosureGraph.CallsLead.{none, more as one_more}
use Rattle.std.specs.declared.alloc.AllocError.{AllocError}
use Rattle.jj_dag.proofs.ClosureGraphs.{implements_after, may_return_later}
use Rattle.jj_dag.proofs.GreatestOrder.{map_twice}
use Rattle.jj_dag.specs.Graph.{Graph, ReachedFrom}
use Rattle.jj_dag.specs.Walk.{AreNodes, GraphModel}
use Rattle.jj_dag.proofs.Collecting.{indices_more}
use Rattle.jj_dag.proofs.Reaching.{Reaches-trans}
use Rattle.jj_dag.proofs.Walking.{AlwaysReturns-call}

module _ {T ID E F N U J : Type 0} (eq : ID → ID → Bool) (ids : Shared F (Bor T × Unit {0}) (Result ID AllocError)) (lists : Mut N (Bor T × Unit {0}) U) (value : into.Ghosts U (Result T E) J)
    (items : iter.Ghosts J (Result T E)) where
  -- closures that have not been called
  pub implements-none : (s : Closures F N) → IsWalkable ids lists (IsFiniteIterable value.into_iter_gives items.can_next items.remaining) s.id_fn s.neighbors_fn → StillImplements eq ids lists value items s s
  implements-none s k = record { id_fn = refl; walkable = k; calls = none; implemented = λ walk q. q }

  -- one call more
  pub implements-call : (s t u : Closures F N) {x : T} {r : U} → StillImplements eq ids lists value items s t → u.id_fn ≡ t.id_fn → always_mut lists u.neighbors_fn
      → CalledAt lists t.neighbors_fn x r u.neighbors_fn → StillImplements eq ids lists value items s u
  implements-call s t u k same callable did = record {
    id_fn = same ∙ k.id_fn;
    walkable = record { id_fn = rw same k.walkable.id_fn; neighbors_fn = callable; lists = (AlwaysReturns-call lists _ k.walkable.lists did.called).1 };
    calls = one_more k.calls did.called;
    implemented = λ walk q. (implements_after walk eq ids lists _ (k.implemented walk q) did).0;
  }

  leads_through : {first f f' : N} → CallsLead lists first f → CallsLead lists f f' → CallsLead lists first f'
  leads_through k none = k
  leads_through k (one_more before called) = one_more (leads_through k before) called

  -- more calls
  pub implements-more : (s t u : Closures F N) → StillImplements eq ids lists value items s t → StillImplements eq ids lists value items t u → StillImplements eq ids lists value items s u
  implements-more s t u first second = record {
    id_fn = second.id_fn ∙ first.id_fn;
    walkable = second.walkable;
    calls = leads_through first.calls second.calls;
    implemented = λ walk q. rw first.id_fn at (second.implemented walk (rw first.id_fn (first.implemented walk q)));
  }

  -- a result that is possible after calls is possible
  pub fails_before : (s t : Closures F N) → StillImplements eq ids lists value items s t → (x : T) (e : E) → (graph_at eq ids lists value items t.id_fn t.neighbors_fn).fails x e
      → (graph_at eq ids lists value items s.id_fn s.neighbors_fn).fails x e
  fails_before s t k x e (r, may, fails) = (r, may_return_later k.calls may, fails)

-- a model's list of a node, as items
pub whole_listed : {T ID : Type 0} (walk : GraphModel T ID) (a : ℕ) (xs : List T) → map walk.node xs ≡ walk.graph a → whole walk a ≡ map (λ x. Ok (walk.node x)) xs
whole_listed walk a xs e = ap (map (λ b. Ok b)) (sym e) ∙ map_twice (λ (b : ℕ). Ok b) walk.node xs

-- one more node is collected
pub filled_more : {T ID : Type 0} (eq : ID → ID → Bool) (find find2 : ID → Option ℕ) (s t : IndexedGraph T ID) (node : T) (id : ID) (kept : Vec ID Global) (filled : IsFilled find s) → t.nodes.items ≡ s.nodes.items ++ Some node ∷ []
    → t.neighbor_ids.items ≡ s.neighbor_ids.items ++ kept ∷ [] → ((i : ID) → find2 i ≡ cond (eq id i) (Some (length s.nodes.items)) (find i))
    → (more : IsFilled find2 t) × (more.visited ≡ filled.visited ++ node ∷ [])
filled_more eq find find2 s t node id kept filled nodes lists indices = (
  record {
    visited = filled.visited ++ node ∷ [];
    nodes = nodes ∙ ap (λ l. l ++ Some node ∷ []) filled.nodes ∙ sym (map_push (λ x. Some x) filled.visited node);
    ids = ap length lists ∙ length_push s.neighbor_ids.items kept ∙ ap (λ n. n + 1) filled.ids ∙ sym (length_push filled.visited node);
    indices = λ i k found. rw (length_push filled.visited node)
        (indices_more eq find find2 id (length filled.visited) (length s.nodes.items) filled.indices (ap length filled.nodes ∙ length-map filled.visited (λ x. Some x)) indices i k found);
  },
  refl,
)

-- two lists agree item by item, and so do they with one more
pub zip-push : {A B : Type 0} (R : A → B → Type 0) (xs : List A) (ys : List B) (x : A) (y : B) → AllZip R xs ys → R x y → AllZip R (xs ++ x ∷ []) (ys ++ y ∷ [])
zip-push R [] [] x y k r = (r, tt)
zip-push R [] (b ∷ ys) x y k r = absurd k
zip-push R (a ∷ xs) [] x y k r = absurd k
zip-push R (a ∷ xs) (b ∷ ys) x y k r = (k.0, zip-push R xs ys x y k.1 r)

-- one more id was returned
pub told_more : {T ID : Type 0} (is_id : T → ID → Type 0) (nodes : List T) (n : ℕ) (ids more : List ID) (node : T) (id : ID) → n < length nodes → node ≡ get_or nodes n node → is_id node id
    → AllZip is_id (take n nodes) ids → more ≡ ids ++ id ∷ [] → AllZip is_id (take (n + 1) nodes) more
told_more is_id nodes n ids more node id lt at told before pushed = rw (take_more nodes n node lt, sym at, pushed) (zip-push is_id (take n nodes) ids node id before told)

-- ids that the closure returned for nodes are theirs
pub ids_told : {T ID : Type 0} (w : GraphModel T ID) (is_id : T → ID → Type 0) → ((x : T) (i : ID) → w.is_node (w.node x) ≡ true → is_id x i → w.id i ≡ w.node x)
    → (xs : List T) (is : List ID) → AllZip is_id xs is → AreNodes w (map w.node xs) → map w.id is ≡ map w.node xs
ids_told w is_id stand [] [] told nodes = refl
ids_told w is_id stand [] (i ∷ is) told nodes = absurd told
ids_told w is_id stand (x ∷ xs) [] told nodes = absurd told
ids_told w is_id stand (x ∷ xs) (i ∷ is) told nodes =
    ap (λ n. n ∷ map w.id is) (stand x i (nodes (w.node x) (0, omega arith, refl)) told.0)
    ∙ ap (λ l. w.node x ∷ l) (ids_told w is_id stand xs is told.1 (λ a h. nodes a (Contains-append_right (w.node x ∷ []) (map w.node xs) a h)))

-- nodes that reached nodes reach are reached
pub reached_through : (g : Graph) (starts left : List ℕ) → ((b : ℕ) → Contains left b → ReachedFrom g starts b) → (a : ℕ) → ReachedFrom g left a → ReachedFrom g starts a
reached_through g starts left through a (s, at, (n, p)) =
    let first = through s at in
    (first.0, first.1, Reaches-trans g first.0 s a first.2.0 first.2.1 (n, p))
