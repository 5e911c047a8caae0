-- The state of a search for heads, and its result once the starts were taken.
-- Machinery of private functions and fields.
use Rattle.std.specs.Prelude.{◌≡◌, ℕ, ◌==◌, Bool, true, false, List, [], ◌∷◌, ◌++◌, map, MatchBool, Option, Result, IfOk}
use Rattle.std.specs.declared.result.Result.TheVariants.{Ok}
use Rattle.std.specs.Set.{is_member}
use Rattle.std.specs.List.{Contains, list_any}
use Rattle.jj_dag.specs.declared.walk_error.WalkError.{WalkError}
use Rattle.jj_dag.specs.ClosureGraph.{ClosureGraph}
use Rattle.jj_dag.specs.Graph.{ReachedFrom}
use Rattle.jj_dag.specs.Found.{AreHeads}
use Rattle.jj_dag.specs.NodeSets.{Updates}
use Rattle.jj_dag.specs.Outcomes.{IfFails}
use Rattle.jj_dag.specs.Walk.{AreNodes, DrainsTo, GraphModel, IsEqualityOfNodes}

module _ {T ID : Type 0} (w : GraphModel T ID) where
  -- ids of nodes are equal exactly if they are of one node, and `is_id` relates a node only to its
  -- ids
  pub record ReturnsNodeIds (eq : ID → ID → Bool) (is_id : T → ID → Type 0) : Type 0 where
    pub apart : (i j : ID) → w.is_node (w.id i) ≡ true → w.is_node (w.id j) ≡ true
        → eq i j ≡ (w.id i == w.id j)
    pub ids_match : (x : T) (i : ID) → w.is_node (w.node x) ≡ true → is_id x i → w.id i ≡ w.node x

  -- the starts are the heads, their ids are known, and they are queued
  pub record IsStarted (starts : List ℕ) (keys : List T) (in_heads : T → Bool) (test : ID → Bool)
      (queue : List ℕ) : Type 0 where
    pub keys_are_nodes : (x : T) → Contains keys x → w.is_node (w.node x) ≡ true
    pub heads : (x : T) → w.is_node (w.node x) ≡ true
        → in_heads x ≡ list_any (λ a. w.node x == a) starts
    pub knows : (i : ID) → w.is_node (w.id i) ≡ true → test i ≡ list_any (λ a. w.id i == a) starts
    pub queued : (a : ℕ) → Contains queue a → Contains starts a
    pub all : (a : ℕ) → Contains starts a → Contains queue a

module _ {T ID : Type 0} (same : T → T → Bool) (eq : ID → ID → Bool) where
  -- the starts that an iterator of this value yields were taken
  pub record TakesStarts {E U I : Type 0} (is_id : T → ID → Type 0) (becomes : U → I → Type 0)
      (steps : I → Option (Result T E) → I → Type 0) (value : U) (heads : List T)
      (visited : List ID) (queue : List T) : Type 0 where
    pub nodes : List T
    pub drained : DrainsTo becomes steps value (map Ok nodes)
    pub queued : (x : T) → Contains queue x → Contains nodes x
    pub started : (walk : GraphModel T ID) → ReturnsNodeIds walk eq is_id
        → IsEqualityOfNodes walk same
        → AreNodes walk (map walk.node nodes)
        → IsStarted walk (map walk.node nodes) heads (is_member same heads)
        (is_member eq visited) (map walk.node queue)

  -- the neighbor x of this id is no head, and is queued if its id is new
  pub record VisitsNeighbor (x : T) (i : ID) (heads heads2 : List T)
      (visited visited2 : List ID) (queue queue2 : List T) : Type 0 where
    pub keys : (y : T) → Contains heads2 y → Contains heads y
    pub leaves : Updates same heads heads2 x false
    pub visits : Updates eq visited visited2 i true
    pub known : is_member eq visited i ≡ true → queue2 ≡ queue
    pub new : is_member eq visited i ≡ false → queue2 ≡ queue ++ x ∷ []

  -- the neighbors of a list, with these ids, were visited one after the other
  pub data VisitsNeighbors (is_id : T → ID → Type 0) (heads : List T) (visited : List ID)
      (queue : List T) : List T → List T → List ID → List T → Type 0 where
    none : VisitsNeighbors is_id heads visited queue [] heads visited queue
    more : {xs queue2 queue3 : List T} {heads2 heads3 : List T}
        {visited2 visited3 : List ID} (x : T) (i : ID)
        → VisitsNeighbors is_id heads visited queue xs heads2 visited2 queue2 → is_id x i
        → VisitsNeighbor x i heads2 heads3 visited2 visited3 queue2 queue3
        → VisitsNeighbors is_id heads visited queue (xs ++ x ∷ []) heads3 visited3 queue3

  -- the neighbors that an iterator of this value yields were visited, and `empty` is whether there
  -- was none
  pub record VisitsAll {E U I : Type 0} (is_id : T → ID → Type 0) (becomes : U → I → Type 0)
      (steps : I → Option (Result T E) → I → Type 0) (value : U) (heads heads2 : List T)
      (visited visited2 : List ID) (queue queue2 : List T) (empty : Bool) : Type 0 where
    pub nodes : List T
    pub drained : DrainsTo becomes steps value (map Ok nodes)
    pub met : VisitsNeighbors is_id heads visited queue nodes heads2 visited2 queue2
    pub none : MatchBool empty (nodes ≡ []) ((x : T) × Contains nodes x)

module _ {T ID E : Type 0} (same : T → T → Bool) (eq : ID → ID → Bool)
    (graph : ClosureGraph T ID E) (heads : List T) (visited : List ID) (queue : List T)
  where
    -- P of each model that the closures implement, and of starts that were taken so
    abbrev pub FromStarted : (GraphModel T ID → List ℕ → Type 0) → Type 0
    FromStarted P = (walk : GraphModel T ID) (xs : List T) → graph.implements walk
        → AreNodes walk (map walk.node xs) → ((x : T) → Contains queue x → Contains xs x)
        → (IsEqualityOfNodes walk same → IsStarted walk (map walk.node xs) heads
        (is_member same heads) (is_member eq visited) (map walk.node queue))
        → P walk (map walk.node xs)

    -- the heads are left, or the closures returned this error for a node that the starts reach
    pub record LeavesHeads {V : Type 0} (r : Result V (WalkError E)) (left : List T)
        : Type 0 where
      pub found : IfOk r (λ _. FromStarted (λ walk nodes. AreHeads same walk nodes left))
      pub error : IfFails r (λ error. (x : T) × graph.fails x error
          × FromStarted (λ walk nodes. ReachedFrom walk.graph nodes (walk.node x)))
