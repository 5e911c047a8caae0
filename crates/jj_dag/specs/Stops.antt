-- The result of a postorder walk, and its errors.
-- Machinery of private functions and fields.
use Rattle.std.specs.Prelude.{◌≡◌, ℕ, Bool, false, List, map, Result, IfOk, IfErr}
use Rattle.std.specs.Global.{Global}
use Rattle.std.specs.declared.vec.Vec.{Vec}
use Rattle.jj_dag.specs.ClosureGraph.{ClosureGraph, InEachModel, IsInputError, Listing}
use Rattle.jj_dag.specs.Graph.{OnCycleFrom, ReachedFrom}
use Rattle.jj_dag.specs.Orders.{IsWholePostorder}
use Rattle.jj_dag.specs.Walk.{AreNodes, GraphModel}
use Rattle.jj_dag.specs.declared.forward.Stop.{Stop}
use Rattle.jj_dag.specs.declared.forward.Stop.TheVariants.{Memory, Failed, Cycle}

-- P of the error of the failed item, if it is one
abbrev pub IfFailed : {T E : Type 0} → Stop T E → (E → Type 0) → Type 0
IfFailed Memory P = Unit {0}
IfFailed (Failed e) P = P e
IfFailed (Cycle x) P = Unit {0}

-- P of the node on a cycle, if it is one
abbrev pub IfCycle : {T E : Type 0} → Stop T E → (T → Type 0) → Type 0
IfCycle Memory P = Unit {0}
IfCycle (Failed e) P = Unit {0}
IfCycle (Cycle x) P = P x

module _ {T ID E : Type 0} (graph : ClosureGraph T ID E) where
  -- the whole postorder; where the walk stopped at an error, it is one of the input; where it
  -- stopped at a node on a cycle, the starts reach that node
  pub record WalksForward (start : Listing T E) (r : Result (Vec T Global) (Stop T E)) : Type 0
    where
      pub order : IfOk r (λ v. InEachModel graph start (λ walk nodes.
          IsWholePostorder walk.graph nodes (map walk.node v.items)))
      pub failed : IfErr r (λ stop. IfFailed stop (IsInputError graph start))
      pub cycle : IfErr r (λ stop. IfCycle stop (λ x. InEachModel graph start (λ walk nodes.
          OnCycleFrom walk.graph nodes (walk.node x))))

  module _ (stack : List (T × Bool)) where
    -- P of each model that the closures implement, and of the nodes on the stack, none of which was
    -- entered
    abbrev pub FromStack : (GraphModel T ID → List ℕ → Type 0) → Type 0
    FromStack P = (xs : List T) → stack ≡ map (λ x. (x, false)) xs
        → (walk : GraphModel T ID) → graph.implements walk → AreNodes walk (map walk.node xs)
        → P walk (map walk.node xs)

    -- a walk from such a stack
    pub record UnwindsFrom (r : Result (Vec T Global) (Stop T E)) : Type 0 where
      pub order : IfOk r (λ v. FromStack (λ walk nodes.
          IsWholePostorder walk.graph nodes (map walk.node v.items)))
      pub failed : IfErr r (λ stop. IfFailed stop (λ error. (x : T) × graph.fails x error
          × FromStack (λ walk nodes. ReachedFrom walk.graph nodes (walk.node x))))
      pub cycle : IfErr r (λ stop. IfCycle stop (λ x. FromStack (λ walk nodes.
          OnCycleFrom walk.graph nodes (walk.node x))))
