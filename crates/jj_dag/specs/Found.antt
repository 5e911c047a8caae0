-- The results of searches for heads, and for the closest common nodes of two sets.
-- Cited by contracts of public items: AreClosestNodes, AreHeads.
use Rattle.std.specs.Prelude.{ℕ, Bool, List, map, Result, IfOk}
use Rattle.jj_dag.specs.declared.walk_error.WalkError.{WalkError}
use Rattle.jj_dag.specs.ClosureGraph.{ClosureGraph, InEachModelOfTwo, IsNeighborsErrorOfTwo, Listing}
use Rattle.jj_dag.specs.CommonNodes.{AreClosestCommon, HasNoCommonCycle}
use Rattle.jj_dag.specs.Graph.{IsAcyclicFrom, AreMaximalElements}
use Rattle.jj_dag.specs.Outcomes.{IfFails}
use Rattle.jj_dag.specs.Walk.{GraphModel, IsEqualityOfNodes}

-- where the starts reach no cycle, and equal values are one node, these are the maximal starts
abbrev pub AreHeads : {T ID : Type 0} → (T → T → Bool) → GraphModel T ID → List ℕ → List T → Type 0
AreHeads same walk starts heads = IsAcyclicFrom walk.graph starts → IsEqualityOfNodes walk same
    → AreMaximalElements walk.graph starts (map walk.node heads)

-- where no cycle is reached from both sets, these are their closest common nodes
abbrev pub AreClosestNodes : {T ID : Type 0} → GraphModel T ID → List ℕ → List ℕ → List T → Type 0
AreClosestNodes g set1 set2 closest = HasNoCommonCycle g.graph set1 set2
    → AreClosestCommon g.graph set1 set2 (map g.node closest)

-- the closest common nodes, as the list that is read off what was found, or an error of a list
pub record FindsClosestCommon {T ID E V : Type 0} (graph : ClosureGraph T ID E)
    (first second : Listing T E) (r : Result V (WalkError E)) (list : V → List T) : Type 0 where
  pub closest : IfOk r (λ found. InEachModelOfTwo graph first second (λ g set1 set2.
      AreClosestNodes g set1 set2 (list found)))
  pub error : IfFails r (IsNeighborsErrorOfTwo graph first second)
