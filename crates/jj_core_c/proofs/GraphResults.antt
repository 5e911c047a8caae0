-- The results of walks over the lists of an acyclic graph are those over its arrays.
use Rattle.std.proofs.Common.{◌≡◌, ℕ, List, [], get_or, subst}
use Rattle.std.specs.List.Sorted.{IsStrictlyIncreasing}
use Rattle.jj_dag.specs.ArrayGraphs.{HasCycle}
use Rattle.jj_dag.specs.CommonNodes.{HasNoCommonCycle, AreClosestCommon}
use Rattle.jj_dag.specs.Graph.{AreMaximalElements, IsAcyclicFrom}
use Rattle.jj_core_c.specs.ArrayGraphs.{AreAscendingCommon, AreAscendingHeads, graph_of}
use Rattle.jj_core_c.specs.Pieces.{pieces_of}

module _ (targets ends : List ℕ) (lists : List (List ℕ)) (is : lists ≡ pieces_of targets ends) (none : HasCycle (graph_of targets ends) → ⊥) where
  pub heads_of : (nodes found : List ℕ) → (IsAcyclicFrom (λ n. get_or lists n []) nodes → AreMaximalElements (λ n. get_or lists n []) nodes found)
      → (IsAcyclicFrom (λ n. get_or lists n []) nodes → IsStrictlyIncreasing found) → AreAscendingHeads (graph_of targets ends) nodes found
  heads_of nodes found maximal ascending = (
    subst (λ (ls : List (List ℕ)). IsAcyclicFrom (λ n. get_or ls n []) nodes → AreMaximalElements (λ n. get_or ls n []) nodes found) is maximal (λ a reached round. none (a, round)),
    subst (λ (ls : List (List ℕ)). IsAcyclicFrom (λ n. get_or ls n []) nodes → IsStrictlyIncreasing found) is ascending (λ a reached round. none (a, round)),
  )

  pub common_of : (set1 set2 found : List ℕ) → (HasNoCommonCycle (λ n. get_or lists n []) set1 set2 → AreClosestCommon (λ n. get_or lists n []) set1 set2 found)
      → (HasNoCommonCycle (λ n. get_or lists n []) set1 set2 → IsStrictlyIncreasing found) → AreAscendingCommon (graph_of targets ends) set1 set2 found
  common_of set1 set2 found closest ascending = (
    subst (λ (ls : List (List ℕ)). HasNoCommonCycle (λ n. get_or ls n []) set1 set2 → AreClosestCommon (λ n. get_or ls n []) set1 set2 found) is closest (λ a reached round. none (a, round)),
    subst (λ (ls : List (List ℕ)). HasNoCommonCycle (λ n. get_or ls n []) set1 set2 → IsStrictlyIncreasing found) is ascending (λ a reached round. none (a, round)),
  )
