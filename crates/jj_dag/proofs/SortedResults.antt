-- Sorted results of walks: reordering keeps the maximal elements and the closest common nodes.
use Rattle.std.proofs.Common.{ℕ, List, eqb}
use Rattle.std.specs.List.Sorted.{IsPermutation, IsSorted, IsStrictlyIncreasing}
use Rattle.std.specs.Ordering.{nat_cmp}
use Rattle.std.proofs.lemmas.List.Sorted.{Contains-permutation, IsPermutation-sym, IsNonDecreasingBy-from_sort}
use Rattle.std.proofs.lemmas.Map.Keys.{IsDistinct-IsPermutation, IsStrictlyIncreasing-from_distinct}
use Rattle.jj_dag.specs.CommonNodes.{AreClosestCommon}
use Rattle.jj_dag.specs.Graph.{AreMaximalElements, Graph}
use Rattle.jj_dag.proofs.Walking.{eqb-flip}

-- maximal elements under permutation
pub maximal_permuted : (graph : Graph) (nodes found sorted : List ℕ) → IsPermutation found sorted → AreMaximalElements graph nodes found → AreMaximalElements graph nodes sorted
maximal_permuted graph nodes found sorted moved of_found = record {
  all = λ a. ((λ h. (of_found.all a).0 (Contains-permutation sorted found a (IsPermutation-sym found sorted moved) h)), λ h. Contains-permutation found sorted a moved ((of_found.all a).1 h));
  once = IsDistinct-IsPermutation eqb eqb-flip found sorted moved of_found.once;
}

-- a sorted list of distinct nodes is strictly increasing
pub maximal_rising : (graph : Graph) (nodes sorted : List ℕ) → IsSorted nat_cmp sorted → AreMaximalElements graph nodes sorted → IsStrictlyIncreasing sorted
maximal_rising graph nodes sorted in_order of_sorted = IsStrictlyIncreasing-from_distinct sorted (IsNonDecreasingBy-from_sort (λ x. x) sorted in_order) of_sorted.once

-- closest common nodes under permutation
pub closest_permuted : (graph : Graph) (set1 set2 found sorted : List ℕ) → IsPermutation found sorted → AreClosestCommon graph set1 set2 found → AreClosestCommon graph set1 set2 sorted
closest_permuted graph set1 set2 found sorted moved of_found = record {
  all = λ a. ((λ h. (of_found.all a).0 (Contains-permutation sorted found a (IsPermutation-sym found sorted moved) h)), λ h. Contains-permutation found sorted a moved ((of_found.all a).1 h));
  once = IsDistinct-IsPermutation eqb eqb-flip found sorted moved of_found.once;
}

pub closest_rising : (graph : Graph) (set1 set2 sorted : List ℕ) → IsSorted nat_cmp sorted → AreClosestCommon graph set1 set2 sorted → IsStrictlyIncreasing sorted
closest_rising graph set1 set2 sorted in_order of_sorted = IsStrictlyIncreasing-from_distinct sorted (IsNonDecreasingBy-from_sort (λ x. x) sorted in_order) of_sorted.once
