-- The history of a store: its commits, with an edge from each to its parents.
-- Cited by contracts of public items: AreFoundAncestors, AreHeadCommits, AreMergeBases,
-- AreReadableAncestors, InEachHistory, IsErrorBelow, IsGreatestHistoryOrder, IsGroupedHistory,
-- IsHistoryError, IsHistoryOrder, IsReadErrorBelow, TakesGreatestHeads.
use Rattle.std.specs.Prelude.{◌≡◌, ◌≢◌, ◌⊎◌, ◌∷◌, ◌++◌, ℕ, List, All, AllPairs, None, Result, Some, filter_map, map}
use Rattle.std.specs.Cmp.Lexicographic.{slice_cmp}
use Rattle.std.specs.List.{AllZip, Contains}
use Rattle.std.specs.Ordering.{nat_cmp}
use Rattle.std.specs.Result.{result_err}
use Rattle.std.specs.Str.{bytes_eq}
use Rattle.std.specs.declared.cmp.Ordering.TheVariants.{Less}
use Rattle.std.specs.declared.result.Result.TheVariants.{Ok, Err}
use Rattle.jj_backend.specs.Objects.{Objects}
use Rattle.jj_backend.specs.Records.{CommitValue}
use Rattle.jj_backend.specs.declared.backend.errors.BackendError.{BackendError}
use Rattle.jj_backend.specs.declared.backend.errors.BackendError.TheVariants.{Memory}
use Rattle.jj_dag.specs.FallibleGraphs.{ok_items}
use Rattle.jj_dag.specs.NodeGraph.{AreMaximalNodes, HasNoCommonNodeCycle, IsChildFirstOrder, IsCommonNode, IsGreatestChildFirstOrder, IsMaximalNode, NodeGraph, ReachesNoCycle, ReachesNode, ReachesSomeCycle}
use Rattle.jj_walks.specs.GroupedOrders.{IsGroupedOrder}
use Rattle.jj_store_walks.specs.Logs.{log_nodes}
use Rattle.jj_store_walks.specs.ReadCommits.{IsReadError, IsReadFailure, IsStored, id_of}
use Rattle.jj_store_walks.specs.declared.read_commit.ReadCommit.{ReadCommit}
use Rattle.jj_store_walks.specs.declared.order.HistoryError.{HistoryError}
use Rattle.jj_store_walks.specs.declared.order.HistoryError.TheVariants.{Read, Cycle}

-- the parents of each commit, by ids
abbrev pub Parents : Type 0
Parents = NodeGraph (List ℕ)

module _ (store : Objects) where
  -- the parents of each commit that the store has, and any of a commit that it lacks
  abbrev pub Completes : Parents → Type 0
  Completes parents = (id : List ℕ) (commit : CommitValue) → store.commits id ≡ Some commit
      → parents id ≡ commit.parents

  -- P of each history that agrees with the store where it has the commit
  abbrev pub InEachHistory : (Parents → Type 0) → Type 0
  InEachHistory P = (parents : Parents) → Completes parents → P parents

  -- exactly the ids that are no proper ancestor of another one, if the ids reach no cycle
  abbrev pub AreHeadCommits : List (List ℕ) → List (List ℕ) → Type 0
  AreHeadCommits ids heads = InEachHistory (λ parents. ReachesNoCycle parents ids
      → AreMaximalNodes parents (Contains ids) heads)

  -- exactly the common ancestors of both sets that are no proper ancestor of another one, as the
  -- store has them, if no common ancestor is on a cycle
  abbrev pub AreMergeBases : List (List ℕ) → List (List ℕ) → List ReadCommit → Type 0
  AreMergeBases set1 set2 bases = InEachHistory (λ parents. HasNoCommonNodeCycle parents set1 set2
      → AreMaximalNodes parents (IsCommonNode parents set1 set2) (map id_of bases)
      × All (IsStored store) bases)

  -- each ancestor of the ids once and before its own ancestors, as the store has them; the ids
  -- reach no cycle
  abbrev pub IsHistoryOrder : List (List ℕ) → List ReadCommit → Type 0
  IsHistoryOrder ids order = InEachHistory (λ parents. ReachesNoCycle parents ids
      × IsChildFirstOrder parents ids (map id_of order) × All (IsStored store) order)

  -- the greatest such order: where another one first differs from it, the id there is less, byte by
  -- byte
  abbrev pub IsGreatestHistoryOrder : List (List ℕ) → List ReadCommit → Type 0
  IsGreatestHistoryOrder ids order = InEachHistory (λ parents. IsGreatestChildFirstOrder
      (λ a b. slice_cmp nat_cmp a b ≡ Less) parents ids (map id_of order))

  -- each id is the greatest, byte by byte, of the heads of itself and those after it: of those that
  -- are no proper ancestor of another one of them
  abbrev pub TakesGreatestHeads : List (List ℕ) → Type 0
  TakesGreatestHeads order = InEachHistory (λ parents. (prefix rest : List (List ℕ))
      (id head : List ℕ) → order ≡ prefix ++ id ∷ rest
      → IsMaximalNode parents (Contains (id ∷ rest)) head → head ≢ id
      → slice_cmp nat_cmp head id ≡ Less)

  -- a child-first order with branches together: each commit is followed by the last of its parents
  -- whose children all came before, if one is
  abbrev pub IsGroupedHistory : List (List ℕ) → List ReadCommit → Type 0
  IsGroupedHistory ids order = IsHistoryOrder ids order
      × IsGroupedOrder bytes_eq (log_nodes order) None (log_nodes order)

  -- `read_commit` may return this error for an ancestor of the ids
  pub record IsReadErrorBelow (may_fail : BackendError → Type 0) (ids : List (List ℕ))
      (e : BackendError) : Type 0 where
    pub id : List ℕ
    pub reached : InEachHistory (λ parents. ReachesNode parents ids id)
    pub read : IsReadError may_fail store e id

  -- `read_commit` may return this error for an ancestor of the ids, or memory ran out
  abbrev pub IsErrorBelow : (BackendError → Type 0) → List (List ℕ) → BackendError → Type 0
  IsErrorBelow may_fail ids e = (e ≡ Memory) ⊎ IsReadErrorBelow may_fail ids e

  -- the error of a read, or the id of an ancestor where the ids reach a cycle
  abbrev pub IsHistoryError : (BackendError → Type 0) → List (List ℕ) → HistoryError → Type 0
  IsHistoryError may_fail ids (Read e) = IsErrorBelow may_fail ids e
  IsHistoryError may_fail ids (Cycle id) = InEachHistory (λ parents. ReachesNode parents ids id
      × ReachesSomeCycle parents ids)

-- the ids of the commits among the results
abbrev pub found_ids : List (Result ReadCommit BackendError) → List (List ℕ)
found_ids found = map id_of (ok_items found)

-- the errors among the results, in their order
abbrev pub found_errors : List (Result ReadCommit BackendError) → List BackendError
found_errors found = filter_map result_err found

module _ (store : Objects) (may_fail : BackendError → Type 0) where
  -- The walk reached the id. It was read: its commit was found, or a read of this id failed; else
  -- memory ran out before.
  abbrev pub IsRead : List (Result ReadCommit BackendError) → List (List ℕ × BackendError) → List ℕ
      → Type 0
  IsRead found failures id = Contains (found_ids found) id
      ⊎ (((e : BackendError) × Contains failures (id, e)) ⊎ Contains found (Err Memory))

  -- The commits found are ancestors of the ids, as the store has them, each once. The errors are
  -- those of failed reads of ancestors, one of each. The ids and the parents of each commit found
  -- were read.
  pub record AreFoundAncestors (ids : List (List ℕ)) (found : List (Result ReadCommit BackendError))
      : Type 0 where
    pub stored : (c : ReadCommit) → Contains found (Ok c) → IsStored store c
    pub reached : (c : ReadCommit) → Contains found (Ok c)
        → InEachHistory store (λ parents. ReachesNode parents ids c.id)
    pub once : AllPairs (λ a b. a ≢ b) (found_ids found)
    -- the reads that failed: the id and the error
    pub failures : List (List ℕ × BackendError)
    pub errors : map (λ failure. failure.1) failures ≡ found_errors found
    pub failed : (id : List ℕ) (e : BackendError) → Contains failures (id, e)
        → IsReadFailure may_fail store e id
        × InEachHistory store (λ parents. ReachesNode parents ids id)
    pub starts_read : (id : List ℕ) → Contains ids id → IsRead found failures id
    pub parents_read : (c : ReadCommit) (id : List ℕ) → Contains found (Ok c)
        → Contains c.commit.parents id → IsRead found failures id

  -- The commits are ancestors of the ids, as the store has them, each once. Each error is that of a
  -- failed read of a lost ancestor. Unless memory ran out, the other ancestors are below lost ones:
  -- without an error there are none.
  pub record AreReadableAncestors (ids : List (List ℕ)) (commits : List ReadCommit)
      (errors : List BackendError) : Type 0 where
    pub stored : All (IsStored store) commits
    pub reached : InEachHistory store (λ parents.
        All (λ c. ReachesNode parents ids c.id) commits)
    pub once : AllPairs (λ a b. a ≢ b) (map id_of commits)
    -- the ids of the reads that failed
    pub lost : List (List ℕ)
    pub failed : AllZip (IsReadFailure may_fail store) errors lost
    pub lost_reached : InEachHistory store (λ parents. All (ReachesNode parents ids) lost)
    pub others : (Contains errors Memory → ⊥) → InEachHistory store (λ parents. (id : List ℕ)
        → ReachesNode parents ids id → Contains (map id_of commits) id
        ⊎ ReachesNode parents lost id)
