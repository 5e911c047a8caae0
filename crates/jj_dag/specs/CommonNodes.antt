-- The closest common nodes of two sets.
-- Cited by contracts of public items through Found, jj_program.GraphCommand, jj_walks.GraphLaws.
use Rattle.std.specs.Prelude.{◌↔◌, ℕ, List, eqb}
use Rattle.std.specs.List.{Contains, IsDistinct}
use Rattle.jj_dag.specs.Graph.{Graph, StrictlyReaches, ReachedFrom, IsMaximal}

-- both sets reach this node
abbrev pub IsCommon : Graph → List ℕ → List ℕ → ℕ → Type 0
IsCommon g set1 set2 a = ReachedFrom g set1 a × ReachedFrom g set2 a

-- no such node strictly reaches itself
abbrev pub HasNoCommonCycle : Graph → List ℕ → List ℕ → Type 0
HasNoCommonCycle g set1 set2 = (a : ℕ) → IsCommon g set1 set2 a → StrictlyReaches g a a → ⊥

-- the list has exactly the common nodes that no other common node strictly reaches, each once
pub record AreClosestCommon (g : Graph) (set1 set2 closest : List ℕ) : Type 0 where
  pub all : (a : ℕ) → Contains closest a ↔ IsMaximal g (IsCommon g set1 set2) a
  pub once : IsDistinct eqb closest
