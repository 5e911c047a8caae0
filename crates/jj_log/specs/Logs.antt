-- A log: the visible commits with their edges, children first.
-- Cited by contracts of public items: IsGroupedLog, IsLog.
use Rattle.std.specs.Prelude.{◌≡◌, ◌↔◌, ◌++◌, ◌∷◌, [], ℕ, true, List, map, eqb}
use Rattle.std.specs.List.{Contains, IsDistinct}
use Rattle.jj_dag.specs.Graph.{Precedes, StrictlyReaches}
use Rattle.jj_walks.specs.Grouped.{targets_of}
use Rattle.jj_walks.specs.declared.graph.GraphEdge.{GraphEdge}
use Rattle.jj_log.specs.Edges.{AreEdges}
use Rattle.jj_log.specs.Numbers.{is_visible, parents_of}
use Rattle.jj_log.specs.declared.commits.NumberedCommit.{NumberedCommit}

-- a commit and its edges
abbrev pub LogNode : Type 0
LogNode = ℕ × List (GraphEdge ℕ)

-- the numbers of the nodes
abbrev pub numbers_of : List LogNode → List ℕ
numbers_of nodes = map (λ node. node.0) nodes

-- Exactly the visible commits, each once, with its edges, and before each visible commit that is
-- among its ancestors.
pub record IsLog (commits : List NumberedCommit) (nodes : List LogNode) : Type 0 where
  pub all : (n : ℕ) → Contains (numbers_of nodes) n ↔ (is_visible commits n ≡ true)
  pub once : IsDistinct eqb (numbers_of nodes)
  pub edges : (node : LogNode) → Contains nodes node → AreEdges commits node.0 node.1
  pub before : (a b : ℕ) → is_visible commits a ≡ true → is_visible commits b ≡ true
      → StrictlyReaches (parents_of commits) a b → Precedes (numbers_of nodes) a b

-- each node with an edge to the target is one of the earlier ones
abbrev pub IsReady : List LogNode → (earlier : List ℕ) → ℕ → Type 0
IsReady nodes earlier target = (node : LogNode) → Contains nodes node
    → Contains (targets_of node.1) target → Contains earlier node.0

-- one of the targets is ready, and none after it is
pub record IsLastReady (nodes : List LogNode) (earlier targets : List ℕ) (target : ℕ) : Type 0 where
  pub before : List ℕ
  pub after : List ℕ
  pub split : targets ≡ before ++ target ∷ after
  pub ready : IsReady nodes earlier target
  pub last : (other : ℕ) → Contains after other → IsReady nodes earlier other → ⊥

-- Branches are together: the node after another one is the last of the targets of that one whose
-- children all came before, if there is one.
abbrev pub AreTogether : List LogNode → Type 0
AreTogether nodes = (before after : List LogNode) (node next : LogNode)
    → nodes ≡ before ++ node ∷ next ∷ after → (target : ℕ)
    → IsLastReady nodes (numbers_of before ++ node.0 ∷ []) (targets_of node.1) target
    → next.0 ≡ target

-- a log with branches together
pub record IsGroupedLog (commits : List NumberedCommit) (nodes : List LogNode) : Type 0 where
  pub log : IsLog commits nodes
  pub together : AreTogether nodes
