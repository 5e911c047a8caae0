-- The edges of a log: to parents, over elided commits, and to missing commits.
-- Cited by contracts of public items: AreEdges, AreTargets.
use Rattle.std.specs.Prelude.{◌≡◌, ◌↔◌, ◌≤◌, ℕ, true, false, List, length, map, eqb}
use Rattle.std.specs.List.{Contains, IsDistinct}
use Rattle.jj_walks.specs.declared.graph.GraphEdge.{GraphEdge}
use Rattle.jj_walks.specs.declared.graph.GraphEdgeType.{GraphEdgeType}
use Rattle.jj_walks.specs.declared.graph.GraphEdgeType.TheVariants.{Missing, Direct, Indirect}
use Rattle.jj_log.specs.Numbers.{is_elided, is_visible, parents_of}
use Rattle.jj_log.specs.declared.commits.NumberedCommit.{NumberedCommit}

-- The target is a parent of the commit, or one of a parent that is left out, and so on: all
-- commits between the two are left out, and the target is not.
pub data LeadsTo (commits : List NumberedCommit) (target : ℕ) : ℕ → Type 0 where
  parent : {n : ℕ} → Contains (parents_of commits n) target → is_elided commits target ≡ false
      → LeadsTo commits target n
  over : {n m : ℕ} → Contains (parents_of commits n) m → is_elided commits m ≡ true
      → LeadsTo commits target m → LeadsTo commits target n

-- missing: no commit of the list; direct: a visible commit that is one of the parents; indirect: a
-- visible one that is not
abbrev pub IsOfType : List NumberedCommit → (parents : List ℕ) → GraphEdgeType → ℕ → Type 0
IsOfType commits parents Missing t = length commits ≤ t
IsOfType commits parents Direct t = (is_visible commits t ≡ true) × Contains parents t
IsOfType commits parents Indirect t = (is_visible commits t ≡ true) × (Contains parents t → ⊥)

module _ (commits : List NumberedCommit) (n : ℕ) where
  -- exactly the targets that the commit leads to, each once
  pub record AreTargets (targets : List ℕ) : Type 0 where
    pub all : (t : ℕ) → Contains targets t ↔ LeadsTo commits t n
    pub once : IsDistinct eqb targets

  -- an edge to each target of the commit
  pub record AreEdges (edges : List (GraphEdge ℕ)) : Type 0 where
    pub targets : AreTargets (map (λ edge. edge.target) edges)
    pub types : (edge : GraphEdge ℕ) → Contains edges edge
        → IsOfType commits (parents_of commits n) edge.edge_type edge.target
