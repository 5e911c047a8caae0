-- Lists of the targets of all commits.
-- Cited by contracts of public items: KnowsTargets, targets_at.
use Rattle.std.specs.Prelude.{◌≡◌, ◌↔◌, ◌⊎◌, ◌<◌, ℕ, true, false, List, [], length, slice_get, eqb}
use Rattle.std.specs.Global.{Global}
use Rattle.std.specs.List.{Contains, IsDistinct}
use Rattle.std.specs.Option.{option_map_or}
use Rattle.std.specs.declared.vec.Vec.{Vec}
use Rattle.jj_log.specs.Edges.{AreTargets, LeadsTo}
use Rattle.jj_log.specs.Numbers.{is_elided, parents_of}
use Rattle.jj_log.specs.declared.commits.NumberedCommit.{NumberedCommit}

-- the new list has the elements of the old one and these, each once if they were
pub record AddsNew (added old new : List ℕ) : Type 0 where
  pub all : (t : ℕ) → Contains new t ↔ (Contains old t ⊎ Contains added t)
  pub once : IsDistinct eqb old → IsDistinct eqb new

-- the targets of this number
abbrev pub targets_at : List (Vec ℕ Global) → ℕ → List ℕ
targets_at known n = option_map_or (λ v. v.items) (slice_get known n) []

-- an edge to this parent, or over it, leads to the target
abbrev pub IsVia : List NumberedCommit → ℕ → ℕ → Type 0
IsVia commits t p = ((is_elided commits p ≡ false) × (p ≡ t))
    ⊎ ((is_elided commits p ≡ true) × LeadsTo commits t p)

-- the new list has the elements of the old one and these targets, each once if they were
pub record AddsVia (commits : List NumberedCommit) (parent : ℕ) (old new : List ℕ) : Type 0 where
  pub all : (t : ℕ) → Contains new t ↔ (Contains old t ⊎ IsVia commits t parent)
  pub once : IsDistinct eqb old → IsDistinct eqb new

-- the targets of these commits are known
abbrev pub KnowsTargets : List NumberedCommit → List (Vec ℕ Global) → (ℕ → Type 0) → Type 0
KnowsTargets commits known Which = (n : ℕ) → Which n → n < length commits
    → AreTargets commits n (targets_at known n)

-- those of the parents of this number
abbrev pub KnowsParents : List NumberedCommit → List (Vec ℕ Global) → ℕ → Type 0
KnowsParents commits known n = KnowsTargets commits known (Contains (parents_of commits n))

-- exactly the targets that edges to these parents, or over them, lead to, each once
pub record HasVia (commits : List NumberedCommit) (parents targets : List ℕ) : Type 0 where
  pub all : (t : ℕ) → Contains targets t ↔ ((p : ℕ) × Contains parents p × IsVia commits t p)
  pub once : IsDistinct eqb targets
