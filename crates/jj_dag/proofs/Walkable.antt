-- The precondition of walks, for callers whose `neighbors_fn` has no state.
use Rattle.std.proofs.Common.{◌≡◌}
use Rattle.std.specs.Fn.{Called, Mut, Shared}
use Rattle.std.proofs.lemmas.Fn.{always_returns_same}
use denote.Ref.{Bor}
use denote.Param.Always.{always_fn, always_mut}
use Rattle.jj_dag.specs.ClosureGraph.{IsWalkable}

-- the precondition `walkable`
pub walkable_by : {T I F N R : Type 0} {ids : Shared F (Bor T × Unit {0}) I} {lists_of : Mut N (Bor T × Unit {0}) R} {ends : R → Type 0} {id_of : F} {neighbors_of : N} → always_fn ids id_of → always_mut lists_of neighbors_of
    → ((a : Bor T × Unit {0}) (r : R) (f : N) → Called lists_of neighbors_of a r f → ends r × (f ≡ neighbors_of))
    → IsWalkable ids lists_of ends id_of neighbors_of
walkable_by id_fn neighbors_fn ends = record { id_fn = id_fn; neighbors_fn = neighbors_fn; lists = always_returns_same _ _ _ ends }
