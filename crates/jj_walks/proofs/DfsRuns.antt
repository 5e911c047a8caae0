-- Whole runs of the iterator `DepthFirst`.
use Rattle.std.proofs.Common.{ℕ, Bool, Option, Result, Ok, List, [], ◌∷◌, ◌++◌, map, subst, append_assoc, append-nil}
use Rattle.std.specs.Fn.{Shared, Mut}
use Rattle.std.specs.Iterator.{Count, Drains}
use Rattle.std.specs.declared.alloc.AllocError.{AllocError}
use denote.Ref.{Bor}
use Rattle.jj_walks.specs.declared.depth_first.DepthFirst.{DepthFirst}
use Rattle.jj_dag.specs.Graph.{IsPreorder}
use Rattle.jj_dag.specs.Walk.{GraphModel}
use Rattle.jj_walks.specs.DfsSteps.{IsLeftOf, Steps}

module _ {T ID F N U S : Type 0} (ids : Shared F (Bor T × Unit {0}) (Result ID AllocError)) (lists : Mut N (Bor T × Unit {0}) U)
    (w : GraphModel T ID) (eq : ID → ID → Bool) (becomes : U → S → Type 0) (steps : S → Option T → S → Type 0) (can : S → Type 0) (left : S → Count) (starts : List ℕ) where
  -- without an allocation failure the run is the preorder
  pub IsPreorder-from_drains : (xs yielded : List T) (s : DepthFirst T ID F N) → IsLeftOf ids lists w eq becomes steps starts yielded s
      → Drains (Steps ids lists eq becomes steps can left) s (map (λ x. Ok x) xs) → IsPreorder w.graph starts (map w.node (yielded ++ xs))
  IsPreorder-from_drains [] yielded s k (u, (t, same, last)) =
      let P : DepthFirst T ID F N → Type 0 = λ v. IsLeftOf ids lists w eq becomes steps starts yielded v in
      rw append-nil (last.walks w starts yielded (subst P same k)).0
  IsPreorder-from_drains (x ∷ xs) yielded s k (u, (t, (j, step, rest), last)) =
      let Q : List T → Type 0 = λ l. IsPreorder w.graph starts (map w.node l) in
      subst Q (append_assoc yielded (x ∷ []) xs) (IsPreorder-from_drains xs (yielded ++ x ∷ []) j (step.walks w starts yielded k) (u, (t, rest, last)))
