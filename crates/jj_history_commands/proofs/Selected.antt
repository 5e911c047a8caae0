-- Selections of a list, one element after the other, and their order.
use Rattle.std.proofs.Common.{zero, suc, List, [], ◌∷◌, ◌++◌, arith, inl, inr, sym, subst}
use Rattle.std.specs.Prelude.{All, AllPairs}
use Rattle.std.proofs.lemmas.List.Elements.{All-cons, All-head, All-tail}
use Rattle.std.proofs.lemmas.List.Kept.{AllPairs-cons}
use Rattle.jj_filesets.specs.Selection.{IsSelected, none, takes, leaves}
use Rattle.jj_filesets.proofs.Selecting.{leaves_last, takes_last}
use Rattle.jj_history_commands.specs.FileSets.{Selects}

module _ {X : Type 0} (InSet : X → Type 0) where
  all_selected : (P : X → Type 0) {all some : List X} → IsSelected InSet all some → All P all → All P some
  all_selected P none h = h
  all_selected P (takes {x = x} {all = all} {some = some} inside rest) h =
      All-cons P x some (All-head P x all h) (all_selected P rest (All-tail P x all h))
  all_selected P (leaves {x = x} {all = all} outside rest) h = all_selected P rest (All-tail P x all h)

  -- a fact of each element and each later one of a list, in a selection of it
  pub pairs_selected : (R : X → X → Type 0) {all some : List X} → IsSelected InSet all some → AllPairs R all → AllPairs R some
  pairs_selected R none h = h
  pairs_selected R (takes {x = x} {all = all} {some = some} inside rest) h =
      AllPairs-cons R x some (all_selected (R x) rest (λ k d within. h zero (suc k) d (omega arith) (omega arith)))
      (pairs_selected R rest (λ i j d lt within. h (suc i) (suc j) d (omega arith) (omega arith)))
  pairs_selected R (leaves {x = x} {all = all} outside rest) h =
      pairs_selected R rest (λ i j d lt within. h (suc i) (suc j) d (omega arith) (omega arith))

  -- one more element
  pub selected_step : (x : X) (all some new : List X) → IsSelected InSet all some → Selects InSet x some new → IsSelected InSet (all ++ x ∷ []) new
  selected_step x all some new before (inl (inside, is)) = subst (IsSelected InSet (all ++ x ∷ [])) (sym is) (takes_last InSet x all some inside before)
  selected_step x all some new before (inr (outside, is)) = subst (IsSelected InSet (all ++ x ∷ [])) (sym is) (leaves_last InSet x all some outside before)
