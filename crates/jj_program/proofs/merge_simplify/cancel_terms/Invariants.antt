-- The cancellation so far leads to the whole one.
use Rattle.std.proofs.Common.{◌≡◌, ◌+◌, ◌*◌, ◌-◌, ◌<◌, ◌≤◌, List, All, length}
use Rattle.jj_merges.specs.Simplify.{equal_at}
use Rattle.jj_merges.proofs.Cancellation.{simplified_sides}
use Rattle.jj_program.specs.Lines.{Text}
use Rattle.jj_program.specs.MergeViews.{text_eq}
use Rattle.jj_program.specs.MergeSimplify.{is_left}
use Rattle.jj_program.specs.TermClasses.{AreClassesOf}
use Rattle.jj_program.proofs.CancelSteps.{IsOnTheWay}
use Rattle.jj_program.proofs.FirstRemoves.{AreHeads}
use Rattle.jj_program.proofs.LeftPositions.{rank}
use Rattle.jj_program.proofs.merge_simplify.cancel_terms.Given as goal

abbrev pub invariant-loop-current : goal.invariant-loop-current
invariant-loop-current l = record {
  within : l.current ≤ length l.adds;
  sizes : 2 * length l.adds ≡ length l.classes + 1;
  heads_size : length l.heads ≡ length l.classes;
  heads : AreHeads l.classes l.heads;
  adds : All (λ add. add < length l.classes) l.adds;
  way : (terms : List Text) → AreClassesOf terms l.classes → IsOnTheWay (equal_at text_eq terms) l.classes (simplified_sides text_eq terms) l.heads l.adds l.current;
}

abbrev pub decreases-loop-current : goal.decreases-loop-current
decreases-loop-current l = rank (is_left l.classes l.heads) (length l.adds) + (length l.adds - l.current)
