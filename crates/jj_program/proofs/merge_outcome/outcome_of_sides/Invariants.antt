use Rattle.std.proofs.Common.{◌≡◌, ◌+◌, ◌-◌, ◌≤◌, ℕ, None, length}
use Rattle.jj_merges.specs.declared.merge.SameChange.TheVariants.{Keep}
use Rattle.jj_program.proofs.SortedSides.{SidesAt}
use Rattle.jj_program.proofs.merge_outcome.outcome_of_sides.Given as goal

abbrev pub invariant-loop-i : goal.invariant-loop-i
invariant-loop-i l = record {
  sides : (m : ℕ) × (n : ℕ) × SidesAt l.adds l.i l.added m l.removes l.j l.removed n;
  keep : l.same_change ≡ Keep → l.removed ≡ None;
  adds : l.i ≤ length l.adds;
  removes : l.j ≤ length l.removes;
}

abbrev pub decreases-loop-i : goal.decreases-loop-i
decreases-loop-i l = (length l.adds + length l.removes) - (l.i + l.j)
