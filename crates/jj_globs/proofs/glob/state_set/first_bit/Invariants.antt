-- No bit before this word is set.
use Rattle.std.proofs.Common.{◌≤◌, ◌*◌, ◌-◌, ℕ, length}
use Rattle.jj_globs.specs.GlobNfa.{HasBit}
use Rattle.jj_globs.proofs.glob.state_set.first_bit.Given as goal

abbrev pub invariant-loop-word : goal.invariant-loop-word
invariant-loop-word l = record { before : (j : ℕ) → HasBit l.words j → l.word * 64 ≤ j }

abbrev pub decreases-loop-word : goal.decreases-loop-word
decreases-loop-word l = length l.words - l.word
