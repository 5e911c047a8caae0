use Rattle.std.proofs.Common.{ℕ, ◌+◌, ◌≤◌}
use Rattle.jj_diff.specs.Inputs.{bytes_of}
use Rattle.jj_diff.specs.Ends.{AreEndCuts}
use Rattle.jj_diff.proofs.diff.common.first_end_cut.Given as goal

abbrev pub invariant-loop-back : goal.invariant-loop-back
invariant-loop-back g l = (n : ℕ) → n ≤ l.most → AreEndCuts (g.T.Tokenizer.is_end l.tokenizer) (bytes_of l.inputs) n → n + l.back ≤ l.most
