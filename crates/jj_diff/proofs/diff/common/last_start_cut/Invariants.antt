use Rattle.std.proofs.Common.{ℕ, ◌+◌, ◌≤◌}
use Rattle.jj_diff.specs.Inputs.{bytes_of}
use Rattle.jj_diff.specs.Ends.{AreStartCuts}
use Rattle.jj_diff.proofs.diff.common.last_start_cut.Given as goal

abbrev pub invariant-loop-back : goal.invariant-loop-back
invariant-loop-back g l = (n : ℕ) → n ≤ l.most → AreStartCuts (g.T.Tokenizer.is_end l.tokenizer) (bytes_of l.inputs) n → n + l.back ≤ l.most
