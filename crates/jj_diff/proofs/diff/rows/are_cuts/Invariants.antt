use Rattle.std.proofs.Common.{ℕ, ◌<◌, [], get_or}
use Rattle.jj_diff.specs.Inputs.{bytes_of}
use Rattle.jj_diff.specs.Tokens.{IsCut}
use Rattle.jj_diff.proofs.diff.rows.are_cuts.Given as goal

abbrev pub invariant-loop-index : goal.invariant-loop-index
invariant-loop-index g l = (i : ℕ) → i < l.index → IsCut (g.T.Tokenizer.is_end l.tokenizer) (get_or (bytes_of l.inputs) i []) (get_or l.offsets i 0)
