use Rattle.std.proofs.Common.{ℕ, ◌<◌}
use Rattle.jj_diff.specs.Inputs.{bytes_of}
use Rattle.jj_diff.specs.Anchors.{StandsOnceInEach, token_at, lists_of}
use Rattle.jj_diff.proofs.diff.anchors.find_token.Given as goal

abbrev pub invariant-loop-index : goal.invariant-loop-index
invariant-loop-index g l = (k : ℕ) → k < l.index
    → ¬ (StandsOnceInEach g.C.CompareBytes.canonical (bytes_of l.row) (lists_of l.offsets)
    (g.C.CompareBytes.canonical (token_at l.first l.first_offsets k)))
