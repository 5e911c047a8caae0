use Rattle.std.proofs.Common.{◌≡◌, ℕ, ◌<◌, [], get_or}
use Rattle.jj_diff.specs.Inputs.{bytes_of}
use Rattle.jj_diff.proofs.diff.rows.are_equal.Given as goal

abbrev pub invariant-loop-index : goal.invariant-loop-index
invariant-loop-index g l = (i : ℕ) → i < l.index
    → g.C.CompareBytes.canonical (get_or (bytes_of l.row) i []) ≡ g.C.CompareBytes.canonical (get_or (bytes_of l.row) 0 [])
