use Rattle.std.proofs.Common.{◌≡◌, ℕ, ◌<◌, ◌++◌, [], length, get_or}
use Rattle.jj_diff.specs.Inputs.{bytes_of}
use Rattle.jj_diff.specs.Refined.{AreAdjacent}
use Rattle.jj_diff.proofs.diff.refine.joined_row.Given as goal

abbrev pub invariant-loop-index : goal.invariant-loop-index
invariant-loop-index l = record {
  len : length l.row.items ≡ l.index;
  parts : AreAdjacent (bytes_of l.inputs) l.starts (bytes_of l.first) (bytes_of l.second) → (i : ℕ) → i < l.index
      → get_or (bytes_of l.row.items) i [] ≡ get_or (bytes_of l.first) i [] ++ get_or (bytes_of l.second) i [];
}
