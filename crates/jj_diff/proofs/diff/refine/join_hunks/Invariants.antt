use Rattle.std.proofs.Common.{◌≡◌, ◌-◌, drop, length, map, reverse}
use Rattle.jj_diff.specs.Inputs.{bytes_of}
use Rattle.jj_diff.specs.Refined.{AreHunksOf, joined, view_of}
use Rattle.jj_diff.proofs.Joining.{AreStartsAt}
use Rattle.jj_diff.proofs.diff.refine.join_hunks.Given as goal

abbrev pub invariant-loop-count : goal.invariant-loop-count
invariant-loop-count l = record {
  starts : AreHunksOf (bytes_of l.inputs) l.hunks → AreStartsAt (bytes_of l.inputs) l.hunks (length l.hunks - l.count) l.starts.items;
  joined : AreHunksOf (bytes_of l.inputs) l.hunks
      → map view_of (reverse l.reversed.items) ≡ joined (map view_of (drop (length l.hunks - l.count) l.hunks));
}
