use Rattle.std.proofs.Common.{◌≤◌, drop, map, string_bytes}
use Rattle.jj_conflicts.specs.Contents.{contents}
use Rattle.jj_conflicts.proofs.LoopLaws.{Renders}
use Rattle.jj_conflicts.proofs.conflicts.render.materialize.Given as goal

abbrev pub invariant-loop-hunk : goal.invariant-loop-hunk
invariant-loop-hunk l = record {
  renders : Renders l.style l.marker_len (map string_bytes l.labels) l.count (contents l.hunks)
      l.text.items l.number (contents (drop l.hunk-index l.hunks));
  bounded : l.number ≤ l.hunk-index;
}
