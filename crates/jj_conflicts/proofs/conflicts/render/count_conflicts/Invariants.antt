use Rattle.std.proofs.Common.{◌≡◌, ◌+◌, ◌≤◌, drop}
use Rattle.jj_conflicts.specs.Contents.{contents}
use Rattle.jj_conflicts.specs.Rendering.{conflict_count}
use Rattle.jj_conflicts.proofs.conflicts.render.count_conflicts.Given as goal

abbrev pub invariant-loop-hunk : goal.invariant-loop-hunk
invariant-loop-hunk l = record {
  counted : l.count + conflict_count (contents (drop l.hunk-index l.hunks))
      ≡ conflict_count (contents l.hunks);
  bounded : l.count ≤ l.hunk-index;
}
