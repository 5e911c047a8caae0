use Rattle.std.proofs.Common.{◌≡◌, drop, fold}
use Rattle.jj_conflicts.specs.Contents.{contents}
use Rattle.jj_conflicts.specs.Markers.{marker_len_of_terms}
use Rattle.jj_conflicts.proofs.conflicts.render.choose_materialized_conflict_marker_len.Given as goal

abbrev pub invariant-loop-hunk : goal.invariant-loop-hunk
invariant-loop-hunk l = fold marker_len_of_terms l.marker_len (contents (drop l.hunk-index l.hunks))
    ≡ fold marker_len_of_terms 7 (contents l.hunks)
