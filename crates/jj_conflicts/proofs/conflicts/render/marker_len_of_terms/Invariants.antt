use Rattle.std.proofs.Common.{◌≡◌, drop}
use Rattle.jj_conflicts.specs.Contents.{merge_contents}
use Rattle.jj_conflicts.specs.Markers.{marker_len_of_terms}
use Rattle.jj_conflicts.proofs.conflicts.render.marker_len_of_terms.Given as goal

abbrev pub invariant-loop-term : goal.invariant-loop-term
invariant-loop-term l = marker_len_of_terms l.marker_len (merge_contents (drop l.term-index l.terms))
    ≡ marker_len_of_terms l.fn.marker_len (merge_contents l.terms)
