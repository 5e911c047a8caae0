use Rattle.std.proofs.Common.{◌≡◌, ◌++◌, map, drop, string_bytes}
use Rattle.jj_conflicts.specs.Contents.{merge_contents}
use Rattle.jj_conflicts.specs.Rendering.{sections}
use Rattle.jj_conflicts.proofs.conflicts.render.push_sections.Given as goal

abbrev pub invariant-loop-index : goal.invariant-loop-index
invariant-loop-index l =
    l.text.items
    ++ sections l.marker_len (map string_bytes l.labels) l.index
    (merge_contents (drop l.index l.terms))
    ≡ l.fn.text.items
    ++ sections l.marker_len (map string_bytes l.labels) 0 (merge_contents l.terms)
