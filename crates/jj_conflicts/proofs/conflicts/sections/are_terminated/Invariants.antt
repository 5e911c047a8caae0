use Rattle.std.proofs.Common.{◌≡◌, drop}
use Rattle.jj_conflicts.specs.Contents.{merge_contents}
use Rattle.jj_conflicts.specs.Rendering.{all_terminated}
use Rattle.jj_conflicts.proofs.conflicts.sections.are_terminated.Given as goal

abbrev pub invariant-loop-term : goal.invariant-loop-term
invariant-loop-term l = all_terminated (merge_contents (drop l.term-index l.terms))
    ≡ all_terminated (merge_contents l.terms)
