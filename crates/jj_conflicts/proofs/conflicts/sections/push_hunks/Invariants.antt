use Rattle.std.proofs.Common.{◌≡◌, ◌++◌, drop}
use Rattle.jj_conflicts.specs.Rendering.{diff_text}
use Rattle.jj_conflicts.proofs.conflicts.sections.push_hunks.Given as goal

abbrev pub invariant-loop-hunk : goal.invariant-loop-hunk
invariant-loop-hunk l = l.text.items ++ diff_text (drop l.hunk-index l.hunks)
    ≡ l.fn.text.items ++ diff_text l.hunks
