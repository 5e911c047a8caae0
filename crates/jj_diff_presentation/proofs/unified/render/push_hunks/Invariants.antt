use Rattle.std.proofs.Common.{◌≡◌, ◌++◌, drop}
use Rattle.jj_diff_presentation.specs.PatchText.{hunks_text}
use Rattle.jj_diff_presentation.proofs.unified.render.push_hunks.Given as goal

abbrev pub invariant-loop-hunk : goal.invariant-loop-hunk
invariant-loop-hunk l = l.text.items ++ hunks_text (drop l.hunk-index l.hunks)
    ≡ l.fn.text.items ++ hunks_text l.hunks
